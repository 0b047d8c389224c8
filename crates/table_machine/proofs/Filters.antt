-- These stand in `history_laws`.
pub use Rattle.history_laws.proofs.Filters.{filter-filter, filter-same, filter-among, any-filter, filter-all, filter-map, map-among, map-map}
