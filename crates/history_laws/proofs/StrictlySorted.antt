-- These stand in `plain_laws`.
pub use Rattle.spool_spec.proofs.of_plain_laws.StrictlySorted.{sorted-nil, sorted-cons, sorted-below, sorted-rest, sorted-append, sorted-map, sorted-flat_map, not_both, sorted-unique}
