pub mod EachLaws
pub mod NameLaws
pub mod DistinctLaws
pub mod KeyLaws
pub mod MarkLaws
pub mod ApartLaws
pub mod SortLaws
pub mod FallLaws
pub mod OrderLaws
-- What those above use of the crates below.
pub use Rattle.wire_fields.proofs.of_fleet_rows as of_fleet_rows
pub use Rattle.wire_laws.proofs as of_wire_laws
