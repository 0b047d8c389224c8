pub mod SweptTables
-- What those above use of the crates below.
pub use Rattle.fleet_tables.proofs.of_plain_laws as of_plain_laws
pub use Rattle.fleet_tables.proofs.of_stamp_time as of_stamp_time
