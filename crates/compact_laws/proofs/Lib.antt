pub mod ListRecords
pub mod LawfulTables
-- What those above use of the crates below.
pub use Rattle.core_laws.proofs.of_table_laws as of_table_laws
pub use Rattle.core_laws.proofs.of_core_machine as of_core_machine
pub use Rattle.core_laws.proofs as of_core_laws
