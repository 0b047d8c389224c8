pub mod SortedLists
pub mod ShownRows
pub mod FactTables
pub mod EachRow
pub mod Hashes
pub mod RowNodes
pub mod SortedRows
pub mod ReorderedRows
pub mod Joins
pub mod CatalogHashes
pub mod LatestReports
pub mod ShownColumns
pub mod PrintedMoments
pub mod PrintedCells
pub mod PrintedRows
-- What those above use of the crates below.
pub use Rattle.table_machine.proofs.of_plain_laws as of_plain_laws
pub use Rattle.table_machine.proofs.of_text_laws as of_text_laws
pub use Rattle.table_machine.proofs.of_stamp_time as of_stamp_time
pub use Rattle.table_machine.proofs.of_wire_laws as of_wire_laws
pub use Rattle.table_machine.proofs.of_history_laws as of_history_laws
pub use Rattle.table_machine.proofs as of_table_machine
