pub mod KeptOrder
pub mod NodesAgain
pub mod ListLaws
-- What those above use of the crates below.
pub use Rattle.table_laws.proofs.of_plain_laws as of_plain_laws
pub use Rattle.table_laws.proofs.of_text_laws as of_text_laws
pub use Rattle.table_laws.proofs.of_stamp_time as of_stamp_time
pub use Rattle.table_laws.proofs.of_wire_laws as of_wire_laws
pub use Rattle.table_laws.proofs.of_history_laws as of_history_laws
pub use Rattle.table_laws.proofs.of_table_machine as of_table_machine
pub use Rattle.table_laws.proofs as of_table_laws
