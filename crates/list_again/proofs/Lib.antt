pub mod Turned
pub mod Blocks
pub mod Reports
pub mod ToldNodes
pub mod ToldTables
pub mod Again
pub mod ActivityThere
pub mod HistoryTables
-- What those above use of the crates below.
pub use Rattle.checkpoint_spec.proofs.of_plain_laws as of_plain_laws
pub use Rattle.checkpoint_spec.proofs.of_text_laws as of_text_laws
pub use Rattle.checkpoint_spec.proofs.of_stamp_time as of_stamp_time
pub use Rattle.checkpoint_spec.proofs.of_wire_laws as of_wire_laws
pub use Rattle.checkpoint_spec.proofs.of_history_laws as of_history_laws
pub use Rattle.checkpoint_spec.proofs.of_table_machine as of_table_machine
pub use Rattle.checkpoint_spec.proofs.of_table_laws as of_table_laws
pub use Rattle.checkpoint_spec.proofs as of_checkpoint_spec
