pub mod DumpTexts
pub mod DumpExamples
-- What those above use of the crates below.
pub use Rattle.list_again.proofs.of_plain_laws as of_plain_laws
pub use Rattle.list_again.proofs.of_table_machine.of_text_spec as of_text_spec
pub use Rattle.list_again.proofs.of_table_machine.of_json_machine as of_json_machine
pub use Rattle.list_again.proofs.of_text_laws as of_text_laws
pub use Rattle.list_again.proofs.of_stamp_time as of_stamp_time
pub use Rattle.list_again.proofs.of_wire_laws as of_wire_laws
pub use Rattle.list_again.proofs.of_history_laws as of_history_laws
pub use Rattle.list_again.proofs.of_table_machine as of_table_machine
pub use Rattle.list_again.proofs.of_table_laws as of_table_laws
pub use Rattle.list_again.proofs.of_checkpoint_spec as of_checkpoint_spec
pub use Rattle.list_again.proofs as of_list_again
