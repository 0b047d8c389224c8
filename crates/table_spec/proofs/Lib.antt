pub mod NamedLaws
mod RowExamples
mod StateExamples
-- What those above use of the crates below.
pub use Rattle.history_spec.proofs.of_plain_laws as of_plain_laws
pub use Rattle.history_spec.proofs.of_text_spec as of_text_spec
pub use Rattle.history_spec.proofs.of_json_machine as of_json_machine
pub use Rattle.history_spec.proofs.of_stamp_time as of_stamp_time
