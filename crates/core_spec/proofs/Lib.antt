mod CommandExamples
mod HistoryExamples
mod LegalExamples
mod StandsExamples
mod DoneExamples
mod DamageExamples
-- What those above use of the crates below.
pub use Rattle.json_read.proofs.of_plain_laws as of_plain_laws
pub use Rattle.json_read.proofs.of_json_machine as of_json_machine
pub use Rattle.log_spec.proofs as of_log_spec
