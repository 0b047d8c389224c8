pub mod AnswerLaws
pub mod Fronts
pub mod Selects
-- What those above use of the crates below.
pub use Rattle.json_read.proofs.of_plain_laws as of_plain_laws
pub use Rattle.json_read.proofs.of_stamp_time as of_stamp_time
