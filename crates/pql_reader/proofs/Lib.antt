pub mod Readings
pub mod AnswerLaws
pub mod AdmitLaws
-- What those above use of the crates below.
pub use Rattle.pql_machine.proofs as of_pql_machine
