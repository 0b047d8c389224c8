pub mod Answered
pub mod PqlAnswered
-- What those above use of the crates below.
pub use Rattle.ast_reader.proofs.of_plain_laws as of_plain_laws
pub use Rattle.ast_reader.proofs.of_stamp_time as of_stamp_time
pub use Rattle.pql_reader.proofs.of_pql_machine as of_pql_machine
pub use Rattle.means_laws.proofs as of_means_laws
