mod AstExamples
pub mod Counts
pub mod LimitValues
-- What those above use of the crates below.
pub use Rattle.fleet_rows.proofs.of_plain_laws as of_plain_laws
pub use Rattle.fleet_rows.proofs.of_json_tree as of_json_tree
