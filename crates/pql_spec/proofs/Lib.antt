pub mod Either
pub mod OneList
pub mod PqlExamples
-- What those above use of the crates below.
pub use Rattle.query_spec.proofs.of_plain_laws as of_plain_laws
pub use Rattle.query_spec.proofs.of_json_tree as of_json_tree
