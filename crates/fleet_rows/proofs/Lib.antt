pub mod ColumnLaws
pub mod ColumnSteps
pub mod LimitValues
-- What those above use of the crates below.
pub use Rattle.json_tree.proofs.of_plain_laws as of_plain_laws
pub use Rattle.json_tree.proofs.of_text_spec as of_text_spec
pub use Rattle.json_tree.proofs as of_json_tree
pub use Rattle.stamp_time.proofs as of_stamp_time
