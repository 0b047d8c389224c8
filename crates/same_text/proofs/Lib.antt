pub mod AlikeLaws
pub mod LevelLaws
pub mod MemberSteps
-- What those above use of the crates below.
pub use Rattle.json_tree.proofs.of_text_spec as of_text_spec
