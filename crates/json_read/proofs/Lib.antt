pub mod Steps
pub mod Frames
pub mod Public
pub mod NumberSteps
pub mod Members
pub mod Stacks
pub mod Runs
pub mod Lanes
pub mod HeadLaws
-- What those above use of the crates below.
pub use Rattle.json_machine.proofs.of_plain_laws as of_plain_laws
pub use Rattle.json_machine.proofs.of_text_spec as of_text_spec
pub use Rattle.json_machine.proofs as of_json_machine
pub use Rattle.json_tree.proofs as of_json_tree
pub use Rattle.stamp_time.proofs as of_stamp_time
