pub mod Numbers
pub mod Strings
pub mod Found
pub mod Fields
pub mod Heads
pub mod Passed
pub mod HeadSteps
-- The words of lower crates that the files above use.
pub use Rattle.json_machine.specs.text_spec as text_spec
pub use Rattle.json_machine.specs as json_machine
pub use Rattle.json_tree.specs as json_tree
pub use Rattle.stamp_time.specs as stamp_time
