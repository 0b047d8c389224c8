pub mod Cell
pub mod Change
pub mod Columns
pub mod Defaults
pub mod Lifetime
pub mod Limits
pub mod Printed
pub mod Rank
pub mod Texts
-- The words of lower crates that the files above use.
pub use Rattle.json_tree.specs.text_spec as text_spec
pub use Rattle.json_tree.specs as json_tree
pub use Rattle.stamp_time.specs as stamp_time
