pub mod Answers
pub mod Examples
pub mod Framing
pub mod HeadEnd
pub mod HeadText
pub mod Limits
pub mod Requests
-- The words of lower crates that the files above use.
pub use Rattle.json_tree.specs.text_spec as text_spec
pub use Rattle.json_tree.specs as json_tree
