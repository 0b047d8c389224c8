pub mod Numbers
pub mod Scaled
pub mod Tree
pub mod TreeFalls
pub mod Places
pub mod Indexes
pub mod Plain
pub mod KeyOrder
pub mod Arranged
pub mod InOrder
pub mod Held
pub mod NextMember
pub mod Marks
pub mod Limits
-- The words of lower crates that the files above use.
pub use Rattle.text_spec.specs as text_spec
