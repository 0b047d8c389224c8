pub mod Tokens
pub mod Grammar
pub mod Texts
pub mod Laws
-- Re-exports for the crates above.
pub use Rattle.query_spec.specs.text_spec as text_spec
pub use Rattle.query_spec.specs.json_tree as json_tree
pub use Rattle.query_spec.specs as query_spec
