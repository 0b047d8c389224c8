pub mod Plan
pub mod Made
pub mod Laws
-- Re-exports for the crates above.
pub use Rattle.ast_tree.specs.query_spec as query_spec
pub use Rattle.means_spec.specs.table_spec as table_spec
pub use Rattle.means_spec.specs as means_spec
