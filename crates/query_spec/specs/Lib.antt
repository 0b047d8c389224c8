pub mod Limits
pub mod Query
pub mod Code
pub mod Words
pub mod Parts
pub mod Ast
pub mod Check
pub mod Answer
-- Re-exports for the crates above.
pub use Rattle.fleet_rows.specs.text_spec as text_spec
pub use Rattle.fleet_rows.specs.json_tree as json_tree
pub use Rattle.fleet_rows.specs as fleet_rows
