pub mod Leaves
pub mod Rows
pub mod Steps
pub mod Under
pub mod Laws
-- The words of lower crates that the files above use.
pub use Rattle.fleet_rows.specs as fleet_rows
pub use Rattle.fleet_rows.specs.text_spec as text_spec
pub use Rattle.fleet_rows.specs.json_tree as json_tree
