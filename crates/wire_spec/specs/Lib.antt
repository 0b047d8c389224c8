pub mod Refusals
pub mod Table
pub mod Decode
pub mod Counted
-- The words of lower crates that the files above use.
pub use Rattle.fleet_rows.specs.text_spec as text_spec
pub use Rattle.fleet_rows.specs.json_tree as json_tree
pub use Rattle.fleet_rows.specs.stamp_time as stamp_time
pub use Rattle.fleet_rows.specs as fleet_rows
