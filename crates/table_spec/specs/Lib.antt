pub mod Columns
pub mod Sorted
pub mod Cells
pub mod Rows
pub mod Named
pub mod RowsText
-- Re-exports for the crates above.
pub use Rattle.history_spec.specs.text_spec as text_spec
pub use Rattle.history_spec.specs.json_machine as json_machine
pub use Rattle.history_spec.specs.json_tree as json_tree
pub use Rattle.history_spec.specs.stamp_time as stamp_time
pub use Rattle.history_spec.specs.fleet_rows as fleet_rows
pub use Rattle.history_spec.specs.wire_spec as wire_spec
pub use Rattle.history_spec.specs as history_spec
