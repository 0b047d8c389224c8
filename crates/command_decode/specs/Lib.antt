pub mod Faults
pub mod Answers
-- The words of lower crates that the files above use.
pub use Rattle.json_read.specs.text_spec as text_spec
pub use Rattle.json_read.specs.json_tree as json_tree
pub use Rattle.json_read.specs.stamp_time as stamp_time
pub use Rattle.wire_catalog.specs.fleet_rows as fleet_rows
pub use Rattle.wire_catalog.specs.wire_spec as wire_spec
pub use Rattle.wire_laws.specs.history_spec as history_spec
