pub mod Lawful
pub mod Trace
pub mod Node
pub mod Report
pub mod Life
pub mod Facts
pub mod Thread
-- The words of lower crates that the files above use.
pub use Rattle.json_machine.specs.text_spec as text_spec
pub use Rattle.json_machine.specs as json_machine
pub use Rattle.wire_spec.specs.json_tree as json_tree
pub use Rattle.wire_spec.specs.stamp_time as stamp_time
pub use Rattle.wire_spec.specs.fleet_rows as fleet_rows
pub use Rattle.wire_spec.specs as wire_spec
