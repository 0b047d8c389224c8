pub mod Waiting
pub mod Turns
pub mod Index
pub mod Handover
-- Re-exports for the crates above.
pub use Rattle.entry_tree.specs.fleet_rows as fleet_rows
pub use Rattle.entry_tree.specs.wire_spec as wire_spec
pub use Rattle.entry_tree.specs.history_spec as history_spec
pub use Rattle.entry_tree.specs.table_spec as table_spec
pub use Rattle.entry_tree.specs.record_spec as record_spec
pub use Rattle.entry_tree.specs.core_machine as core_machine
