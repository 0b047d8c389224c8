pub mod Waits
pub mod Tree
-- Re-exports for the crates above.
pub use Rattle.core_machine.specs.fleet_rows as fleet_rows
pub use Rattle.core_machine.specs.wire_spec as wire_spec
pub use Rattle.core_machine.specs.history_spec as history_spec
pub use Rattle.core_machine.specs.table_spec as table_spec
pub use Rattle.core_machine.specs.record_spec as record_spec
pub use Rattle.core_machine.specs.core_spec as core_spec
pub use Rattle.core_machine.specs as core_machine
