pub mod Releases
pub mod Frees
pub mod Choice
pub mod Turns
pub mod Claims
pub mod Runs
pub mod Calls
-- Re-exports for the crates above.
pub use Rattle.core_state.specs.fleet_ports as fleet_ports
pub use Rattle.core_state.specs.fleet_rows as fleet_rows
pub use Rattle.core_state.specs.wire_spec as wire_spec
pub use Rattle.core_state.specs.history_spec as history_spec
pub use Rattle.core_state.specs.table_machine as table_machine
pub use Rattle.core_state.specs.fleet_tables as fleet_tables
pub use Rattle.core_state.specs.record_spec as record_spec
pub use Rattle.core_state.specs.core_spec as core_spec
pub use Rattle.core_state.specs.core_machine as core_machine
pub use Rattle.core_state.specs.core_laws as core_laws
pub use Rattle.core_state.specs.supersede_core as supersede_core
pub use Rattle.core_state.specs.fleet_keeper as fleet_keeper
pub use Rattle.core_state.specs.queue_log as queue_log
pub use Rattle.core_state.specs as core_state
