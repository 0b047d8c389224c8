pub mod ReadyCommand
pub mod Submits
pub mod Call
-- Re-exports for the crates above.
pub use Rattle.core_state.specs.fleet_tables as fleet_tables
pub use Rattle.core_state.specs.core_machine as core_machine
pub use Rattle.core_state.specs.core_laws as core_laws
pub use Rattle.core_state.specs.supersede_core as supersede_core
pub use Rattle.core_state.specs.retry_discard as retry_discard
pub use Rattle.core_state.specs.fleet_keeper as fleet_keeper
pub use Rattle.core_state.specs.queue_log as queue_log
pub use Rattle.core_state.specs as core_state
