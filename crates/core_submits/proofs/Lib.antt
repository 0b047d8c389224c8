pub mod Submits
-- What those above use of the crates below.
pub use Rattle.core_state.proofs.of_core_laws as of_core_laws
pub use Rattle.core_state.proofs.of_retry_discard as of_retry_discard
pub use Rattle.core_state.proofs.of_fleet_keeper as of_fleet_keeper
pub use Rattle.core_state.proofs.of_queue_log as of_queue_log
pub use Rattle.core_state.proofs as of_core_state
