pub mod Laid
pub mod Verdicts
-- What those above use of the crates below.
pub use Rattle.core_submits.proofs.of_core_laws as of_core_laws
pub use Rattle.core_submits.proofs.of_retry_discard as of_retry_discard
pub use Rattle.core_submits.proofs.of_queue_log as of_queue_log
pub use Rattle.core_submits.proofs.of_core_state as of_core_state
pub use Rattle.core_settles.proofs as of_core_settles
pub use Rattle.core_opening.proofs as of_core_opening
