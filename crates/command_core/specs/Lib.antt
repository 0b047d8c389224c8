pub mod AtRest
pub mod Laid
-- Re-exports for the crates above.
pub use Rattle.core_layout.specs.log_spec as log_spec
pub use Rattle.core_layout.specs.log_pair as log_pair
pub use Rattle.core_layout.specs.record_spec as record_spec
pub use Rattle.core_layout.specs.queue_records as queue_records
pub use Rattle.core_layout.specs.store_records as store_records
pub use Rattle.core_layout.specs.core_spec as core_spec
pub use Rattle.core_submits.specs.core_laws as core_laws
pub use Rattle.core_submits.specs.retry_discard as retry_discard
pub use Rattle.core_submits.specs.fleet_keeper as fleet_keeper
pub use Rattle.core_layout.specs as core_layout
pub use Rattle.core_submits.specs.queue_log as queue_log
pub use Rattle.core_submits.specs.core_state as core_state
pub use Rattle.core_opening.specs as core_opening
pub use Rattle.core_submits.specs as core_submits
pub use Rattle.core_settles.specs.core_claims as core_claims
pub use Rattle.core_settles.specs as core_settles
pub use Rattle.core_sweeps.specs as core_sweeps
pub use Rattle.core_compact.specs as core_compact
