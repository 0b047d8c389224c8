pub mod Parts
pub mod Refusals
pub mod Changes
pub mod Queue
pub mod Store
-- Re-exports for the crates above.
pub use Rattle.history_spec.specs.stamp_time as stamp_time
pub use Rattle.history_spec.specs.fleet_rows as fleet_rows
pub use Rattle.history_spec.specs as history_spec
