pub mod Commands
pub mod History
pub mod Legal
pub mod Thread
pub mod Pending
pub mod Discards
pub mod Checkpoints
pub mod Stands
pub mod Damage
pub mod Files
-- Re-exports for the crates above.
pub use Rattle.log_spec.specs as log_spec
pub use Rattle.json_read.specs.text_spec as text_spec
pub use Rattle.json_read.specs.json_machine as json_machine
pub use Rattle.json_read.specs.stamp_time as stamp_time
pub use Rattle.json_read.specs as json_read
pub use Rattle.table_spec.specs.fleet_rows as fleet_rows
pub use Rattle.table_spec.specs.wire_spec as wire_spec
pub use Rattle.table_spec.specs.history_spec as history_spec
pub use Rattle.table_spec.specs as table_spec
pub use Rattle.record_spec.specs as record_spec
