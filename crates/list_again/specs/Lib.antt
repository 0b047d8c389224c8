pub mod Told
pub mod Rules
pub mod Whole
pub mod Laws
-- Re-exports for the crates above.
pub use Rattle.checkpoint_spec.specs.text_spec as text_spec
pub use Rattle.checkpoint_spec.specs.stamp_time as stamp_time
pub use Rattle.checkpoint_spec.specs.fleet_rows as fleet_rows
pub use Rattle.checkpoint_spec.specs.history_spec as history_spec
pub use Rattle.checkpoint_spec.specs.table_spec as table_spec
pub use Rattle.checkpoint_spec.specs.table_machine as table_machine
pub use Rattle.checkpoint_spec.specs.history_laws as history_laws
pub use Rattle.checkpoint_spec.specs.table_machine.spool_spec as spool_spec
pub use Rattle.checkpoint_spec.specs.table_machine.wire_spec as wire_spec
pub use Rattle.checkpoint_spec.specs as checkpoint_spec
