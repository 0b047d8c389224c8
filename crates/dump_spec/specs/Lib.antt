pub mod Stamps
pub mod Payloads
pub mod Dumps
pub mod Laws
-- Re-exports for the crates above.
pub use Rattle.list_again.specs.text_spec as text_spec
pub use Rattle.list_again.specs.fleet_rows as fleet_rows
pub use Rattle.list_again.specs.history_spec as history_spec
pub use Rattle.list_again.specs.table_machine.json_machine as json_machine
pub use Rattle.list_again.specs.table_spec as table_spec
pub use Rattle.list_again.specs.table_machine as table_machine
pub use Rattle.list_again.specs.history_laws as history_laws
pub use Rattle.list_again.specs.checkpoint_spec as checkpoint_spec
pub use Rattle.list_again.specs as list_again
pub use Rattle.list_again.specs.stamp_time as stamp_time
pub use Rattle.list_again.specs.wire_spec as wire_spec
pub use Rattle.list_again.specs.spool_spec.json_tree as json_tree
pub use Rattle.list_again.specs.spool_spec as spool_spec
