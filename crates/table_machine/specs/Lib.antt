pub mod Places
pub mod Table
pub mod Node
pub mod Steps
pub mod Rows
pub mod Laws
-- Re-exports for the crates above.
pub use Rattle.table_spec.specs.text_spec as text_spec
pub use Rattle.table_spec.specs.json_machine as json_machine
pub use Rattle.table_spec.specs.stamp_time as stamp_time
pub use Rattle.table_spec.specs.fleet_rows as fleet_rows
pub use Rattle.table_spec.specs.wire_spec as wire_spec
pub use Rattle.table_spec.specs.history_spec as history_spec
pub use Rattle.table_spec.specs as table_spec
pub use Rattle.history_laws.specs.spool_spec as spool_spec
pub use Rattle.history_laws.specs as history_laws
