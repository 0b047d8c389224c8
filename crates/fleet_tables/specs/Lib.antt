pub mod Asked
pub mod Active
pub mod Groups
pub mod Rooms
pub mod Stands
pub mod Listed
-- Re-exports for the crates above.
pub use Rattle.checkpoint_spec.specs.stamp_time as stamp_time
pub use Rattle.checkpoint_spec.specs.fleet_rows as fleet_rows
pub use Rattle.checkpoint_spec.specs.history_spec as history_spec
pub use Rattle.checkpoint_spec.specs.table_machine as table_machine
pub use Rattle.checkpoint_spec.specs as checkpoint_spec
pub use Rattle.kept_nodes.specs.Seen as Seen
pub use Rattle.kept_nodes.specs.Spans as Spans
pub use Rattle.kept_nodes.specs.Wanted as Wanted
pub use Rattle.kept_nodes.specs as kept_nodes
