pub mod Tables
pub mod Scenes
pub mod Referred
pub mod Marked
pub mod Indexed
pub mod Known
pub mod Ready
pub mod Tries
pub mod Columns
-- Re-exports for the crates above.
pub use Rattle.pattern_port.specs.fleet_ports as fleet_ports
pub use Rattle.pattern_port.specs as pattern_port
pub use Rattle.query_plan.specs as query_plan
pub use Rattle.fleet_tables.specs as fleet_tables
