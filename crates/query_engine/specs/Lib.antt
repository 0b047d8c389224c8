pub mod Answers
pub mod Courses
pub mod Narrow
-- Re-exports for the crates above.
pub use Rattle.query_rows.specs as query_rows
pub use Rattle.query_rows.specs.Tables as Tables
pub use Rattle.pattern_port.specs.fleet_ports as fleet_ports
pub use Rattle.pattern_port.specs as pattern_port
pub use Rattle.query_plan.specs as query_plan
pub use Rattle.fleet_tables.specs as fleet_tables
