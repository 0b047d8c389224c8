pub mod Answered
pub mod Extracts
pub mod Among
-- Re-exports for the crates above.
pub use Rattle.json_read.specs.text_spec as text_spec
pub use Rattle.json_read.specs.json_machine as json_machine
pub use Rattle.json_read.specs.stamp_time as stamp_time
pub use Rattle.query_spec.specs.fleet_rows as fleet_rows
pub use Rattle.query_spec.specs as query_spec
