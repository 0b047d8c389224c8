pub mod Routes
pub mod Parameters
pub mod Commands
pub mod HandedIn
pub mod Queries
pub mod Answers
pub mod Reading
pub mod Links
-- Re-exports for the crates above.
pub use Rattle.query_answer.specs.fleet_ports as fleet_ports
pub use Rattle.query_answer.specs.fleet_rows as fleet_rows
pub use Rattle.query_answer.specs.query_spec as query_spec
pub use Rattle.query_answer.specs.history_spec as history_spec
pub use Rattle.query_answer.specs.table_machine as table_machine
pub use Rattle.query_answer.specs.fleet_tables as fleet_tables
pub use Rattle.query_answer.specs.means_spec as means_spec
pub use Rattle.query_answer.specs.pattern_port as pattern_port
pub use Rattle.query_answer.specs as query_answer
