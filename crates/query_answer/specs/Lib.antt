pub mod Language
pub mod RefusalText
pub mod Told
pub mod Answers
-- Re-exports for the crates above.
pub use Rattle.query_engine.specs.fleet_ports as fleet_ports
pub use Rattle.ast_reader.specs.stamp_time as stamp_time
pub use Rattle.query_engine.specs.pattern_port as pattern_port
pub use Rattle.ast_reader.specs.fleet_rows as fleet_rows
pub use Rattle.ast_reader.specs.query_spec as query_spec
pub use Rattle.pql_reader.specs.pql_spec as pql_spec
pub use Rattle.means_laws.specs.history_spec as history_spec
pub use Rattle.means_laws.specs.means_spec as means_spec
pub use Rattle.query_engine.specs.query_plan as query_plan
pub use Rattle.means_laws.specs.spool_spec as spool_spec
pub use Rattle.means_laws.specs.table_machine as table_machine
pub use Rattle.means_laws.specs.paging_text as paging_text
pub use Rattle.means_laws.specs as means_laws
pub use Rattle.query_engine.specs.fleet_tables as fleet_tables
pub use Rattle.query_engine.specs as query_engine
