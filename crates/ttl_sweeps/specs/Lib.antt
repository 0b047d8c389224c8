-- Re-exports for the crates above.
pub use Rattle.fleet_tables.specs.history_spec as history_spec
pub use Rattle.fleet_tables.specs.table_machine as table_machine
pub use Rattle.fleet_tables.specs as fleet_tables
