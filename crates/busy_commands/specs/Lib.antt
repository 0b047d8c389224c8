pub mod Serving
pub mod Busy
-- Re-exports for the crates above.
pub use Rattle.spool_run.specs.text_spec as text_spec
pub use Rattle.spool_run.specs.json_tree as json_tree
pub use Rattle.spool_run.specs.fleet_ports as fleet_ports
pub use Rattle.spool_run.specs.fleet_rows as fleet_rows
pub use Rattle.spool_run.specs.wire_spec as wire_spec
pub use Rattle.spool_run.specs.history_spec as history_spec
pub use Rattle.spool_run.specs.command_decode as command_decode
pub use Rattle.spool_run.specs.table_spec as table_spec
pub use Rattle.spool_run.specs.spool_spec as spool_spec
pub use Rattle.spool_run.specs.made_spec as made_spec
pub use Rattle.spool_run.specs.spool_maker as spool_maker
pub use Rattle.spool_run.specs.program_words as program_words
pub use Rattle.spool_run.specs.table_machine as table_machine
pub use Rattle.spool_run.specs.fleet_tables as fleet_tables
pub use Rattle.spool_run.specs.spool_text as spool_text
pub use Rattle.spool_run.specs.core_layout as core_layout
pub use Rattle.spool_run.specs.calm_commands as calm_commands
pub use Rattle.spool_run.specs as spool_run
