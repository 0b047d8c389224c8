pub mod Limits
pub mod Rules
pub mod Fronts
pub mod Intake
pub mod Steps
pub mod Laws
pub mod Summary
pub mod Runs
-- Re-exports for the crates above.
pub use Rattle.spool_text.specs.text_spec as text_spec
pub use Rattle.program_words.specs.json_tree as json_tree
pub use Rattle.spool_text.specs.fleet_ports as fleet_ports
pub use Rattle.fleet_hub.specs.fleet_rows as fleet_rows
pub use Rattle.program_words.specs.wire_spec as wire_spec
pub use Rattle.fleet_hub.specs.history_spec as history_spec
pub use Rattle.fleet_hub.specs.command_decode as command_decode
pub use Rattle.fleet_hub.specs.table_spec as table_spec
pub use Rattle.program_words.specs.spool_spec as spool_spec
pub use Rattle.spool_text.specs.made_spec as made_spec
pub use Rattle.spool_text.specs.spool_maker as spool_maker
pub use Rattle.program_words.specs as program_words
pub use Rattle.fleet_hub.specs.table_machine as table_machine
pub use Rattle.fleet_hub.specs.fleet_tables as fleet_tables
pub use Rattle.spool_text.specs as spool_text
pub use Rattle.fleet_hub.specs.core_layout as core_layout
pub use Rattle.calm_commands.specs as calm_commands
pub use Rattle.fleet_hub.specs as fleet_hub
