pub mod Ends
pub mod Answers
-- Re-exports for the crates above.
pub use Rattle.command_decode.specs.text_spec as text_spec
pub use Rattle.command_decode.specs.json_tree as json_tree
pub use Rattle.core_course.specs.fleet_ports as fleet_ports
pub use Rattle.command_core.specs.log_pair as log_pair
pub use Rattle.command_decode.specs.fleet_rows as fleet_rows
pub use Rattle.command_decode.specs.wire_spec as wire_spec
pub use Rattle.command_decode.specs.history_spec as history_spec
pub use Rattle.command_decode.specs as command_decode
pub use Rattle.core_course.specs.table_spec as table_spec
pub use Rattle.core_course.specs.table_machine as table_machine
pub use Rattle.core_course.specs.fleet_tables as fleet_tables
pub use Rattle.command_core.specs.record_spec as record_spec
pub use Rattle.command_core.specs.queue_records as queue_records
pub use Rattle.command_core.specs.store_records as store_records
pub use Rattle.command_core.specs.core_spec as core_spec
pub use Rattle.core_course.specs.core_machine as core_machine
pub use Rattle.command_core.specs.core_laws as core_laws
pub use Rattle.core_course.specs.supersede_core as supersede_core
pub use Rattle.command_core.specs.fleet_keeper as fleet_keeper
pub use Rattle.command_core.specs.core_layout as core_layout
pub use Rattle.command_core.specs.queue_log as queue_log
pub use Rattle.command_core.specs.core_state as core_state
pub use Rattle.command_core.specs.core_opening as core_opening
pub use Rattle.command_core.specs.core_submits as core_submits
pub use Rattle.command_core.specs.core_claims as core_claims
pub use Rattle.command_core.specs.core_settles as core_settles
pub use Rattle.command_core.specs.core_sweeps as core_sweeps
pub use Rattle.command_core.specs as command_core
pub use Rattle.core_course.specs as core_course
