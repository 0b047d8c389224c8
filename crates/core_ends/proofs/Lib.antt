pub mod Links
pub mod Records
pub mod Fails
pub mod Waits
pub mod OneCalls
pub mod Releases
pub mod Submits
pub mod Claims
pub mod Settles
pub mod Sweeps
pub mod Later
pub mod SettleEnds
pub mod ClaimEnds
pub mod Verdicts
-- What those above use of the crates below.
pub use Rattle.command_decode.proofs.of_json_tree as of_json_tree
pub use Rattle.command_decode.proofs.of_stamp_time as of_stamp_time
pub use Rattle.command_decode.proofs.of_fleet_rows as of_fleet_rows
pub use Rattle.core_course.proofs.of_table_machine as of_table_machine
pub use Rattle.core_course.proofs.of_table_laws as of_table_laws
pub use Rattle.core_course.proofs.of_fleet_tables as of_fleet_tables
pub use Rattle.command_core.proofs.of_core_laws as of_core_laws
pub use Rattle.command_core.proofs.of_retry_discard as of_retry_discard
pub use Rattle.command_core.proofs.of_queue_log as of_queue_log
pub use Rattle.command_core.proofs.of_core_state as of_core_state
pub use Rattle.command_core.proofs.of_core_opening as of_core_opening
pub use Rattle.core_course.proofs as of_core_course
