pub mod LastCall
pub mod Calm
pub mod Unclaimed
-- What those above use of the crates below.
pub use Rattle.core_ends.proofs.Fails as Fails
pub use Rattle.core_ends.proofs.Links as Links
pub use Rattle.core_ends.proofs.Releases as Releases
pub use Rattle.core_ends.proofs.Submits as Submits
pub use Rattle.core_ends.proofs.Sweeps as Sweeps
pub use Rattle.core_ends.proofs.Later as Later
pub use Rattle.core_ends.proofs.Verdicts as Verdicts
pub use Rattle.command_decode.proofs.of_json_tree as of_json_tree
pub use Rattle.command_decode.proofs.of_stamp_time as of_stamp_time
pub use Rattle.command_decode.proofs.of_fleet_rows as of_fleet_rows
pub use Rattle.core_ends.proofs.of_table_machine as of_table_machine
pub use Rattle.core_ends.proofs.of_table_laws as of_table_laws
pub use Rattle.core_ends.proofs.of_fleet_tables as of_fleet_tables
pub use Rattle.core_ends.proofs.of_core_laws as of_core_laws
pub use Rattle.core_ends.proofs.of_retry_discard as of_retry_discard
pub use Rattle.core_ends.proofs.of_queue_log as of_queue_log
pub use Rattle.core_ends.proofs.of_core_state as of_core_state
pub use Rattle.core_ends.proofs.of_core_course as of_core_course
