mod Serves
mod Ends
-- What those above use of the crates below.
pub use Rattle.spool_run.proofs.of_plain_laws as of_plain_laws
pub use Rattle.spool_run.proofs.of_stamp_time as of_stamp_time
pub use Rattle.spool_run.proofs.of_wire_laws as of_wire_laws
pub use Rattle.spool_run.proofs.of_history_laws as of_history_laws
pub use Rattle.spool_run.proofs.of_table_machine as of_table_machine
pub use Rattle.spool_run.proofs.of_table_laws as of_table_laws
pub use Rattle.spool_run.proofs as of_spool_run
