pub mod Runs
pub mod Readings
pub mod Took
pub mod Calls
pub mod EndLaws
pub mod OneThread
mod Printing
mod Fails
mod Effects
mod SweptImages
mod Ran
pub mod RunEnds
pub mod LimitValues
-- What those above use of the crates below.
pub use Rattle.program_words.proofs.of_plain_laws as of_plain_laws
pub use Rattle.program_words.proofs.of_stamp_time as of_stamp_time
pub use Rattle.spool_text.proofs.of_wire_laws as of_wire_laws
pub use Rattle.spool_text.proofs.of_history_laws as of_history_laws
pub use Rattle.fleet_hub.proofs.of_table_machine as of_table_machine
pub use Rattle.fleet_hub.proofs.of_table_laws as of_table_laws
pub use Rattle.fleet_hub.proofs.of_core_course as of_core_course
