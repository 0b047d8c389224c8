pub mod Drains
-- What those above use of the crates below.
pub use Rattle.hub_work.proofs.of_hub_calls.Entries as Entries
pub use Rattle.core_drain.proofs.of_table_machine as of_table_machine
pub use Rattle.core_drain.proofs.of_table_laws as of_table_laws
pub use Rattle.core_drain.proofs.of_core_laws as of_core_laws
pub use Rattle.core_drain.proofs.of_core_course as of_core_course
pub use Rattle.core_drain.proofs as of_core_drain
pub use Rattle.core_drain.proofs.of_core_state as of_core_state
