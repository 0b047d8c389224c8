pub mod ReleasedCommands
pub mod Frees
pub mod Candidates
pub mod TurnRuns
pub mod Refusals
pub mod ClaimAnswers
-- What those above use of the crates below.
pub use Rattle.core_state.proofs.of_plain_laws as of_plain_laws
pub use Rattle.core_state.proofs.of_wire_laws as of_wire_laws
pub use Rattle.core_state.proofs.of_core_laws as of_core_laws
pub use Rattle.core_state.proofs.of_supersede_core as of_supersede_core
pub use Rattle.core_state.proofs.of_fleet_keeper as of_fleet_keeper
pub use Rattle.core_state.proofs as of_core_state
