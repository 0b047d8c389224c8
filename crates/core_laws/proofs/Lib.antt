pub mod Waiting
pub mod Entries
pub mod Claims
pub mod Endings
pub mod Outcomes
pub mod Reasons
pub mod Keys
pub mod DeadPuts
pub mod DiscardSteps
pub mod Alike
pub mod Reordered
pub mod Traces
pub mod OneThread
pub mod Live
pub mod Lives
pub mod Replays
pub mod Taken
pub mod DeadReplays
pub mod TableCheckpoints
pub mod Missing
pub mod QueueLogs
pub mod QueueCheckpoints
pub mod StoreLogs
pub mod LaidLogs
pub mod WaitingRecords
pub mod StandingRecords
pub mod Failures
pub mod GroupHeads
pub mod GroupOrder
pub mod NextEvents
pub mod DamagePlaces
mod LawExamples
-- What those above use of the crates below.
pub use Rattle.checkpoint_spec.proofs.of_table_laws as of_table_laws
pub use Rattle.core_machine.proofs as of_core_machine
pub use Rattle.checkpoint_spec.proofs as of_checkpoint_spec
