pub mod Threads
pub mod Superseding
pub mod Claims
pub mod Outcomes
pub mod Traces
pub mod Discards
pub mod Replay
pub mod TableReplay
pub mod RecordLaws
pub mod LogLaws
pub mod StandingLaws
pub mod Failures
pub mod Groups
pub mod NextEvents
pub mod DamageLaws
-- Re-exports for the crates above.
pub use Rattle.core_machine.specs as core_machine
pub use Rattle.checkpoint_spec.specs as checkpoint_spec
