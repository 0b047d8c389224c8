pub mod EntryLaws
pub mod CourseSteps
pub mod Closing
-- Re-exports for the crates above.
pub use Rattle.front_port.proofs as of_front_port
pub use Rattle.lock_calls.proofs as of_lock_calls
