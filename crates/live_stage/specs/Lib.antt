pub mod Notes
pub mod Shelf
pub mod Trace
pub mod Causes
pub mod StageCalls
pub mod WorkEnds
pub mod First
-- Re-exports for the crates above.
pub use Rattle.lock_calls.specs as lock_calls
pub use Rattle.core_ends.specs as core_ends
pub use Rattle.hub_calls.specs as hub_calls
