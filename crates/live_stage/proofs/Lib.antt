pub mod Lists
pub mod Counts
pub mod Traces
pub mod Caused
pub mod Steps
pub mod Holds
pub mod Lookups
pub mod Copies
pub mod Firsts
pub mod Shelving
pub mod ShelfSteps
pub mod Stepping
pub mod Closing
pub mod Crosses
-- Re-exports for the crates above.
pub use Rattle.lock_calls.proofs as of_lock_calls
pub use Rattle.hub_calls.proofs as of_hub_calls
pub use Rattle.core_ends.proofs as of_core_ends
