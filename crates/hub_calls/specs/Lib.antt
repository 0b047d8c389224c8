pub mod Entries
pub mod Follows
pub mod Seen
pub mod Calls
-- Re-exports for the crates above.
pub use Rattle.core_ends.specs as core_ends
