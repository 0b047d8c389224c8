pub mod Calls
-- Re-exports for the crates above.
pub use Rattle.turn_lock.specs as turn_lock
