pub mod Calls
pub mod Spans
pub mod Lasting
-- Re-exports for the crates above.
pub use Rattle.turn_lock.proofs as of_turn_lock
