pub mod Ends
-- Re-exports for the crates above.
pub use Rattle.hub_calls.specs as hub_calls
