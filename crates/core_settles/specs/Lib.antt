pub mod Records
pub mod Settles
pub mod Ends
pub mod Call
-- Re-exports for the crates above.
pub use Rattle.core_claims.specs as core_claims
