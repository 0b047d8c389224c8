pub mod Ends
-- What those above use of the crates below.
pub use Rattle.hub_calls.proofs as of_hub_calls
