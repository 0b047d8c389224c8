pub mod Entries
pub mod Steps
pub mod Calls
pub mod Crosses
-- What those above use of the crates below.
pub use Rattle.core_ends.proofs as of_core_ends
