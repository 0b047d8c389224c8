pub mod Counts
pub mod Ordered
pub mod StepLaws
pub mod Solved
pub mod Walks
-- What those above use of the crates below.
pub use Rattle.means_spec.proofs as of_means_spec
