pub mod CellOrder
pub mod StampTexts
pub mod RowTexts
-- What those above use of the crates below.
pub use Rattle.means_spec.proofs as of_means_spec
