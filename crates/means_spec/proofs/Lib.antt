mod MeansExamples
pub mod SumTexts
-- What those above use of the crates below.
pub use Rattle.text_laws.proofs as of_text_laws
