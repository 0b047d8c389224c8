pub mod JsonLemmas
pub mod DigitRuns
pub mod Fronts
pub mod NumberRests
pub mod NumberParts
pub mod TextOrder
mod NumberExamples
mod OrderExamples
mod StampExamples
-- What those above use of the crates below.
pub use Rattle.plain_laws.proofs as of_plain_laws
