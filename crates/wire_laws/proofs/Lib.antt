pub mod LawfulFields
pub mod LawfulChanges
pub mod KnownMembers
pub mod TakenFields
pub mod KeptOnce
pub mod OneAnswer
pub mod SortedTexts
pub mod LastValues
-- What those above use of the crates below.
pub use Rattle.text_laws.proofs as of_text_laws
