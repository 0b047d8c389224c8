pub mod Machine
pub mod Verdict
pub mod Values
pub mod Laws
-- The words of lower crates that the files above use.
pub use Rattle.text_spec.specs as text_spec
