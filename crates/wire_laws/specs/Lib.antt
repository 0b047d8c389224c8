pub mod DecodeLaws
pub mod TableLaws
pub mod SettledLaws
-- The words of lower crates that the files above use.
pub use Rattle.history_spec.specs as history_spec
