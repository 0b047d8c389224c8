pub mod NumberLaws
pub mod ScaledLaws
pub mod LevelLaws
pub mod KeptLaws
pub mod ArrangedLaws
pub mod PlaceLaws
pub mod EscapeLaws
pub mod NextLaws
pub mod WalkLaws
pub mod SameLaws
pub mod MarkLaws
pub mod LimitValues
-- What those above use of the crates below.
pub use Rattle.text_spec.proofs.of_plain_laws as of_plain_laws
pub use Rattle.text_spec.proofs as of_text_spec
