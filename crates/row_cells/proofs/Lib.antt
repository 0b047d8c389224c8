pub mod SortedLaws
pub mod CmpLaws
pub mod DecimalLaws
pub mod StampTexts
pub mod ObjectTexts
pub mod CatalogTexts
pub mod PrintableLaws
pub mod RowOrders
-- What those above use of the crates below.
pub use Rattle.history_laws.proofs as of_history_laws
