pub mod BareMeans
pub mod ActiveRows
pub mod SumLaws
pub mod PrintableTables
pub mod PrintableMeans
-- What those above use of the crates below.
pub use Rattle.paging_text.proofs as of_paging_text
