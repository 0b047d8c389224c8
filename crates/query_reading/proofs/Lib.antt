mod OrderLaws
mod StoppingLaws
mod TextCells
mod WantedLaws
mod FetchedLaws
mod FactLaws
pub mod NarrowLaws
mod PlacedRows
pub mod RowReads
mod JoinLaws
mod UnionLaws
mod ReadLaws
