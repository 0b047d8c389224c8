pub mod TupleLaws
pub mod Filters
pub mod Gets
pub mod MarkLaws
pub mod PartLaws
pub mod IndexLaws
pub mod FirstLaws
pub mod NodeFacts
mod Turns
pub mod SceneLaws
pub mod TryLaws
pub mod BlockLaws
