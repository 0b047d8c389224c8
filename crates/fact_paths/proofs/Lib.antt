pub mod WalkLaws
pub mod PathLaws
pub mod LeafLaws
pub mod RisingLaws
pub mod RowLaws
pub mod NameLaws
