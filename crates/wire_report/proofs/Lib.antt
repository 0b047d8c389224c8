pub mod KeptLaws
pub mod OrderLaws
