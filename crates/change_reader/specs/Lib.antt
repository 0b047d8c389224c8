pub mod Relationships
pub mod Together
pub mod Changes
