pub mod Relationships
pub mod Together
pub mod Reports
pub mod Changes
pub mod Lists
