pub mod Fetched
pub mod Wanted
pub mod Joins
pub mod Ordered
pub mod Stopping
pub mod Told
pub mod Narrow
