pub mod Hashes
pub mod Orders
