pub mod Program
pub mod Reads
pub mod Rows
pub mod Runs
pub mod Show
pub mod Words
