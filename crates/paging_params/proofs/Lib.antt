pub mod Numbers
pub mod Outputs
pub mod Pagings
pub mod OnePaging
pub mod OrderReads
