pub mod Fields
pub mod Joins
pub mod Parts
pub mod Moments
