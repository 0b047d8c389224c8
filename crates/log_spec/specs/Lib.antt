pub mod Example
pub mod Image
pub mod ImageOf
pub mod PairImage
pub mod Limits
