pub mod FirstBytes
pub mod WordFronts
pub mod NumberFronts
pub mod TextFronts
pub mod MarkFronts
