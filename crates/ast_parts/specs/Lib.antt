pub mod Elements
pub mod Gives
pub mod FilterWords
