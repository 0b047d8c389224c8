pub mod Fronts
pub mod Heads
pub mod Payloads
pub mod Sizes
pub mod Spools
