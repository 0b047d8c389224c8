pub mod Sweeps
pub mod Call
