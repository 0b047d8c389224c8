pub mod Machine
pub mod Least
pub mod Depth
pub mod Verdict
pub mod Laws
