pub mod Places
pub mod Grammar
pub mod Faults
pub mod Refused
pub mod Laws
