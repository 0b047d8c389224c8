pub mod Counts
pub mod Submits
pub mod Intake
pub mod Handed
pub mod Refusals
pub mod Serving
