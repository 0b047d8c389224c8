pub mod Fronts
pub mod Next
