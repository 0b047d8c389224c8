mod StatusLines
mod PlaceLines
mod TellingLaws
pub mod Leaving
pub mod Faults
mod Statuses
mod Lines
pub mod Opened
mod Swept
mod Compacted
mod Printed
mod Queried
