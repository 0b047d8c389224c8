pub mod Course
pub mod Hashers
pub mod Refused
-- The words of lower crates that the files above use.
pub use Rattle.fleet_ports.specs as fleet_ports
