pub mod Calls
pub mod Disks
pub mod History
pub mod Laws
pub mod Mixes
pub mod Streams
pub mod Ways
-- The words of lower crates that the files above use.
pub use Rattle.fleet_ports.specs as fleet_ports
