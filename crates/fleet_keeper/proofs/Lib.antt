pub mod Additions
pub mod Damages
pub mod Files
pub mod Keeps
pub mod Openings
pub mod Readings
pub mod Spellings
pub mod Steps
pub mod Texts
pub mod Within
-- What those above use of the crates below.
pub use Rattle.port_memory.proofs.of_fleet_ports as of_fleet_ports
pub use Rattle.store_records.proofs as of_store_records
