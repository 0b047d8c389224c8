pub mod Added
pub mod Answers
pub mod Keeper
pub mod Kept
pub mod Laws
pub mod Limits
pub mod Memory
pub mod MemoryLaws
pub mod Opened
pub mod Pairs
pub mod Records
pub mod Sides
pub mod Spelt
-- Re-exports for the crates above.
pub use Rattle.port_memory.specs.fleet_ports as fleet_ports
pub use Rattle.log_pair.specs.log_spec as log_spec
pub use Rattle.log_pair.specs.record_log as record_log
pub use Rattle.log_pair.specs as log_pair
pub use Rattle.core_spec.specs.record_spec as record_spec
pub use Rattle.store_records.specs as store_records
pub use Rattle.core_spec.specs as core_spec
