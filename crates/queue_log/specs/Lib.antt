pub mod Open
pub mod Queued
-- Re-exports for the crates above.
pub use Rattle.fleet_keeper.specs.fleet_ports as fleet_ports
pub use Rattle.fleet_keeper.specs.log_spec as log_spec
pub use Rattle.fleet_keeper.specs.record_log as record_log
pub use Rattle.fleet_keeper.specs.log_pair as log_pair
pub use Rattle.queue_records.specs as queue_records
pub use Rattle.fleet_keeper.specs.store_records as store_records
pub use Rattle.fleet_keeper.specs as fleet_keeper
