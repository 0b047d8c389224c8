pub mod Layout
pub mod Records
-- Re-exports for the crates above.
pub use Rattle.log_pair.specs.text_spec as text_spec
pub use Rattle.log_pair.specs.fleet_ports as fleet_ports
pub use Rattle.core_spec.specs.log_spec as log_spec
pub use Rattle.log_pair.specs as log_pair
pub use Rattle.queue_records.specs.fleet_rows as fleet_rows
pub use Rattle.queue_records.specs.history_spec as history_spec
pub use Rattle.queue_records.specs.record_spec as record_spec
pub use Rattle.queue_records.specs as queue_records
pub use Rattle.store_records.specs as store_records
pub use Rattle.core_spec.specs as core_spec
