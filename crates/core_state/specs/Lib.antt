pub mod Noted
pub mod Seen
pub mod StandsFor
pub mod Moments
pub mod Puts
pub mod Changes
pub mod Spelling
pub mod EventKinds
pub mod Tallies
-- Re-exports for the crates above.
pub use Rattle.queue_log.specs.fleet_ports as fleet_ports
pub use Rattle.queue_log.specs.log_spec as log_spec
pub use Rattle.queue_log.specs.record_log as record_log
pub use Rattle.queue_log.specs.log_pair as log_pair
pub use Rattle.supersede_core.specs.fleet_rows as fleet_rows
pub use Rattle.supersede_core.specs.wire_spec as wire_spec
pub use Rattle.supersede_core.specs.history_spec as history_spec
pub use Rattle.supersede_core.specs.table_spec as table_spec
pub use Rattle.fleet_tables.specs.table_machine as table_machine
pub use Rattle.fleet_tables.specs as fleet_tables
pub use Rattle.supersede_core.specs.record_spec as record_spec
pub use Rattle.queue_log.specs.queue_records as queue_records
pub use Rattle.queue_log.specs.store_records as store_records
pub use Rattle.retry_discard.specs.core_spec as core_spec
pub use Rattle.compact_laws.specs.core_machine as core_machine
pub use Rattle.compact_laws.specs.core_laws as core_laws
pub use Rattle.compact_laws.specs as compact_laws
pub use Rattle.supersede_core.specs as supersede_core
pub use Rattle.retry_discard.specs as retry_discard
pub use Rattle.queue_log.specs.fleet_keeper as fleet_keeper
pub use Rattle.queue_log.specs as queue_log
