pub mod Tests
pub mod NextRecords
pub mod PlainHistories
pub mod HeldEvents
pub mod Submissions
pub mod SoundLists
pub mod KnownImages
pub mod Ports
pub mod Later
pub mod Standing
pub mod Carried
pub mod Spellings
pub mod PutStands
pub mod KindLaws
pub mod Fits
-- What those above use of the crates below.
pub use Rattle.supersede_core.proofs.of_plain_laws as of_plain_laws
pub use Rattle.fleet_tables.proofs.of_wire_laws as of_wire_laws
pub use Rattle.fleet_tables.proofs.of_history_laws as of_history_laws
pub use Rattle.fleet_tables.proofs.of_table_machine as of_table_machine
pub use Rattle.compact_laws.proofs.of_table_laws as of_table_laws
pub use Rattle.fleet_tables.proofs as of_fleet_tables
pub use Rattle.queue_log.proofs.of_store_records as of_store_records
pub use Rattle.compact_laws.proofs.of_core_machine as of_core_machine
pub use Rattle.compact_laws.proofs.of_core_laws as of_core_laws
pub use Rattle.compact_laws.proofs as of_compact_laws
pub use Rattle.supersede_core.proofs as of_supersede_core
pub use Rattle.retry_discard.proofs as of_retry_discard
pub use Rattle.queue_log.proofs.of_fleet_keeper as of_fleet_keeper
pub use Rattle.queue_log.proofs as of_queue_log
