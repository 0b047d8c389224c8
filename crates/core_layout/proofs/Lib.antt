mod Firsts
mod Images
-- What those above use of the crates below.
pub use Rattle.core_spec.proofs.of_log_spec as of_log_spec
pub use Rattle.queue_records.proofs as of_queue_records
pub use Rattle.store_records.proofs as of_store_records
