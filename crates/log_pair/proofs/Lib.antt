pub mod Good
pub mod Opening
-- What those above use of the crates below.
pub use Rattle.record_log.proofs.of_fleet_ports as of_fleet_ports
pub use Rattle.log_spec.proofs as of_log_spec
pub use Rattle.record_log.proofs as of_record_log
