pub mod Lay
pub mod Open
pub mod Pair
pub mod Turns
-- The words of lower crates that the files above use.
pub use Rattle.record_log.specs.text_spec as text_spec
pub use Rattle.record_log.specs.fleet_ports as fleet_ports
pub use Rattle.log_spec.specs as log_spec
pub use Rattle.record_log.specs as record_log
