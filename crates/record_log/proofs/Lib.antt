pub mod Crash
pub mod Fills
pub mod Reading
pub mod Lays
pub mod Puts
pub mod Standing
-- What those above use of the crates below.
pub use Rattle.json_tree.proofs.of_plain_laws as of_plain_laws
pub use Rattle.fleet_ports.proofs as of_fleet_ports
pub use Rattle.log_spec.proofs as of_log_spec
