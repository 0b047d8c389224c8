mod Crashes
mod Steps
-- What those above use of the crates below.
pub use Rattle.json_tree.proofs.of_plain_laws as of_plain_laws
pub use Rattle.fleet_ports.proofs as of_fleet_ports
