pub mod Lay
pub mod Log
pub mod Open
pub mod Renew
pub mod Untouched
pub mod Window
-- The words of lower crates that the files above use.
pub use Rattle.json_tree.specs.text_spec as text_spec
pub use Rattle.fleet_ports.specs as fleet_ports
pub use Rattle.log_spec.specs as log_spec
