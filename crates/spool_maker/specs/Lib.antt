pub mod Answer
pub mod Items
-- Re-exports for the crates above.
pub use Rattle.fleet_ports.specs as fleet_ports
pub use Rattle.made_spec.specs.fleet_rows as fleet_rows
pub use Rattle.made_spec.specs.history_spec as history_spec
pub use Rattle.made_spec.specs as made_spec
