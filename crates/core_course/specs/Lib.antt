pub mod Sight
pub mod Courses
pub mod Work
pub mod Laws
-- Re-exports for the crates above.
pub use Rattle.core_state.specs.fleet_ports as fleet_ports
pub use Rattle.core_state.specs.table_spec as table_spec
pub use Rattle.core_state.specs.table_machine as table_machine
pub use Rattle.core_state.specs.fleet_tables as fleet_tables
pub use Rattle.core_state.specs.core_machine as core_machine
pub use Rattle.core_state.specs.supersede_core as supersede_core
