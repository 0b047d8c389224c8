pub mod Traces
pub mod Stretches
pub mod Uses
pub mod OneCalls
-- What those above use of the crates below.
pub use Rattle.core_state.proofs.of_table_machine as of_table_machine
pub use Rattle.core_state.proofs.of_table_laws as of_table_laws
pub use Rattle.core_state.proofs.of_fleet_tables as of_fleet_tables
