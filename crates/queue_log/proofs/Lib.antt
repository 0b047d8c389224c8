pub mod Puts
pub mod Runs
pub mod Turns
-- What those above use of the crates below.
pub use Rattle.fleet_keeper.proofs.of_store_records as of_store_records
pub use Rattle.fleet_keeper.proofs as of_fleet_keeper
