pub mod Lists
pub mod Histories
pub mod Laws
-- Re-exports for the crates above.
pub use Rattle.table_laws.specs.text_spec as text_spec
pub use Rattle.table_laws.specs.stamp_time as stamp_time
pub use Rattle.table_laws.specs.fleet_rows as fleet_rows
pub use Rattle.table_laws.specs.history_spec as history_spec
pub use Rattle.table_laws.specs.table_spec as table_spec
pub use Rattle.table_laws.specs.table_machine as table_machine
pub use Rattle.table_laws.specs.history_laws as history_laws
