pub mod Named
pub mod NamedLaws
pub mod RowLaws
pub mod HashLaws
pub mod SortLaws
pub mod OrderLaws
pub mod JoinLaws
pub mod PrintLaws
pub mod ShownLaws
-- Re-exports for the crates above.
pub use Rattle.table_machine.specs.text_spec as text_spec
pub use Rattle.table_machine.specs.stamp_time as stamp_time
pub use Rattle.table_machine.specs.fleet_rows as fleet_rows
pub use Rattle.table_machine.specs.history_spec as history_spec
pub use Rattle.table_machine.specs.table_spec as table_spec
pub use Rattle.table_machine.specs.spool_spec as spool_spec
pub use Rattle.table_machine.specs.history_laws as history_laws
pub use Rattle.table_machine.specs as table_machine
