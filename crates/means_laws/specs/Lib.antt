pub mod Bare
pub mod Laws
-- Re-exports for the crates above.
pub use Rattle.table_laws.specs.history_spec as history_spec
pub use Rattle.paging_text.specs.means_spec as means_spec
pub use Rattle.table_laws.specs.spool_spec as spool_spec
pub use Rattle.table_laws.specs.table_machine as table_machine
pub use Rattle.paging_text.specs as paging_text
