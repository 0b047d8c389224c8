pub mod World
pub mod Cells
pub mod Shown
pub mod Paging
pub mod Groups
pub mod Means
pub mod Sums
pub mod OutRows
-- Re-exports for the crates above.
pub use Rattle.table_spec.specs.text_spec as text_spec
pub use Rattle.table_spec.specs.stamp_time as stamp_time
pub use Rattle.table_spec.specs.fleet_rows as fleet_rows
pub use Rattle.query_spec.specs as query_spec
pub use Rattle.table_spec.specs as table_spec
