pub mod Params
pub mod Paging
pub mod Told
-- Re-exports for the crates above.
pub use Rattle.means_spec.specs.table_spec as table_spec
