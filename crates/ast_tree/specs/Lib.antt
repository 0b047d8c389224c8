pub mod Tree
pub mod TreeFalls
pub mod Checked
-- Re-exports for the crates above.
pub use Rattle.query_spec.specs.fleet_rows as fleet_rows
pub use Rattle.query_spec.specs as query_spec
