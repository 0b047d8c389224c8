pub mod Made
-- Re-exports for the crates above.
pub use Rattle.spool_spec.specs.fleet_rows as fleet_rows
pub use Rattle.spool_spec.specs.history_spec as history_spec
pub use Rattle.spool_spec.specs as spool_spec
