pub mod Reading
-- Re-exports for the crates above.
pub use Rattle.record_spec.specs.fleet_rows as fleet_rows
pub use Rattle.record_spec.specs.history_spec as history_spec
pub use Rattle.record_spec.specs as record_spec
