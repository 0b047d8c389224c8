pub mod Reading
pub mod Raw
pub mod Laws
-- Re-exports for the crates above.
pub use Rattle.record_fields.specs.fleet_rows as fleet_rows
pub use Rattle.record_fields.specs.history_spec as history_spec
pub use Rattle.record_fields.specs.record_spec as record_spec
