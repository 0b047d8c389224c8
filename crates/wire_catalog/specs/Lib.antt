pub mod InOrder
pub mod Distinct
pub mod Names
pub mod Ends
pub mod Marks
-- The words of lower crates that the files above use.
pub use Rattle.wire_fields.specs.fleet_rows as fleet_rows
pub use Rattle.wire_fields.specs.wire_spec as wire_spec
pub use Rattle.wire_fields.specs as wire_fields
