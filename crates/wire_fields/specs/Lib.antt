pub mod Checks
pub mod Answers
-- The words of lower crates that the files above use.
pub use Rattle.wire_spec.specs.text_spec as text_spec
pub use Rattle.wire_spec.specs.json_tree as json_tree
pub use Rattle.wire_spec.specs.fleet_rows as fleet_rows
pub use Rattle.wire_spec.specs as wire_spec
