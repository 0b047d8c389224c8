mod DecodeLaws
mod KindLaws
-- What those above use of the crates below.
pub use Rattle.json_read.proofs.of_json_tree as of_json_tree
pub use Rattle.json_read.proofs.of_stamp_time as of_stamp_time
pub use Rattle.wire_catalog.proofs.of_fleet_rows as of_fleet_rows
pub use Rattle.wire_laws.proofs as of_wire_laws
