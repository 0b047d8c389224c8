pub mod MemberLaws
pub mod FieldLaws
pub mod WholeLaws
-- What those above use of the crates below.
pub use Rattle.wire_spec.proofs.of_fleet_rows as of_fleet_rows
pub use Rattle.wire_spec.proofs as of_wire_spec
