mod EdgeExamples
-- What those above use of the crates below.
pub use Rattle.json_machine.proofs.of_plain_laws as of_plain_laws
pub use Rattle.json_machine.proofs.of_text_spec as of_text_spec
pub use Rattle.json_machine.proofs as of_json_machine
pub use Rattle.wire_spec.proofs.of_stamp_time as of_stamp_time
pub use Rattle.wire_spec.proofs as of_wire_spec
