mod PayloadExamples
mod RefusalExamples
pub mod CountedLaws
-- What those above use of the crates below.
pub use Rattle.fleet_rows.proofs.of_plain_laws as of_plain_laws
pub use Rattle.fleet_rows.proofs.of_text_spec as of_text_spec
pub use Rattle.fleet_rows.proofs.of_stamp_time as of_stamp_time
pub use Rattle.fleet_rows.proofs as of_fleet_rows
