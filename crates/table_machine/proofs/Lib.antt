pub mod Filters
pub mod Risen
pub mod Unbeaten
pub mod NodeLaws
pub mod ReportOrder
pub mod Retention
pub mod Ranked
pub mod RankedPuts
pub mod Least
pub mod KeptReports
pub mod LimitedReports
pub mod ReportStamps
pub mod ReportColumns
pub mod SweepSteps
pub mod CommandSteps
pub mod Outranked
pub mod TableLaws
pub mod TableRows
pub mod Puts
mod MachineExamples
-- What those above use of the crates below.
pub use Rattle.table_spec.proofs.of_plain_laws as of_plain_laws
pub use Rattle.table_spec.proofs.of_text_spec as of_text_spec
pub use Rattle.table_spec.proofs.of_json_machine as of_json_machine
pub use Rattle.history_laws.proofs.of_text_laws as of_text_laws
pub use Rattle.table_spec.proofs.of_stamp_time as of_stamp_time
pub use Rattle.history_laws.proofs.of_wire_laws as of_wire_laws
pub use Rattle.history_laws.proofs as of_history_laws
pub use Rattle.table_spec.proofs as of_table_spec
