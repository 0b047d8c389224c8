mod Printable
mod PackedLaws
mod ShownHashes
pub mod NodePlaces
pub mod Counting
pub mod RowCounts
pub mod FoundNodes
pub mod Placed
pub mod ReportLaws
pub mod NodeLaws
pub mod PutNodes
pub mod Recounts
pub mod RowPlaces
pub mod LeastReports
pub mod ComputedLaws
pub mod PlaceLaws
pub mod RunLaws
pub mod SoughtRows
pub mod OrderedRuns
pub mod SnapshotLaws
-- What those above use of the crates below.
pub use Rattle.packed_values.proofs as of_packed_values
pub use Rattle.packed_shown.proofs as of_packed_shown
