pub mod RowLaws
pub mod Known
pub mod RoomFits
pub mod RowBounds
pub mod NodeOrder
pub mod StandsLaws
pub mod JoinedNodes
pub mod Halves
pub mod GroupRows
pub mod GroupRooms
pub mod StartLaws
pub mod MarkLaws
pub mod OwnLaws
pub mod SpanNodes
pub mod SeekLaws
pub mod ActiveLaws
pub mod ListedLaws
pub mod SnapshotLaws
pub mod LawfulLists
-- What those above use of the crates below.
pub use Rattle.checkpoint_spec.proofs.of_plain_laws as of_plain_laws
pub use Rattle.checkpoint_spec.proofs.of_stamp_time as of_stamp_time
pub use Rattle.checkpoint_spec.proofs.of_wire_laws as of_wire_laws
pub use Rattle.checkpoint_spec.proofs.of_history_laws as of_history_laws
pub use Rattle.checkpoint_spec.proofs.of_table_machine as of_table_machine
pub use Rattle.checkpoint_spec.proofs as of_checkpoint_spec
pub use Rattle.row_cells.proofs as of_row_cells
pub use Rattle.kept_nodes.proofs.of_packed_values as of_packed_values
pub use Rattle.kept_nodes.proofs.PlaceLaws as PlaceLaws
pub use Rattle.kept_nodes.proofs as of_kept_nodes
