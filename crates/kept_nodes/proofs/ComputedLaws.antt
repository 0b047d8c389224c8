-- The room for a report, and its place.
use Rattle.std.proofs.Common.{◌≡◌, ◌<◌, List, [], length}
use Rattle.std.specs.Vec.{vec_capacity}
use Rattle.checkpoint_spec.specs.fleet_rows.declared.applied.Applied.{Applied}
use Rattle.checkpoint_spec.specs.fleet_rows.declared.change.Change.TheVariants as change
use Rattle.checkpoint_spec.specs.fleet_rows.declared.change.ReportChange.{ReportChange}
use Rattle.kept_nodes.specs.ReportPlaces.{IsPlaceAmong}
use Rattle.kept_nodes.specs.Computed.{IsShownFor, HasRoomFor}
use Rattle.kept_nodes.specs.declared.computed.Derived.TheVariants as shown
use Rattle.kept_nodes.specs.declared.computed.ReportShown.{ReportShown}

-- the list for a report is empty, and has room
pub list_in_room : (s : ReportShown) (r : ReportChange) (reports : List Applied) → IsShownFor (shown.Report s) (change.Report r) reports → (s.reports.items ≡ []) × (length reports < vec_capacity s.reports)
list_in_room s r reports h = let room : HasRoomFor (shown.Report s) (change.Report r) reports = h.1 in (room.0, room.1)

-- the room for a report tells its place
pub place_in_room : (s : ReportShown) (r : ReportChange) (reports : List Applied) → IsShownFor (shown.Report s) (change.Report r) reports → IsPlaceAmong r reports s.place
place_in_room s r reports h = let room : HasRoomFor (shown.Report s) (change.Report r) reports = h.1 in room.2
