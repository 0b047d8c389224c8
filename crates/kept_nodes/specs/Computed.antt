-- What is computed of a change before it is applied, and the room for its report.
use Rattle.std.specs.Prelude.{◌≡◌, ℕ, ◌<◌, List, [], length, Result, IfSome}
use Rattle.std.specs.Vec.{vec_capacity}
use Rattle.std.specs.declared.alloc.Global.{Global}
use Rattle.std.specs.declared.vec.Vec.{Vec}
use Rattle.checkpoint_spec.specs.fleet_rows.declared.applied.Applied.{Applied}
use Rattle.checkpoint_spec.specs.fleet_rows.declared.change.Change.{Change}
use Rattle.checkpoint_spec.specs.fleet_rows.declared.change.Change.TheVariants as change
use Rattle.checkpoint_spec.specs.history_spec.Report.{report_object}
use Rattle.checkpoint_spec.specs.table_spec.Cells.{hash}
use Rattle.row_cells.specs.Texts.{HasPrintableMoments}
use Rattle.kept_nodes.specs.declared.kept.Report.{Report}
use Rattle.kept_nodes.specs.declared.computed.Derived.{Derived}
use Rattle.kept_nodes.specs.declared.computed.Derived.TheVariants as shown
use Rattle.kept_nodes.specs.Kept.{IsFactsShown, IsCatalogShown}
use Rattle.kept_nodes.specs.Packed.{AreListsOf}
use Rattle.kept_nodes.specs.ReportPlaces.{IsPlaceFor}

-- whatever is computed of the change is correct
abbrev pub IsShownOf : Derived → Change → Type 0
IsShownOf (shown.Facts s) (change.Facts c) = IsFactsShown s c
IsShownOf (shown.Catalog s) (change.Catalog c) = IsCatalogShown s c
IsShownOf (shown.Report s) (change.Report r) = AreListsOf s.lists r × HasPrintableMoments r × IfSome s.hash (λ h. h ≡ hash (report_object r))
IsShownOf shown.Nothing (change.Deactivate c) = Unit {0}
IsShownOf shown.Nothing (change.Expiration c) = Unit {0}
IsShownOf _ _ = ⊥

-- for a report, the list has room for these reports and one more, and the place among them is the report's
abbrev pub HasRoomFor : Derived → Change → List Applied → Type 0
HasRoomFor (shown.Report s) change reports = (s.reports.items ≡ []) × (length reports < vec_capacity s.reports) × IsPlaceFor change reports s.place
HasRoomFor _ change reports = Unit {0}

-- for a report, the list is empty and has room for this many reports and one more
abbrev pub IsListFor : Derived → Vec Report Global → ℕ → Type 0
IsListFor (shown.Report s) list reports = (list.items ≡ []) × (reports < vec_capacity list)
IsListFor _ list reports = Unit {0}

abbrev pub IsShownFor : Derived → Change → List Applied → Type 0
IsShownFor shown change reports = IsShownOf shown change × HasRoomFor shown change reports

-- the same values with this list for reports, and this place
abbrev pub with_reports : Derived → Vec Report Global → Result ℕ ℕ → Derived
with_reports (shown.Report s) reports place = shown.Report (record s { reports = reports; place = place })
with_reports shown reports place = shown
