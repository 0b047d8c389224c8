-- Positions of reports among the reports of their node.
use Rattle.std.specs.Prelude.{◌≡◌, ℕ, ℤ, ◌<◌, ◌≤◌, List, length, Option, Result, Ok, Err}
use Rattle.std.specs.List.{HoldsAt}
use Rattle.std.specs.List.Sorted.{IsPartitionPoint}
use Rattle.std.specs.Ordering.{int_cmp, ordering_then}
use Rattle.std.specs.declared.cmp.Ordering.{Ordering}
use Rattle.std.specs.declared.cmp.Ordering.TheVariants.{Less, Equal, Greater}
use Rattle.checkpoint_spec.specs.text_spec.Compact.{text_cmp}
use Rattle.checkpoint_spec.specs.fleet_rows.declared.applied.Applied.{Applied}
use Rattle.checkpoint_spec.specs.fleet_rows.declared.change.Change.{Change}
use Rattle.checkpoint_spec.specs.fleet_rows.declared.change.Change.TheVariants as change
use Rattle.checkpoint_spec.specs.fleet_rows.declared.change.ReportChange.{ReportChange}
use Rattle.checkpoint_spec.specs.history_spec.Report.{report_text}
use Rattle.checkpoint_spec.specs.history_spec.Trace.{applied_as}
use Rattle.checkpoint_spec.specs.table_spec.Sorted.{report_cmp}

-- reports are compared by timestamp, then by canonical text
abbrev pub change_cmp : ReportChange → ReportChange → Ordering
change_cmp a b = ordering_then (int_cmp a.stamp b.stamp) (text_cmp (report_text a) (report_text b))

-- Ok: the index of a report equal in the order of reports. Err: the index between the reports below it and those above it
abbrev pub IsReportPlace : Applied → List Applied → Result ℕ ℕ → Type 0
IsReportPlace report reports (Ok at) = (at < length reports) × HoldsAt (λ r. report_cmp r report ≡ Equal) reports at
IsReportPlace report reports (Err at) =
    (at ≤ length reports) × IsPartitionPoint (λ r. report_cmp r report ≡ Less) (λ r. report_cmp r report ≡ Greater) reports at

-- the place of a report whose receipt may still be any
abbrev pub IsPlaceAmong : ReportChange → List Applied → Result ℕ ℕ → Type 0
IsPlaceAmong r reports place = (receipt : ℕ) (received : Option ℤ) → IsReportPlace (applied_as receipt received (change.Report r)) reports place

-- a change of another kind has no place
abbrev pub IsPlaceFor : Change → List Applied → Result ℕ ℕ → Type 0
IsPlaceFor (change.Report r) reports place = IsPlaceAmong r reports place
IsPlaceFor _ reports place = Unit {0}
