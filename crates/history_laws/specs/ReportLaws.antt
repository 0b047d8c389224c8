-- Statements on which reports of a node are kept.
use Rattle.std.specs.Prelude.{◌≡◌, ◌↔◌, ◌≤◌, ℕ, ℤ, ◌≤ℤ◌, ◌-ℤ◌, List, length, filter, Some, None}
use Rattle.std.specs.List.{Contains}
use Rattle.spool_spec.specs.fleet_rows.declared.change.Change.TheVariants.{Report}
use Rattle.spool_spec.specs.fleet_rows.declared.change.ReportChange.{ReportChange}
use Rattle.spool_spec.specs.fleet_rows.declared.command.Kind.TheVariants as kind
use Rattle.spool_spec.specs.fleet_rows.declared.settings.Ttls.{Ttls}
use Rattle.spool_spec.specs.fleet_rows.declared.applied.Applied.{Applied}
use Rattle.spool_spec.specs.fleet_rows.Change.{change_kind, change_stamp}
use Rattle.spool_spec.specs.history_spec.Trace.{Trace, rank_of, receipts}
use Rattle.spool_spec.specs.history_spec.Node.{days}
use Rattle.spool_spec.specs.history_spec.Report.{report_text, is_below}
use Rattle.spool_spec.specs.history_spec.Life.{life, greatest_retention, kept_reports}
use Rattle.history_laws.specs.NewestLaws.{IsBelow}
use Rattle.history_laws.specs.OrderLaws.{AreDistinct}

-- both commands are reports with the same canonical text
abbrev pub IsOneReport : Applied → Applied → Type 0
IsOneReport x y = (r q : ReportChange) × (x.change ≡ Report r) × (y.change ≡ Report q) × (report_text r ≡ report_text q)

-- a report of the node's life that isn't older than the report lifetime, counted back from the greatest sweep of reports
pub record IsRetained (ttls : Ttls) (node : List ℕ) (history : Trace) (x : Applied) : Type 0 where
  pub of_node : Contains (life ttls node history) x
  pub is_report : change_kind x.change ≡ kind.Report
  pub not_older : (sweep : ℤ) → greatest_retention history ≡ Some sweep → (sweep -ℤ days ttls.report_days) ≤ℤ change_stamp x.change

-- a retained report whose rank no retained report of the same text exceeds
pub record IsFirstOfItsText (ttls : Ttls) (node : List ℕ) (history : Trace) (x : Applied) : Type 0 where
  pub retained : IsRetained ttls node history x
  pub not_outranked : (y : Applied) → IsRetained ttls node history y → IsOneReport x y → ¬ IsBelow (rank_of x) (rank_of y)

-- without a limit exactly those reports are kept
abbrev pub WithoutALimitTheFirstAreKept : Type 0
WithoutALimitTheFirstAreKept =
    (ttls : Ttls) (node : List ℕ) (history : Trace) (x : Applied) → ttls.report_count ≡ None
    → Contains (kept_reports ttls node history) x ↔ IsFirstOfItsText ttls node history x

-- therefore each retained report is kept, or one with the same text
abbrev pub WithoutALimitEachTextIsKept : Type 0
WithoutALimitEachTextIsKept =
    (ttls : Ttls) (node : List ℕ) (history : Trace) (x : Applied) → ttls.report_count ≡ None → IsRetained ttls node history x
    → (y : Applied) × Contains (kept_reports ttls node history) y × IsOneReport x y

-- with a limit, each kept report is one of those
abbrev pub OnlyTheFirstAreKept : Type 0
OnlyTheFirstAreKept =
    (ttls : Ttls) (node : List ℕ) (history : Trace) (x : Applied)
    → Contains (kept_reports ttls node history) x → IsFirstOfItsText ttls node history x

-- with a limit, no more reports than the limit are kept
abbrev pub TheLimitIsKept : Type 0
TheLimitIsKept =
    (ttls : Ttls) (node : List ℕ) (history : Trace) (limit : ℕ) → ttls.report_count ≡ Some limit → AreDistinct (receipts history)
    → length (kept_reports ttls node history) ≤ limit

-- a report that the limit drops has a lesser rank than `limit` kept reports
abbrev pub WhatIsNotKeptIsOutranked : Type 0
WhatIsNotKeptIsOutranked =
    (ttls : Ttls) (node : List ℕ) (history : Trace) (limit : ℕ) (x : Applied) → ttls.report_count ≡ Some limit → AreDistinct (receipts history)
    → IsFirstOfItsText ttls node history x → ¬ Contains (kept_reports ttls node history) x
    → limit ≤ length (filter (is_below x) (kept_reports ttls node history))
