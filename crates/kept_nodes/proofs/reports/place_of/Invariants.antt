use Rattle.std.proofs.Common.{◌≡◌, ◌-◌, ◌≤◌, ◌<◌, ℕ, length, get_or}
use Rattle.std.specs.declared.cmp.Ordering.TheVariants.{Less, Greater}
use Rattle.kept_nodes.specs.ReportPlaces.{change_cmp}
use Rattle.kept_nodes.specs.declared.kept.Report.{Report}
use Rattle.kept_nodes.proofs.reports.place_of.Given as goal

abbrev pub invariant-halves : goal.invariant-halves
invariant-halves l = record {
  ordered : l.low ≤ l.high;
  within : l.high ≤ length l.reports;
  below : (k : ℕ) (d : Report) → k < l.low → change_cmp (get_or l.reports k d).change l.change ≡ Less;
  above : (k : ℕ) (d : Report) → l.high ≤ k → k < length l.reports → change_cmp (get_or l.reports k d).change l.change ≡ Greater;
}

abbrev pub decreases-halves : goal.decreases-halves
decreases-halves l = l.high - l.low
