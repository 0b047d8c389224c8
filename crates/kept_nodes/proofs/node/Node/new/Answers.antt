use Rattle.std.proofs.Common.{sym, subst, map}
use Rattle.std.specs.List.{AllByRecursion}
use Rattle.std.specs.List.Sorted.{IsStrictlySortedBy}
use Rattle.checkpoint_spec.specs.table_spec.Sorted.{report_cmp}
use Rattle.checkpoint_spec.proofs.of_history_laws.StrictlySorted.{sorted-nil}
use Rattle.kept_nodes.specs.Kept.{IsReport}
use Rattle.kept_nodes.specs.Seen.{report_seen}
use Rattle.kept_nodes.proofs.node.Node.new.Goals as goal

-- it has no reports
pub returns-clause-kept : goal.returns-clause-kept
returns-clause-kept c =
    let none = sym c.new.ensures.items in (
      tt,
      tt,
      tt,
      subst (AllByRecursion IsReport) none tt,
      subst (λ l. IsStrictlySortedBy report_cmp (map report_seen l)) none (sorted-nil report_cmp),
    )
