use Rattle.std.proofs.Common.{◌∙◌, ◌++◌, List, ap, map}
use Rattle.std.proofs.lemmas.Result.{on_ok_weaker}
use Rattle.checkpoint_spec.specs.table_spec.Sorted.{sorted_by}
use Rattle.checkpoint_spec.specs.Lists.{by_rank}
use Rattle.kept_nodes.specs.Seen.{report_seen}
use Rattle.kept_nodes.specs.declared.kept.Report.{Report}
use Rattle.kept_nodes.proofs.SnapshotLaws.{five_parts}
use Rattle.kept_nodes.proofs.node.Node.push.Goals as goal

pub returns : goal.returns
returns c =
    on_ok_weaker c.push_ranked.result
    (λ e.
    five_parts _ _ _ _ _ _ _ _ _ _ _ c.in_ok-push_facts.ensures c.in_ok-push_catalog.ensures c.in_ok-push_deactivation.ensures c.in_ok-push_expiration.ensures
    (e ∙ ap (λ (l : List Report). c.push_expiration.new.commands ++ sorted_by by_rank (map report_seen l)) c.as_slice.ensures.value)) c.push_ranked.ensures
