use Rattle.std.proofs.Common.{◌∙◌, [], ◌∷◌, ◌++◌, sym, ap, subst, append-nil}
use Rattle.std.specs.List.{AllByRecursion}
use Rattle.checkpoint_spec.specs.table_machine.Steps.{with_node}
use Rattle.kept_nodes.specs.Seen.{with_activity}
use Rattle.fleet_tables.specs.Groups.{joined, IsFilled, AreCountsOf, AreFew}
use Rattle.fleet_tables.proofs.JoinedNodes.{Groups, put_filled}
use Rattle.fleet_tables.proofs.MarkLaws.{first_few}
use Rattle.fleet_tables.proofs.RowBounds.{few_counted}
use Rattle.fleet_tables.proofs.marks.mark_first.Goals as goal

pub returns-clause-nodes : goal.returns-clause-nodes
returns-clause-nodes c =
    let group = c.in_ok-group.group in
    let step = with_node c.args.certname.now (with_activity c.args.active) in
    ap joined (c.in_ok-push.ensures.items ∙ ap (λ (l : Groups). l ++ group ∷ []) c.requires.empty)
    ∙ append-nil group ∙ c.in_ok-group.ensures ∙ ap (λ (l : Groups). step (joined l)) (sym c.requires.empty)

pub returns-clause-filled : goal.returns-clause-filled
returns-clause-filled c =
    let group = c.in_ok-group.group in
    subst (AllByRecursion IsFilled) (sym (c.in_ok-push.ensures.items ∙ ap (λ (l : Groups). l ++ group ∷ []) c.requires.empty))
    (subst IsFilled (sym c.in_ok-group.ensures) (put_filled c.args.certname.now (with_activity c.args.active) []), tt)

pub returns-clause-rows : goal.returns-clause-rows
returns-clause-rows c =
    let group = c.in_ok-group.group in
    let total = c.counts-total.result in
    subst (λ (l : Groups). AreCountsOf total (joined l)) (sym (c.in_ok-push.ensures.items ∙ ap (λ (l : Groups). l ++ group ∷ []) c.requires.empty))
    (subst (AreCountsOf total) (sym (append-nil group)) c.counts-total.ensures)

pub returns-clause-within : goal.returns-clause-within
returns-clause-within c =
    let group = c.in_ok-group.group in
    few_counted c.counts-total.result group c.counts-total.ensures
    (subst AreFew (sym c.in_ok-group.ensures) (first_few c.args.certname.now c.args.active))
