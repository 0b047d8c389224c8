use Rattle.std.proofs.Common.{◌≡◌, ◌∙◌, [], ◌∷◌, ◌++◌, sym, ap, subst}
use Rattle.entry_tree.specs.declared.waiting.Waiting.{Waiting}
use Rattle.supersede_core.specs.Index.{entries, IsIndex}
use Rattle.supersede_core.specs.Handover.{handed, Enters}
use Rattle.supersede_core.proofs.TreeEntries.{entries_more, entries_handed}
use Rattle.supersede_core.proofs.StepLaws.{entered_index}
use Rattle.supersede_core.proofs.CallLaws.{all_below}
use Rattle.supersede_core.proofs.steps.add_to.Goals as goal

pub put-requires-clause-above : goal.put-requires-clause-above
put-requires-clause-above c = all_below _ c.args.tree.now (rw c.in_ok-spot.ensures c.requires.above)

pub returns-clause-ok : goal.returns-clause-ok
returns-clause-ok c =
    ap entries c.hand.ensures ∙ entries_handed c.in_ok-handover.handover c.put.new.self ∙ ap entries c.put.ensures ∙ entries_more c.args.tree.now c.in_ok-spot.spot
    ∙ ap (λ (w : Waiting). entries c.args.tree.now ++ w.entry ∷ []) c.in_ok-spot.ensures

pub returns-clause-index : goal.returns-clause-index
returns-clause-index c =
    let is : c.waiting.result.now ≡ c.args.waiting = c.waiting.ensures ∙ c.in_ok-spot.ensures in
    subst (λ ws. IsIndex ws c.enter.new.turns) (sym (c.hand.ensures ∙ ap (handed c.in_ok-handover.handover) (c.put.ensures ∙ ap (λ (w : Waiting). c.args.tree.now ++ w ∷ []) c.in_ok-spot.ensures)))
    (entered_index c.args.tree.now c.args.waiting c.args.turns.now c.enter.new.turns c.in_ok-handover.handover
    (record { rises = c.requires.index.rises; above = c.requires.above; key = c.requires.key; claimed = c.requires.queued; candidate = c.requires.unmarked })
    c.requires.index
    (subst (λ w. Enters w c.args.turns.now c.enter.new.turns c.in_ok-handover.handover) is c.in_ok-handover.ensures.ok))
