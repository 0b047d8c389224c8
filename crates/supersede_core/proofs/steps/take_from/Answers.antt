use Rattle.std.proofs.Common.{◌∙◌, sym, ap, subst}
use Rattle.supersede_core.specs.Index.{entries, IsIndex}
use Rattle.supersede_core.specs.Handover.{handed}
use Rattle.supersede_core.proofs.TreeEntries.{entries_left, entries_handed}
use Rattle.supersede_core.proofs.StepLaws.{IsThere, left_index}
use Rattle.supersede_core.proofs.CallLaws.{none_stands, there_is, in_turns, some_claims}
use Rattle.supersede_core.proofs.steps.take_from.Goals as goal

pub unreachable-requires : goal.unreachable-requires
unreachable-requires c = none_stands c.args.receipt c.args.tree.now (sym c.in_default.is ∙ c.take.ensures.entry) c.requires.there

pub leave-handover-requires-clause-there : goal.leave-handover-requires-clause-there
leave-handover-requires-clause-there c =
    let there : IsThere c.args.receipt c.args.tree.now c.in-Some.waiting = there_is c.args.receipt c.args.tree.now c.in-Some.waiting c.count.ensures.rises c.in-Some.ensures.entry in
    in_turns c.args.receipt c.args.tree.now c.in-Some.waiting c.args.turns.now c.requires.index there

pub leave-handover-requires-clause-claimed : goal.leave-handover-requires-clause-claimed
leave-handover-requires-clause-claimed c =
    let there : IsThere c.args.receipt c.args.tree.now c.in-Some.waiting = there_is c.args.receipt c.args.tree.now c.in-Some.waiting c.count.ensures.rises c.in-Some.ensures.entry in
    some_claims c.args.receipt c.args.tree.now c.in-Some.waiting c.args.turns.now c.requires.index there

pub returns-clause-taken : goal.returns-clause-taken
returns-clause-taken c =
    ap entries c.hand.ensures ∙ entries_handed c.leave-handover.result c.take.new.self ∙ ap entries c.in-Some.ensures.taken ∙ entries_left c.args.receipt c.args.tree.now

pub returns-clause-entry : goal.returns-clause-entry
returns-clause-entry c = (there_is c.args.receipt c.args.tree.now c.in-Some.waiting c.count.ensures.rises c.in-Some.ensures.entry).entry

pub returns-clause-index : goal.returns-clause-index
returns-clause-index c =
    let there : IsThere c.args.receipt c.args.tree.now c.in-Some.waiting = there_is c.args.receipt c.args.tree.now c.in-Some.waiting c.count.ensures.rises c.in-Some.ensures.entry in
    subst (λ ws. IsIndex ws c.leave-handover.new.turns) (sym (c.hand.ensures ∙ ap (handed c.leave-handover.result) c.in-Some.ensures.taken))
    (left_index c.args.receipt c.args.tree.now c.in-Some.waiting c.args.turns.now c.leave-handover.new.turns c.leave-handover.result there c.requires.index c.leave-handover.ensures)
