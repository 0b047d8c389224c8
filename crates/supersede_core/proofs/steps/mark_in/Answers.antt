use Rattle.std.proofs.Common.{◌∙◌, ◌≤◌, true, sym, ap, subst, length, arith}
use Rattle.std.specs.Borrow.{Bor}
use Rattle.std.specs.Option.{option_map}
use Rattle.entry_tree.specs.declared.waiting.Waiting.{Waiting}
use Rattle.entry_tree.specs.declared.waiting.Change.TheVariants.{Claimed}
use Rattle.entry_tree.specs.Waits.{found, MayChange}
use Rattle.supersede_core.specs.Index.{entries, IsIndex}
use Rattle.supersede_core.specs.Handover.{handed}
use Rattle.supersede_core.proofs.TreeEntries.{entries_marked, entries_handed}
use Rattle.supersede_core.proofs.StepLaws.{IsThere, claimed_index}
use Rattle.supersede_core.proofs.CallLaws.{there_is, always, none_queued, queued_is, in_turns, few_claims}
use Rattle.supersede_core.proofs.steps.mark_in.Goals as goal
use Rattle.entry_tree.specs.fleet_rows.Limits.{most_pending}

pub unreachable-requires : goal.unreachable-requires
unreachable-requires c = none_queued c.args.receipt c.args.tree.now c.count.ensures.rises (ap (option_map (λ (w : Bor Waiting). w.now)) (sym c.in_default.is) ∙ c.get.ensures) c.requires.queued

pub claim-handover-requires-clause-there : goal.claim-handover-requires-clause-there
claim-handover-requires-clause-there c =
    let there : IsThere c.args.receipt c.args.tree.now c.in-Some.waiting.now = there_is c.args.receipt c.args.tree.now c.in-Some.waiting.now c.count.ensures.rises c.in-Some.ensures in
    in_turns c.args.receipt c.args.tree.now c.in-Some.waiting.now c.args.turns.now c.requires.index there

pub claim-handover-requires-clause-few : goal.claim-handover-requires-clause-few
claim-handover-requires-clause-few c =
    let few : length c.args.tree.now ≤ most_pending = omega (arith, c.count.ensures.count, c.count.ensures.few) in
    few_claims c.args.tree.now c.in-Some.waiting.now c.args.turns.now c.requires.index few

pub change-requires : goal.change-requires
change-requires c = always (found c.args.receipt c.args.tree.now) (MayChange (Claimed true)) (λ w. tt)

pub returns-clause-marked : goal.returns-clause-marked
returns-clause-marked c =
    ap entries c.hand.ensures ∙ entries_handed c.claim-handover.result c.change.new.self ∙ ap entries c.change.ensures ∙ entries_marked c.args.receipt true c.args.tree.now

pub returns-clause-index : goal.returns-clause-index
returns-clause-index c =
    let there : IsThere c.args.receipt c.args.tree.now c.in-Some.waiting.now = there_is c.args.receipt c.args.tree.now c.in-Some.waiting.now c.count.ensures.rises c.in-Some.ensures in
    subst (λ ws. IsIndex ws c.claim-handover.new.turns) (sym (c.hand.ensures ∙ ap (handed c.claim-handover.result) c.change.ensures))
    (claimed_index c.args.receipt c.args.tree.now c.in-Some.waiting.now c.args.turns.now c.claim-handover.new.turns c.claim-handover.result there (queued_is c.args.receipt c.args.tree.now c.in-Some.waiting.now there c.requires.queued) c.requires.index c.claim-handover.ensures)
