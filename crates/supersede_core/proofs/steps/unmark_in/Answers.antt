use Rattle.std.proofs.Common.{◌∙◌, false, sym, ap, subst}
use Rattle.std.specs.Borrow.{Bor}
use Rattle.std.specs.Option.{option_map}
use Rattle.entry_tree.specs.declared.waiting.Waiting.{Waiting}
use Rattle.entry_tree.specs.declared.waiting.Change.TheVariants.{Claimed}
use Rattle.entry_tree.specs.Waits.{found, MayChange}
use Rattle.supersede_core.specs.Index.{entries, IsIndex}
use Rattle.supersede_core.specs.Handover.{handed}
use Rattle.supersede_core.proofs.TreeEntries.{entries_marked, entries_handed}
use Rattle.supersede_core.proofs.StepLaws.{IsThere, released_index}
use Rattle.supersede_core.proofs.CallLaws.{there_is, always, none_claimed, claimed_is, claims_there}
use Rattle.supersede_core.proofs.steps.unmark_in.Goals as goal

pub unreachable-requires : goal.unreachable-requires
unreachable-requires c = none_claimed c.args.receipt c.args.tree.now c.count.ensures.rises (ap (option_map (λ (w : Bor Waiting). w.now)) (sym c.in_default.is) ∙ c.get.ensures) c.requires.claimed

pub release-handover-requires : goal.release-handover-requires
release-handover-requires c =
    let there : IsThere c.args.receipt c.args.tree.now c.in-Some.waiting.now = there_is c.args.receipt c.args.tree.now c.in-Some.waiting.now c.count.ensures.rises c.in-Some.ensures in
    claims_there c.args.receipt c.args.tree.now c.in-Some.waiting.now c.args.turns.now c.requires.index there (claimed_is c.args.receipt c.args.tree.now c.in-Some.waiting.now there c.requires.claimed)

pub change-requires : goal.change-requires
change-requires c = always (found c.args.receipt c.args.tree.now) (MayChange (Claimed false)) (λ w. tt)

pub returns-clause-unmarked : goal.returns-clause-unmarked
returns-clause-unmarked c =
    ap entries c.hand.ensures ∙ entries_handed c.release-handover.result c.change.new.self ∙ ap entries c.change.ensures ∙ entries_marked c.args.receipt false c.args.tree.now

pub returns-clause-index : goal.returns-clause-index
returns-clause-index c =
    let there : IsThere c.args.receipt c.args.tree.now c.in-Some.waiting.now = there_is c.args.receipt c.args.tree.now c.in-Some.waiting.now c.count.ensures.rises c.in-Some.ensures in
    subst (λ ws. IsIndex ws c.release-handover.new.turns) (sym (c.hand.ensures ∙ ap (handed c.release-handover.result) c.change.ensures))
    (released_index c.args.receipt c.args.tree.now c.in-Some.waiting.now c.args.turns.now c.release-handover.new.turns c.release-handover.result there (claimed_is c.args.receipt c.args.tree.now c.in-Some.waiting.now there c.requires.claimed) c.requires.index c.release-handover.ensures)
