use Rattle.std.proofs.Common.{◌∙◌, sym, ap, subst, arith}
use Rattle.std.specs.Borrow.{Bor}
use Rattle.std.specs.Option.{option_map}
use Rattle.entry_tree.specs.declared.waiting.Waiting.{Waiting}
use Rattle.supersede_core.specs.Index.{entries, IsIndex}
use Rattle.supersede_core.proofs.TreeEntries.{entries_counted}
use Rattle.supersede_core.proofs.StepLaws.{IsThere, counted_index}
use Rattle.supersede_core.proofs.CallLaws.{none_stands, there_is, tries_of, may_fail}
use Rattle.supersede_core.proofs.steps.count_failure_in.Goals as goal

pub unreachable-requires : goal.unreachable-requires
unreachable-requires c = none_stands c.args.receipt c.args.tree.now (ap (option_map (λ (w : Bor Waiting). w.now)) (sym c.in_default.is) ∙ c.get.ensures) c.requires.there

pub overflow_add-attempts : goal.overflow_add-attempts
overflow_add-attempts c =
    let there : IsThere c.args.receipt c.args.tree.now c.in-Some.waiting.now = there_is c.args.receipt c.args.tree.now c.in-Some.waiting.now c.count-attempts.ensures.rises c.in-Some.ensures in
    let tries = tries_of c.args.receipt c.args.tree.now c.in-Some.waiting.now there in
    omega (arith, tries, c.requires.few)

pub change-requires : goal.change-requires
change-requires c = may_fail c.args.receipt c.args.tree.now c.count-attempts.ensures.rises c.requires.few

pub returns-clause-counted : goal.returns-clause-counted
returns-clause-counted c = ap entries c.change.ensures ∙ entries_counted c.args.receipt c.args.tree.now

pub returns-clause-attempts : goal.returns-clause-attempts
returns-clause-attempts c =
    let there : IsThere c.args.receipt c.args.tree.now c.in-Some.waiting.now = there_is c.args.receipt c.args.tree.now c.in-Some.waiting.now c.count-attempts.ensures.rises c.in-Some.ensures in
    let tries = tries_of c.args.receipt c.args.tree.now c.in-Some.waiting.now there in
    omega (arith, tries)

pub returns-clause-index : goal.returns-clause-index
returns-clause-index c = λ turns i.
    let there : IsThere c.args.receipt c.args.tree.now c.in-Some.waiting.now = there_is c.args.receipt c.args.tree.now c.in-Some.waiting.now c.count-attempts.ensures.rises c.in-Some.ensures in
    subst (λ ws. IsIndex ws turns) (sym c.change.ensures) (counted_index c.args.receipt c.args.tree.now c.in-Some.waiting.now turns there i)
