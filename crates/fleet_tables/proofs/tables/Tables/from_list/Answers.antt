use Rattle.std.proofs.Common.{◌≡◌, ◌∙◌, sym, ap, subst}
use Rattle.std.specs.List.{AllByRecursion}
use Rattle.checkpoint_spec.specs.Lists.{all_applied, all_marked, table_of_marks}
use Rattle.fleet_tables.specs.Listed.{HasLawfulChange, HasMoment, with_sweeps}
use Rattle.fleet_tables.proofs.ListedLaws.{stands_listed, stands_further}
use Rattle.fleet_tables.proofs.tables.Tables.from_list.Goals as goal

pub mark_each-requires : goal.mark_each-requires
mark_each-requires c = subst (AllByRecursion HasMoment) (sym c.as_slice.ensures) c.requires.marks

pub apply_each-requires : goal.apply_each-requires
apply_each-requires c = subst (AllByRecursion HasLawfulChange) (sym c.as_slice-2.ensures) c.requires.changes

pub returns-clause-value : goal.returns-clause-value
returns-clause-value c =
    let list = c.args.list.now in
    let swept = c.set_sweeps.ensures ∙ ap (with_sweeps list.expire list.retain) c.new-tables.ensures.value in
    let marks : c.mark_each.new.tables ≡ table_of_marks list = c.in_ok-mark_each.ensures ∙ (λ i. all_marked (c.as_slice.ensures i) (swept i)) in
    c.in_ok-apply_each.ensures ∙ (λ i. all_applied (c.as_slice-2.ensures i) (marks i))

pub returns-clause-stands : goal.returns-clause-stands
returns-clause-stands c = λ history is e. stands_listed c.args.list.now c.apply_each.new.tables history (returns-clause-value c) is e

pub returns-clause-further : goal.returns-clause-further
returns-clause-further c = λ history xs is e. stands_further c.args.list.now c.apply_each.new.tables history xs (returns-clause-value c) is e
