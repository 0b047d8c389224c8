use Rattle.std.proofs.Common.{◌+◌, List, ◌++◌, map, drop, ap, ◌∙◌}
use Rattle.core_state.specs.core_spec.declared.entry.Entry.{Entry}
use Rattle.core_opening.specs.Replayed.{grouped}
use Rattle.core_opening.proofs.Grouped.{one_above, one_few, one_on}
use Rattle.core_opening.proofs.groups.with_groups.Goals as goal

pub add-requires-clause-above : goal.add-requires-clause-above
add-requires-clause-above c = one_above c.grouping.pending c.args.waiting.now c.grouping.at c.at.result.now c.at.ensures c.grouping.invariant c.requires.rises

pub add-requires-clause-attempts : goal.add-requires-clause-attempts
add-requires-clause-attempts c = one_few c.grouping.pending c.args.waiting.now c.grouping.at c.at.result.now c.at.ensures c.grouping.invariant c.requires.few

pub grouping-preserved : goal.grouping-preserved
grouping-preserved c =
    let waiting = c.args.waiting.now in
    ap (λ (l : List Entry). l ++ map grouped (drop (c.grouping.at + 1) waiting)) c.in_ok-add.ensures ∙ one_on c.grouping.pending waiting c.grouping.at c.at.result.now c.at.ensures c.grouping.invariant
