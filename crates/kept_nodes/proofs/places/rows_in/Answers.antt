use Rattle.std.proofs.Common.{◌∙◌, sym, subst}
use Rattle.kept_nodes.specs.Counted.{IsWithin}
use Rattle.kept_nodes.proofs.Counting.{rows_up_to_last}
use Rattle.kept_nodes.proofs.places.rows_in.Goals as goal

pub plus-requires : goal.plus-requires
plus-requires c =
    let all = rows_up_to_last c.args.nodes.now c.in-Some.last.now c.deref.result.now c.deref-in-Some.result.now c.counts.result
    c.requires.counted c.in-Some.ensures.item.3.0 c.in-Some.ensures.item.1 c.deref.ensures c.counts.ensures c.deref-in-Some.ensures in
    record { within = subst IsWithin (sym all) c.requires.within }

pub returns-in-Some : goal.returns-in-Some
returns-in-Some c =
    c.plus.ensures
    ∙ rows_up_to_last c.args.nodes.now c.in-Some.last.now c.deref.result.now c.deref-in-Some.result.now c.counts.result
    c.requires.counted c.in-Some.ensures.item.3.0 c.in-Some.ensures.item.1 c.deref.ensures c.counts.ensures c.deref-in-Some.ensures
