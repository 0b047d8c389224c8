use Rattle.std.proofs.Common.{◌<◌, length, refl, arith}
use Rattle.checkpoint_spec.specs.Lists.{all_marked, marked}
use Rattle.fleet_tables.specs.Listed.{HasMoment}
use Rattle.fleet_tables.proofs.ListedLaws.{one_further, holds_here, holds_behind}
use Rattle.fleet_tables.proofs.listed.mark_each.Goals as goal

pub mark-requires : goal.mark-requires
mark-requires c =
    let within : c.marking.mark-index < length c.args.marks.now = omega arith in
    holds_here c.args.marks.now c.marking.mark-index c.mark-item.result within c.mark-item.is HasMoment c.marking.invariant.left

pub marking-preserved : goal.marking-preserved
marking-preserved c =
    let marks = c.args.marks.now in
    let at = c.marking.mark-index in
    let within : at < length marks = omega arith in
    let mark = c.mark-item.result in record {
      marked = one_further marks at mark within c.mark-item.is all_marked marked (λ y ys t. refl) c.marking.tables c.mark.new.self _ c.in_ok-mark.ensures.ok c.marking.invariant.marked;
      left = holds_behind marks at mark within c.mark-item.is HasMoment c.marking.invariant.left;
    }
