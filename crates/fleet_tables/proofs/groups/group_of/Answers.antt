use Rattle.std.proofs.Common.{◌∙◌, ◌+◌, ◌-◌, ◌/◌, ◌<◌, length, refl, sym, arith}
use Rattle.std.proofs.lemmas.Option.{slice_get_read}
use Rattle.fleet_tables.proofs.JoinedNodes.{groups_below, groups_above, filled_at}
use Rattle.fleet_tables.proofs.groups.group_of.Goals as goal

pub halves-preserved-then-starts_above : goal.halves-preserved-then-starts_above
halves-preserved-then-starts_above c =
    let groups = c.args.groups.now in
    let middle = c.halves.low + (c.halves.high - c.halves.low) / 2 in
    let g = c.index-groups-middle.result in
    let within : middle < length groups = omega arith in
    let there = slice_get_read groups (length groups) middle g refl within c.index-groups-middle.is in
    record {
      ordered = omega arith;
      within = omega arith;
      below = c.halves.invariant.below;
      above = groups_above c.args.certname.now groups middle g there c.requires.order (sym c.starts_above.ensures ∙ c.if-starts_above.true);
    }

pub halves-preserved : goal.halves-preserved
halves-preserved c =
    let groups = c.args.groups.now in
    let middle = c.halves.low + (c.halves.high - c.halves.low) / 2 in
    let g = c.index-groups-middle.result in
    let within : middle < length groups = omega arith in
    let some : 0 < middle = omega arith in
    let there = slice_get_read groups (length groups) middle g refl within c.index-groups-middle.is in
    record {
      ordered = omega arith;
      within = c.halves.invariant.within;
      below = groups_below c.args.certname.now groups middle g there c.requires.order (filled_at groups middle g c.requires.filled some there) (sym c.starts_above.ensures ∙ c.if-starts_above.false);
      above = c.halves.invariant.above;
    }
