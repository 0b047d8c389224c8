use Rattle.std.proofs.Common.{◌∙◌, ◌<◌, length, sym, ap, arith}
use Rattle.std.proofs.Math.ListN.{set}
use Rattle.std.proofs.lemmas.List.Edits.{map_over_more}
use Rattle.kept_nodes.specs.Places.{left_by_purge}
use Rattle.fleet_tables.proofs.groups.purge_each.Goals as goal

pub sweeping-preserved : goal.sweeping-preserved
sweeping-preserved c =
    let items = c.sweeping.group-items in
    let i = c.sweeping.group-index in
    let old = c.args.groups.now in
    let within : i < length old = omega arith in
    ap (set items i) c.purge.ensures
    ∙ ap (λ g. set items i (left_by_purge c.args.ttls.now c.args.m c.args.expiry.now g)) (sym c.group-item.is)
    ∙ map_over_more (left_by_purge c.args.ttls.now c.args.m c.args.expiry.now) old items i c.group-item.result within c.sweeping.invariant c.group-item.is
