use Rattle.std.proofs.Common.{◌∙◌, ◌<◌, length, map, sym, ap, arith}
use Rattle.std.proofs.Math.ListN.{set}
use Rattle.std.proofs.lemmas.List.Edits.{map_over_more}
use Rattle.checkpoint_spec.specs.table_machine.Steps.{with_retained}
use Rattle.fleet_tables.proofs.groups.retain_each.Goals as goal

pub sweeping-preserved : goal.sweeping-preserved
sweeping-preserved c =
    let items = c.sweeping.group-items in
    let i = c.sweeping.group-index in
    let old = c.args.groups.now in
    let within : i < length old = omega arith in
    ap (set items i) c.retain.ensures
    ∙ ap (λ g. set items i (map (with_retained c.args.ttls.now c.args.retention.now) g)) (sym c.group-item.is)
    ∙ map_over_more (map (with_retained c.args.ttls.now c.args.retention.now)) old items i c.group-item.result within c.sweeping.invariant c.group-item.is
