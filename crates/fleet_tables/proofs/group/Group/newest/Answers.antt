use Rattle.std.proofs.Common.{◌∙◌, sym, ap}
use Rattle.std.specs.Option.{option_and_then}
use Rattle.kept_nodes.specs.Seen.{newest_rank}
use Rattle.kept_nodes.proofs.FoundNodes.{place_found, place_absent}
use Rattle.fleet_tables.proofs.group.Group.newest.Goals as goal

pub returns-in-Ok : goal.returns-in-Ok
returns-in-Ok c =
    let found = place_found c.self.inside.nodes.items c.self.invariant.1 c.args.self.now c.self.view_is c.as_slice.result.now c.as_slice.ensures.value c.as_str.result.now c.args.certname.now c.as_str.ensures
    c.in-Ok.at c.index.result.now c.deref.result.now c.index.ensures c.deref.ensures c.in-Ok.ensures in
    c.newest.ensures ∙ ap (option_and_then (newest_rank c.args.kind)) (sym found)

pub returns-in-Err : goal.returns-in-Err
returns-in-Err c =
    let absent = place_absent c.self.inside.nodes.items c.self.invariant.1 c.args.self.now c.self.view_is c.as_slice.result.now c.as_slice.ensures.value c.as_str.result.now c.args.certname.now c.as_str.ensures
    c.in-Err.field-0 c.in-Err.ensures in
    ap (option_and_then (newest_rank c.args.kind)) (sym absent)
