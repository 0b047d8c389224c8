use Rattle.std.proofs.Common.{◌∙◌, false, sym, ap}
use Rattle.std.specs.Option.{option_map_or}
use Rattle.checkpoint_spec.specs.table_machine.Node.{node_inactive}
use Rattle.kept_nodes.proofs.FoundNodes.{place_found, place_absent, place_within, box_kept}
use Rattle.fleet_tables.proofs.group.Group.inactive.Goals as goal

pub is_inactive-requires : goal.is_inactive-requires
is_inactive-requires c =
    let boxes = c.self.inside.nodes.items in
    let within = place_within boxes c.self.invariant.1 c.args.self.now c.self.view_is c.as_slice.result.now c.as_slice.ensures.value c.as_str.result.now c.args.certname.now c.as_str.ensures c.in-Ok.at c.in-Ok.ensures in
    box_kept boxes c.in-Ok.at c.index.result.now c.deref.result.now c.self.invariant.0 within c.index.ensures c.deref.ensures

pub returns-in-Ok : goal.returns-in-Ok
returns-in-Ok c =
    let found = place_found c.self.inside.nodes.items c.self.invariant.1 c.args.self.now c.self.view_is c.as_slice.result.now c.as_slice.ensures.value c.as_str.result.now c.args.certname.now c.as_str.ensures
    c.in-Ok.at c.index.result.now c.deref.result.now c.index.ensures c.deref.ensures c.in-Ok.ensures in
    c.is_inactive.ensures ∙ ap (λ node. option_map_or (node_inactive c.args.ttls.now c.args.expiry.now) node false) (sym found)

pub returns-in-Err : goal.returns-in-Err
returns-in-Err c =
    let absent = place_absent c.self.inside.nodes.items c.self.invariant.1 c.args.self.now c.self.view_is c.as_slice.result.now c.as_slice.ensures.value c.as_str.result.now c.args.certname.now c.as_str.ensures
    c.in-Err.field-0 c.in-Err.ensures in
    ap (λ node. option_map_or (node_inactive c.args.ttls.now c.args.expiry.now) node false) (sym absent)
