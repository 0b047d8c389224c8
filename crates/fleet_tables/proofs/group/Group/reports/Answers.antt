use Rattle.std.proofs.Common.{◌≡◌, ◌∙◌, length, map, Some, sym, ap, arith}
use Rattle.std.specs.Option.{option_map}
use Rattle.std.proofs.lemmas.List.{length-map}
use Rattle.checkpoint_spec.specs.table_machine.Table as machine
use Rattle.kept_nodes.specs.Seen.{report_seen}
use Rattle.kept_nodes.proofs.FoundNodes.{place_found, place_absent}
use Rattle.fleet_tables.proofs.group.Group.reports.Goals as goal

pub returns-in-Ok-clause-value : goal.returns-in-Ok-clause-value
returns-in-Ok-clause-value c =
    let found = place_found c.self.inside.nodes.items c.self.invariant.1 c.args.self.now c.self.view_is c.as_slice.result.now c.as_slice.ensures.value c.as_str.result.now c.args.certname.now c.as_str.ensures
    c.in-Ok.at c.index.result.now c.deref.result.now c.index.ensures c.deref.ensures c.in-Ok.ensures in
    let number : c.len.result ≡ length (map report_seen c.deref.result.now.reports.items) = omega (arith, length-map c.deref.result.now.reports.items report_seen) in
    ap (λ n. Some n) number ∙ ap (option_map (λ (node : machine.Node). length node.reports)) (sym found)

pub returns-in-Err-clause-value : goal.returns-in-Err-clause-value
returns-in-Err-clause-value c =
    let absent = place_absent c.self.inside.nodes.items c.self.invariant.1 c.args.self.now c.self.view_is c.as_slice.result.now c.as_slice.ensures.value c.as_str.result.now c.args.certname.now c.as_str.ensures
    c.in-Err.field-0 c.in-Err.ensures in
    ap (option_map (λ (node : machine.Node). length node.reports)) (sym absent)
