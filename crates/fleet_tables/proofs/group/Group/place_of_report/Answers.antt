use Rattle.std.proofs.Common.{Option, IfOk, sym, ap, subst}
use Rattle.checkpoint_spec.specs.table_machine.Table as machine
use Rattle.checkpoint_spec.specs.table_machine.Steps.{find_node}
use Rattle.kept_nodes.specs.Places.{reports_of}
use Rattle.kept_nodes.specs.ReportPlaces.{IsPlaceAmong}
use Rattle.kept_nodes.proofs.FoundNodes.{place_found, place_absent, place_within, box_kept}
use Rattle.kept_nodes.proofs.ReportLaws.{none_there}
use Rattle.fleet_tables.proofs.group.Group.place_of_report.Goals as goal

pub place_for_report-requires-clause-kept : goal.place_for_report-requires-clause-kept
place_for_report-requires-clause-kept c =
    let boxes = c.self.inside.nodes.items in
    let within = place_within boxes c.self.invariant.1 c.args.self.now c.self.view_is c.as_slice.result.now c.as_slice.ensures.value c.as_str.result.now c.args.report.now.certname c.as_str.ensures c.in-Ok.at c.in-Ok.ensures in
    box_kept boxes c.in-Ok.at c.index.result.now c.deref.result.now c.self.invariant.0 within c.index.ensures c.deref.ensures

pub returns-in-Ok : goal.returns-in-Ok
returns-in-Ok c =
    let found = place_found c.self.inside.nodes.items c.self.invariant.1 c.args.self.now c.self.view_is c.as_slice.result.now c.as_slice.ensures.value c.as_str.result.now c.args.report.now.certname c.as_str.ensures
    c.in-Ok.at c.index.result.now c.deref.result.now c.index.ensures c.deref.ensures c.in-Ok.ensures in
    subst (λ (o : Option machine.Node). IfOk c.place_for_report.result (IsPlaceAmong c.args.report.now (reports_of o))) (sym found) c.place_for_report.ensures

pub returns-in-Err : goal.returns-in-Err
returns-in-Err c =
    let absent = place_absent c.self.inside.nodes.items c.self.invariant.1 c.args.self.now c.self.view_is c.as_slice.result.now c.as_slice.ensures.value c.as_str.result.now c.args.report.now.certname c.as_str.ensures
    c.in-Err.field-0 c.in-Err.ensures in
    none_there c.args.report.now (reports_of (find_node c.args.report.now.certname c.args.self.now)) (ap reports_of absent)
