use Rattle.std.proofs.Common.{◌∙◌, Option, IfOk, sym, ap, subst}
use Rattle.checkpoint_spec.specs.table_machine.Table as machine
use Rattle.checkpoint_spec.specs.table_machine.Table.{Table}
use Rattle.checkpoint_spec.specs.table_machine.Steps.{find_node}
use Rattle.fleet_tables.specs.Groups.{joined}
use Rattle.kept_nodes.specs.Places.{reports_of}
use Rattle.kept_nodes.specs.ReportPlaces.{IsPlaceAmong}
use Rattle.fleet_tables.proofs.JoinedNodes.{Groups}
use Rattle.kept_nodes.proofs.ReportLaws.{none_there}
use Rattle.fleet_tables.proofs.state.State.report_place.Goals as goal

pub returns-in-Some : goal.returns-in-Some
returns-in-Some c =
    let name = c.args.report.now.certname in
    let same = c.in-Some.ensures ∙ ap (λ (gs : Groups). find_node name (joined gs)) c.as_slice.ensures.value ∙ ap (λ (t : Table). find_node name t.nodes) c.self.view_is in
    subst (λ (o : Option machine.Node). IfOk c.place_of_report.result (IsPlaceAmong c.args.report.now (reports_of o))) same c.place_of_report.ensures

pub returns-in-None : goal.returns-in-None
returns-in-None c =
    let name = c.args.report.now.certname in
    let absent = sym (c.in-None.ensures ∙ ap (λ (gs : Groups). find_node name (joined gs)) c.as_slice.ensures.value ∙ ap (λ (t : Table). find_node name t.nodes) c.self.view_is) in
    none_there c.args.report.now (reports_of (find_node name c.args.self.now.nodes)) (ap reports_of absent)
