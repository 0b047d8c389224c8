use Rattle.std.proofs.Common.{IfOk, sym, subst}
use Rattle.checkpoint_spec.specs.fleet_rows.Change.{change_certname}
use Rattle.checkpoint_spec.specs.fleet_rows.declared.change.Change.{Change}
use Rattle.checkpoint_spec.specs.table_machine.Steps.{find_node}
use Rattle.kept_nodes.specs.Places.{reports_of}
use Rattle.kept_nodes.specs.ReportPlaces.{IsPlaceFor}
use Rattle.kept_nodes.specs.Computed.{IsShownOf}
use Rattle.fleet_tables.proofs.RoomFits.{shown_printable}
use Rattle.fleet_tables.proofs.state.State.place_for.Goals as goal

pub report_place-requires : goal.report_place-requires
report_place-requires c = shown_printable c.args.shown.now c.in-Report.report (subst (IsShownOf c.args.shown.now) c.in-Report.is c.requires)

pub returns-in-Report : goal.returns-in-Report
returns-in-Report c =
    subst (λ (x : Change). IfOk c.report_place.result (IsPlaceFor x (reports_of (find_node (change_certname x) c.args.self.now.nodes)))) (sym c.in-Report.is) c.report_place.ensures
