use Rattle.std.proofs.Common.{◌<◌, length, Ok, refl, arith}
use Rattle.std.proofs.lemmas.Option.{slice_get_read}
use Rattle.fleet_tables.proofs.of_history_laws.Members.{All-Among}
use Rattle.fleet_tables.specs.fleet_rows.declared.row.Entity.TheVariants.{Reports}
use Rattle.fleet_tables.specs.fleet_rows.declared.row.Row.{Row}
use Rattle.kept_nodes.specs.Kept.{IsReport}
use Rattle.kept_nodes.proofs.FoundNodes.{at_place}
use Rattle.kept_nodes.proofs.RowPlaces.{report_row_is, counted_reports}
use Rattle.paging_text.specs.means_spec.table_spec.Cells.{report_cells}
use Rattle.row_views.proofs.row.report_of.Goals as goal

pub invariant_of-result : goal.invariant_of-result
invariant_of-result c =
    let node = c.args.node.now in
    let r = c.index-report.result.now in
    let within : c.args.j < length node.reports.items = omega (arith, c.requires.within, counted_reports node) in
    All-Among IsReport node.reports.items r c.requires.kept.3 (at_place node.reports.items c.args.j r (slice_get_read node.reports.items (length node.reports.items) c.args.j r refl within c.index-report.ensures))

pub returns : goal.returns
returns c = λ ttls expiry.
    let node = c.args.node.now in
    let r = c.index-report.result.now in
    let within : c.args.j < length node.reports.items = omega (arith, c.requires.within, counted_reports node) in
    let row : Row = record { entity = Reports; cells = report_cells r.received r.change } in
    (report_row_is node Reports c.args.j r (Ok row) refl within c.index-report.ensures (refl, refl) ttls expiry).1
