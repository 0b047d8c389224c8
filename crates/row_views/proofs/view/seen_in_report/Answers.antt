use Rattle.std.proofs.Common.{◌∙◌, Option, sym, ap}
use Rattle.fleet_tables.specs.fleet_rows.declared.row.Entity.{Entity}
use Rattle.paging_text.specs.means_spec.Cells.{cell_in}
use Rattle.row_views.specs.Held.{report_values}
use Rattle.row_views.proofs.view.seen_in_report.Goals as goal

pub returns-in-Some : goal.returns-in-Some
returns-in-Some c = c.seen_of_report.ensures ∙ ap (λ (e : Option Entity). cell_in e c.args.name.now (report_values c.args.held.now)) (sym c.in-Some.is)
