use Rattle.std.proofs.Common.{◌∙◌, Some, sym, ap}
use Rattle.fleet_tables.specs.fleet_rows.declared.row.Entity.{Entity}
use Rattle.paging_text.specs.means_spec.Cells.{cell_in}
use Rattle.row_views.specs.Held.{report_values}
use Rattle.row_views.proofs.view.seen_of_report.Goals as goal

pub returns-in-Reports : goal.returns-in-Reports
returns-in-Reports c = c.report_column.ensures ∙ ap (λ (e : Entity). cell_in (Some e) c.args.name.now (report_values c.args.held.now)) (sym c.in-Reports.is)
