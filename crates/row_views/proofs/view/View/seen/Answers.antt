use Rattle.std.proofs.Common.{◌∙◌, sym, ap}
use Rattle.paging_text.specs.means_spec.Cells.{cell_in}
use Rattle.row_views.specs.Held.{held_cells}
use Rattle.row_views.proofs.view.View.seen.Goals as goal

pub returns-in-Fact : goal.returns-in-Fact
returns-in-Fact c = c.seen_in_fact.ensures ∙ ap (cell_in c.args.entity c.args.name.now) (ap held_cells (sym c.in-Fact.is) ∙ c.self.view_is)

pub returns-in-Resource : goal.returns-in-Resource
returns-in-Resource c = c.seen_in_resource.ensures ∙ ap (cell_in c.args.entity c.args.name.now) (ap held_cells (sym c.in-Resource.is) ∙ c.self.view_is)

pub returns-in-Report : goal.returns-in-Report
returns-in-Report c = c.seen_in_report.ensures ∙ ap (cell_in c.args.entity c.args.name.now) (ap held_cells (sym c.in-Report.is) ∙ c.self.view_is)
