use Rattle.std.proofs.Common.{◌∙◌, map, sym, ap}
use Rattle.query_plan.specs.means_spec.Shown.{shown_cells}
use Rattle.query_rows.proofs.Filters.{map_same}
use Rattle.level_answers.proofs.shown.shown_rows.Goals as goal

pub returns-in-None : goal.returns-in-None
returns-in-None c = sym (ap (λ s. map (shown_cells c.args.entity s) c.args.rows) c.in-None.is ∙ map_same c.args.rows)
