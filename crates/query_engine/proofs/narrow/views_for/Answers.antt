use Rattle.std.proofs.Common.{◌∙◌, Option, sym, ap}
use Rattle.std.proofs.lemmas.Result.{IfOk-weaker}
use Rattle.fleet_tables.specs.fleet_rows.declared.row.Entity.{Entity}
use Rattle.query_rows.proofs.Filters.{map_same}
use Rattle.query_engine.specs.Narrow.{lines_as}
use Rattle.query_engine.proofs.narrow.views_for.Goals as goal

pub returns-in-None : goal.returns-in-None
returns-in-None c =
    IfOk-weaker c.views-in-None.result _ _
    (λ views h. h ∙ map_same c.args.rows.now ∙ sym (ap (λ (n : Option Entity). lines_as n c.args.rows.now) c.in-None.is)) c.views-in-None.ensures
