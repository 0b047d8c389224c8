use Rattle.std.proofs.Common.{◌∙◌, ap, false}
use Rattle.std.specs.Prelude.{slice_get}
use Rattle.std.specs.List.{list_any}
use Rattle.std.specs.Option.{option_map_or}
use Rattle.std.proofs.lemmas.Result.{IfOk-weaker}
use Rattle.query_plan.specs.means_spec.Cells.{equal_cells}
use Rattle.query_rows.proofs.SceneLaws.{tuple_is}
use Rattle.query_rows.proofs.run.selects.Goals as goal

pub returns : goal.returns
returns c =
    IfOk-weaker c.selects_seen.result _ _
    (λ b h says. h ∙ ap (λ xs. option_map_or (list_any (equal_cells xs)) (slice_get c.args.found.now c.args.at) false) (tuple_is c.args.scene.now says c.args.entity c.args.row.now c.args.fields.now))
    c.selects_seen.ensures
