use Rattle.std.proofs.Common.{◌∙◌, ap, not, if◌then◌else◌}
use Rattle.query_plan.specs.means_spec.Cells.{is_null_cell}
use Rattle.query_rows.proofs.SceneLaws.{null_is}
use Rattle.query_rows.proofs.scene.tests_null.Goals as goal

pub returns : goal.returns
returns c = λ says.
    c.null_as.ensures
    ∙ ap (λ x. if c.args.value then is_null_cell x else not (is_null_cell x)) c.seen_in.ensures
    ∙ null_is c.args.scene.now says c.args.entity c.args.row.now c.args.value c.args.field.now
