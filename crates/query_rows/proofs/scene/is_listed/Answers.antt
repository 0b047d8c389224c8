use Rattle.std.proofs.Common.{◌∙◌}
use Rattle.std.proofs.lemmas.Result.{IfOk-weaker}
use Rattle.query_rows.proofs.SceneLaws.{listed_is}
use Rattle.query_rows.proofs.scene.is_listed.Goals as goal

pub returns : goal.returns
returns c =
    IfOk-weaker c.one_of.result _ _
    (λ b h says. h ∙ listed_is c.args.scene.now says c.args.entity c.args.row.now c.args.fields.now c.args.literals.now)
    c.one_of.ensures
