use Rattle.std.proofs.Common.{◌≡◌, ◌∙◌, ap, sym, subst, refl}
use Rattle.query_plan.specs.means_spec.Cells.{field_cell, field_compares, compares}
use Rattle.query_plan.specs.query_spec.declared.parts.Field.{Field}
use Rattle.query_rows.specs.Scenes.{world}
use Rattle.query_rows.proofs.SceneLaws.{seen_is}
use Rattle.query_rows.proofs.scene.compares.Goals as goal

pub returns-in-Column : goal.returns-in-Column
returns-in-Column c = λ says.
    let w = world c.args.scene.now says in
    let row = c.args.row.now in
    let Same : Field → Type 0 = λ f. compares c.args.op (field_cell w c.args.entity f row) c.args.literal.now ≡ field_compares w c.args.entity c.args.op f c.args.literal.now row in
    c.compares_cell.ensures
    ∙ ap (λ x. compares c.args.op x c.args.literal.now) (seen_is c.args.scene.now says c.args.entity row c.args.field.now)
    ∙ subst Same (sym c.in-Column.is) refl

pub returns-in-Parameter : goal.returns-in-Parameter
returns-in-Parameter c = λ says.
    let w = world c.args.scene.now says in
    let row = c.args.row.now in
    let Same : Field → Type 0 = λ f. compares c.args.op (field_cell w c.args.entity f row) c.args.literal.now ≡ field_compares w c.args.entity c.args.op f c.args.literal.now row in
    c.compares_cell-in-Parameter.ensures
    ∙ ap (λ x. compares c.args.op x c.args.literal.now) (seen_is c.args.scene.now says c.args.entity row c.args.field.now)
    ∙ subst Same (sym c.in-Parameter.is) refl

pub returns-in-Fact : goal.returns-in-Fact
returns-in-Fact c = λ says.
    let w = world c.args.scene.now says in
    let row = c.args.row.now in
    let Same : Field → Type 0 = λ f. compares c.args.op (field_cell w c.args.entity f row) c.args.literal.now ≡ field_compares w c.args.entity c.args.op f c.args.literal.now row in
    c.compares_cell-in-Fact.ensures
    ∙ ap (λ x. compares c.args.op x c.args.literal.now) (seen_is c.args.scene.now says c.args.entity row c.args.field.now)
    ∙ subst Same (sym c.in-Fact.is) refl
