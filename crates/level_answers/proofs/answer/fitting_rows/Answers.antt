use Rattle.std.proofs.Common.{◌≡◌, ◌∙◌, List, map, ap, sym, subst}
use Rattle.std.proofs.lemmas.Result.{IfOk-weaker}
use Rattle.query_plan.specs.means_spec.Groups.{group_cell}
use Rattle.query_plan.specs.means_spec.Shown.{distinct}
use Rattle.query_plan.specs.query_spec.declared.parts.Selected.{Selected}
use Rattle.level_answers.specs.Fitting.{AllSumsFit}
use Rattle.level_answers.specs.Grouped.{group_seen}
use Rattle.query_rows.specs.Referred.{selected_of}
use Rattle.level_answers.proofs.Fitting.{outputs_fit}
use Rattle.level_answers.proofs.answer.fitting_rows.Goals as goal

pub returns : goal.returns
returns c =
    let e = c.args.entity in
    let xs = map group_seen c.args.groups.now in
    let outputs : selected_of c.as_slice-outputs.result.now ≡ distinct c.args.shown.now = ap selected_of c.as_slice-outputs.ensures.value ∙ c.in_ok-kept.ensures in
    let fit = subst (λ (os : List Selected). AllSumsFit e os xs) (sym outputs) (outputs_fit e xs c.args.shown.now c.requires) in
    IfOk-weaker c.group_rows.result _ _ (λ lines h. h fit ∙ ap (λ (os : List Selected). map (λ x. map (group_cell e x) os) xs) outputs) c.group_rows.ensures
