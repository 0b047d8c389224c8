use Rattle.std.proofs.Common.{◌≡◌, ◌∙◌, ap, refl, List, ℕ, Bool, map, length, Some}
use Rattle.std.proofs.lemmas.Option.{slice_get_read}
use Rattle.std.specs.Prelude.{slice_get, option_map}
use Rattle.pattern_port.specs.Course.{texts_of}
use Rattle.query_rows.proofs.BlockLaws.{tried_each, answers_given}
use Rattle.query_rows.proofs.Gets.{get_map}
use Rattle.query_rows.proofs.blocks.tried_column.Goals as goal

pub returns-in_err-truths-in-Some-clause-tried : goal.returns-in_err-truths-in-Some-clause-tried
returns-in_err-truths-in-Some-clause-tried g c = tried_each _ _ _ _ c.matches_each.result c.matches_each.ensures.course

pub returns-in_ok-truths-in-Some-clause-tried : goal.returns-in_ok-truths-in-Some-clause-tried
returns-in_ok-truths-in-Some-clause-tried g c = tried_each _ _ _ _ c.matches_each.result c.matches_each.ensures.course

pub returns-in_ok-truths-in-Some-clause-value : goal.returns-in_ok-truths-in-Some-clause-value
returns-in_ok-truths-in-Some-clause-value g c = λ i row there.
    let ps : List (List ℕ) = map (λ x. g.P.Patterns.made_from x) c.args.compiled.now in
    let says : List ℕ → List ℕ → Bool = g.P.Patterns.says c.args.patterns.now in
    let q = g.P.Patterns.made_from c.in-Some.pattern.now in
    let look = c.in-Some.ensures.lookup in
    let there_is = slice_get_read c.args.compiled.now (length c.args.compiled.now) c.args.at c.in-Some.pattern.now refl look.3.0 look.1 in
    let at : slice_get ps c.args.at ≡ Some q = get_map (λ x. g.P.Patterns.made_from x) c.args.compiled.now c.args.at ∙ ap (option_map (λ x. g.P.Patterns.made_from x)) there_is in
    let texts = c.as_slice.ensures.value in
    answers_given c.args.scene.now says ps c.args.entity c.args.rows.now c.args.field.now c.args.at q c.in_ok-truths-in-Some.truths.items at
    (c.in_ok-truths-in-Some.ensures.answer ∙ ap (λ l. map (says q) (texts_of l)) texts ∙ ap (map (says q)) c.in_ok-texts-in-Some.ensures) i row there
