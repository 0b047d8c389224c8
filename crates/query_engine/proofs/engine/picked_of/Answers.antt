use Rattle.std.proofs.Common.{◌≡◌, ◌∙◌, ℕ, List, Bool, map, refl, ap, subst}
use Rattle.std.proofs.lemmas.Result.{err_from_is_err_and}
use Rattle.pattern_port.specs.Refused.{asked_more}
use Rattle.query_plan.specs.query_spec.declared.parts.Pattern.{Pattern}
use Rattle.query_plan.specs.Made.{patterns_of}
use Rattle.query_plan.specs.Plan.{level_patterns, pattern_texts}
use Rattle.query_engine.specs.Answers.{taken, AreAsked, MatchPicked}
use Rattle.query_rows.specs.Tables.{world_of}
use Rattle.query_engine.specs.declared.engine.Picked.{Picked}
use Rattle.query_engine.proofs.Asked.{none_read, asked_then, same_fault, memory_then}
use Rattle.query_engine.specs.Courses.{HasRead}
use Rattle.query_engine.proofs.Tried.{course_of_ok, course_of_fault, course_of_memory}
use Rattle.query_engine.proofs.Picks.{counts_still}
use Rattle.query_engine.proofs.engine.picked_of.Goals as goal

pub answered-requires-clause-compiled : goal.answered-requires-clause-compiled
answered-requires-clause-compiled g c =
    ap (map (λ x. g.P.Patterns.made_from x)) c.as_slice-in-Ok.ensures.value
    ∙ c.in-Ok.ensures.made
    ∙ ap pattern_texts (ap patterns_of c.as_slice.ensures.value ∙ c.in_ok-plan.ensures.patterns_are)

pub returns-in-Ok-clause-answer : goal.returns-in-Ok-clause-answer
returns-in-Ok-clause-answer g c =
    subst (λ (m : List ℕ → List ℕ → Bool). MatchPicked (world_of c.args.tables.now m) c.args.query.now c.answered.result) (λ i p t. c.in-Ok.ensures.same p t i) c.answered.ensures.answer

pub returns-in-Ok-clause-cause : goal.returns-in-Ok-clause-cause
returns-in-Ok-clause-cause g c =
    counts_still _ _ _ (c.answered.ensures.calm ∙ c.in-Ok.ensures.cause.calm (λ h. h)) c.answered.ensures.read

pub returns-in_err-plan-clause-asked : goal.returns-in_err-plan-clause-asked
returns-in_err-plan-clause-asked g c =
    let before = g.P.Patterns.asked c.args.patterns.now in
    let p = err_from_is_err_and c.from_residual.result c.from_residual.ensures.1 in
    memory_then (level_patterns c.args.query.now) before before c.from_residual.result p.0 p.1 p.2 (none_read (level_patterns c.args.query.now) before before refl)

pub returns-in-Ok-clause-asked : goal.returns-in-Ok-clause-asked
returns-in-Ok-clause-asked g c =
    let before = g.P.Patterns.asked c.args.patterns.now in
    let all : patterns_of c.as_slice.result.now ≡ level_patterns c.args.query.now = ap patterns_of c.as_slice.ensures.value ∙ c.in_ok-plan.ensures.patterns_are in
    asked_then (level_patterns c.args.query.now) before (g.P.Patterns.asked c.answered.new.patterns) c.answered.result
    (c.answered.ensures.silent ∙ c.in-Ok.ensures.asked ∙ ap (λ (l : List Pattern). asked_more before (taken l)) all) c.answered.ensures.read

pub returns-clause-asked : goal.returns-clause-asked
returns-clause-asked g c =
    let before = g.P.Patterns.asked c.args.patterns.now in
    let now = g.P.Patterns.asked c.compile_all.new.patterns in
    let all : patterns_of c.as_slice.result.now ≡ level_patterns c.args.query.now = ap patterns_of c.as_slice.ensures.value ∙ c.in_ok-plan.ensures.patterns_are in
    same_fault (level_patterns c.args.query.now) before now _ Picked c.compile_all.result c.in-Err.fault c.in-Err.is
    (subst (λ (l : List Pattern). AreAsked l before now c.compile_all.result) all c.compile_all.ensures.asked)

pub returns-in_err-plan-clause-course : goal.returns-in_err-plan-clause-course
returns-in_err-plan-clause-course g c =
    let p = err_from_is_err_and c.from_residual.result c.from_residual.ensures.1 in
    course_of_memory (level_patterns c.args.query.now) (g.P.Patterns.course c.args.patterns.now) c.from_residual.result p.0 p.1 p.2

pub returns-in-Ok-clause-course : goal.returns-in-Ok-clause-course
returns-in-Ok-clause-course g c =
    let before = g.P.Patterns.course c.args.patterns.now in
    let mid = g.P.Patterns.course c.compile_all.new.patterns in
    let all : patterns_of c.as_slice.result.now ≡ level_patterns c.args.query.now = ap patterns_of c.as_slice.ensures.value ∙ c.in_ok-plan.ensures.patterns_are in
    course_of_ok (level_patterns c.args.query.now) before mid (g.P.Patterns.course c.answered.new.patterns) c.compile_all.result _ c.answered.result c.in-Ok.is
    (subst (λ (l : List Pattern). HasRead l before mid c.compile_all.result) all c.compile_all.ensures.course) c.answered.ensures.tried c.answered.ensures.read

pub returns-clause-course : goal.returns-clause-course
returns-clause-course g c =
    let before = g.P.Patterns.course c.args.patterns.now in
    let now = g.P.Patterns.course c.compile_all.new.patterns in
    let all : patterns_of c.as_slice.result.now ≡ level_patterns c.args.query.now = ap patterns_of c.as_slice.ensures.value ∙ c.in_ok-plan.ensures.patterns_are in
    course_of_fault (level_patterns c.args.query.now) _ Picked before now c.compile_all.result c.in-Err.fault c.in-Err.is
    (subst (λ (l : List Pattern). HasRead l before now c.compile_all.result) all c.compile_all.ensures.course)
