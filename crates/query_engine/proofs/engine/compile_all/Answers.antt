use Rattle.std.proofs.Common.{◌≡◌, ◌∙◌, ℕ, List, [], ◌∷◌, length, refl, sym, ap, subst, arith, Err}
use Rattle.std.proofs.lemmas.Result.{err_from_is_err_and}
use Rattle.pattern_port.specs.Course.{read, course_more}
use Rattle.pattern_port.specs.Refused.{asked_more, is_refused}
use Rattle.query_plan.specs.Made.{patterns_of}
use Rattle.query_engine.specs.Answers.{IsPlaceIn}
use Rattle.query_engine.proofs.Asked.{read_front, refused_first, memory_then, read_told, refused_told, memory_told}
use Rattle.query_engine.specs.declared.engine.QueryFault.TheVariants.{Memory}
use Rattle.query_engine.proofs.Tried.{refused_course, memory_course, all_course}
use Rattle.query_engine.proofs.Places.{place_at}
use Rattle.query_engine.proofs.engine.compile_all.Goals as goal

pub returns-in-Err-Refused-clause-fault : goal.returns-in-Err-Refused-clause-fault
returns-in-Err-Refused-clause-fault g c =
    subst (IsPlaceIn (patterns_of c.args.list.now)) (sym c.path.ensures) (place_at c.args.list.now c.loop-pattern.pattern-index c.pattern-item.result c.loop-pattern-test.true c.pattern-item.is)

pub returns-in_err-push-in-Ok-clause-asked : goal.returns-in_err-push-in-Ok-clause-asked
returns-in_err-push-in-Ok-clause-asked g c =
    let so_far = g.P.Patterns.asked c.loop-pattern.patterns in
    let p = err_from_is_err_and c.from_residual.result c.from_residual.ensures.1 in
    memory_then (patterns_of c.args.list.now) (g.P.Patterns.asked c.args.patterns.now) (g.P.Patterns.asked c.compile.new.self) c.from_residual.result p.0 p.1 p.2
    (read_front c.args.list.now c.loop-pattern.pattern-index c.pattern-item.result c.loop-pattern-test.true c.pattern-item.is (g.P.Patterns.asked c.args.patterns.now) so_far (g.P.Patterns.asked c.compile.new.self) c.loop-pattern.invariant.asked
    (is_refused c.compile.result) (c.compile.ensures.noted ∙ ap (λ (s : List ℕ). asked_more so_far ((s, is_refused c.compile.result) ∷ [])) c.as_str.ensures) (read_told c.compile.result c.in-Ok.made (cc)))

pub returns-in-Err-Refused-clause-asked : goal.returns-in-Err-Refused-clause-asked
returns-in-Err-Refused-clause-asked g c =
    let so_far = g.P.Patterns.asked c.loop-pattern.patterns in
    refused_first c.args.list.now c.loop-pattern.pattern-index c.pattern-item.result c.loop-pattern-test.true c.pattern-item.is (g.P.Patterns.asked c.args.patterns.now) so_far (g.P.Patterns.asked c.compile.new.self) c.loop-pattern.invariant.asked
    c.path.result c.path.ensures
    (is_refused c.compile.result) (c.compile.ensures.noted ∙ ap (λ (s : List ℕ). asked_more so_far ((s, is_refused c.compile.result) ∷ [])) c.as_str.ensures) (refused_told c.compile.result c.in-Err-Refused.field-0 (cc) (cc))

pub returns-in-Err-Memory-clause-asked : goal.returns-in-Err-Memory-clause-asked
returns-in-Err-Memory-clause-asked g c =
    let so_far = g.P.Patterns.asked c.loop-pattern.patterns in
    read_front c.args.list.now c.loop-pattern.pattern-index c.pattern-item.result c.loop-pattern-test.true c.pattern-item.is (g.P.Patterns.asked c.args.patterns.now) so_far (g.P.Patterns.asked c.compile.new.self) c.loop-pattern.invariant.asked
    (is_refused c.compile.result) (c.compile.ensures.noted ∙ ap (λ (s : List ℕ). asked_more so_far ((s, is_refused c.compile.result) ∷ [])) c.as_str.ensures) (memory_told c.compile.result c.in-Err-Memory.field-0 (cc) (cc))

pub returns-in_err-push-in-Ok-clause-course : goal.returns-in_err-push-in-Ok-clause-course
returns-in_err-push-in-Ok-clause-course g c =
    let so_far = g.P.Patterns.course c.loop-pattern.patterns in
    let p = err_from_is_err_and c.from_residual.result c.from_residual.ensures.1 in
    memory_course c.args.list.now c.loop-pattern.pattern-index c.pattern-item.result c.loop-pattern-test.true c.pattern-item.is (g.P.Patterns.course c.args.patterns.now) so_far (g.P.Patterns.course c.compile.new.self) c.loop-pattern.invariant.course
    c.from_residual.result p.0 p.1 p.2
    (is_refused c.compile.result) (c.compile.ensures.course ∙ ap (λ (s : List ℕ). course_more so_far (read s (is_refused c.compile.result) ∷ [])) c.as_str.ensures) (read_told c.compile.result c.in-Ok.made (cc))

pub returns-in-Err-Refused-clause-course : goal.returns-in-Err-Refused-clause-course
returns-in-Err-Refused-clause-course g c =
    let so_far = g.P.Patterns.course c.loop-pattern.patterns in
    refused_course c.args.list.now c.loop-pattern.pattern-index c.pattern-item.result c.loop-pattern-test.true c.pattern-item.is (g.P.Patterns.course c.args.patterns.now) so_far (g.P.Patterns.course c.compile.new.self) c.loop-pattern.invariant.course
    c.path.result c.path.ensures
    (is_refused c.compile.result) (c.compile.ensures.course ∙ ap (λ (s : List ℕ). course_more so_far (read s (is_refused c.compile.result) ∷ [])) c.as_str.ensures) (refused_told c.compile.result c.in-Err-Refused.field-0 (cc) (cc))

pub returns-in-Err-Memory-clause-course : goal.returns-in-Err-Memory-clause-course
returns-in-Err-Memory-clause-course g c =
    let so_far = g.P.Patterns.course c.loop-pattern.patterns in
    memory_course c.args.list.now c.loop-pattern.pattern-index c.pattern-item.result c.loop-pattern-test.true c.pattern-item.is (g.P.Patterns.course c.args.patterns.now) so_far (g.P.Patterns.course c.compile.new.self) c.loop-pattern.invariant.course
    (Err Memory) Memory refl refl
    (is_refused c.compile.result) (c.compile.ensures.course ∙ ap (λ (s : List ℕ). course_more so_far (read s (is_refused c.compile.result) ∷ [])) c.as_str.ensures) (memory_told c.compile.result c.in-Err-Memory.field-0 (cc) (cc))

pub returns-clause-course : goal.returns-clause-course
returns-clause-course g c =
    let i : ℕ = c.loop-pattern.pattern-index in
    let whole : length c.args.list.now ≡ i = omega (arith, c.loop-pattern.auto.pattern-index-end, c.loop-pattern-test.false) in
    all_course c.args.list.now i (g.P.Patterns.course c.args.patterns.now) (g.P.Patterns.course c.loop-pattern.patterns) _ whole c.loop-pattern.invariant.course
