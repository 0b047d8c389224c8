use Rattle.std.proofs.Common.{◌+◌, ℕ, List}
use Rattle.std.specs.Borrow.{Bor}
use Rattle.pattern_port.specs.Course.{texts_of}
use Rattle.pattern_port.proofs.Tries.{tried_on, front_tried, err_tried}
use Rattle.pattern_port.proofs.patterns.Patterns.matches_each.Goals as goal

pub returns-in_err-matches-clause-course : goal.returns-in_err-matches-clause-course
returns-in_err-matches-clause-course g c =
    let pattern : List ℕ = g.Self.Patterns.made_from c.args.compiled.now in
    let list : List (Bor (List ℕ)) = c.args.texts.now in
    let i : ℕ = c.matching.text-index in
    let before = g.Self.Patterns.course c.args.self.now in
    let now = g.Self.Patterns.course c.matches.new.self in
    err_tried pattern (texts_of list) before now c.from_residual.result c.from_residual.ensures.0
    (front_tried pattern list (i + 1) before now (tried_on pattern list i before now _ c.matching-test.true (g.Self.Patterns.course c.matching.self) c.matching.invariant.course c.matches.ensures.course))

pub returns-in_err-push-clause-course : goal.returns-in_err-push-clause-course
returns-in_err-push-clause-course g c =
    let pattern : List ℕ = g.Self.Patterns.made_from c.args.compiled.now in
    let list : List (Bor (List ℕ)) = c.args.texts.now in
    let i : ℕ = c.matching.text-index in
    let before = g.Self.Patterns.course c.args.self.now in
    let now = g.Self.Patterns.course c.matches.new.self in
    err_tried pattern (texts_of list) before now c.from_residual-in_err-push.result c.from_residual-in_err-push.ensures.0
    (front_tried pattern list (i + 1) before now (tried_on pattern list i before now _ c.matching-test.true (g.Self.Patterns.course c.matching.self) c.matching.invariant.course c.matches.ensures.course))
