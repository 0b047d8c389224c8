use Rattle.std.proofs.Common.{◌≡◌, drop}
use Rattle.query_spec.specs.Check.{bad_literals}
use Rattle.ast_tree.proofs.operand.bad_literals.Given as goal

abbrev pub invariant-loop-literal : goal.invariant-loop-literal
invariant-loop-literal l = bad_literals l.entity l.field (drop l.literal-index l.literals) ≡ bad_literals l.entity l.field l.literals
