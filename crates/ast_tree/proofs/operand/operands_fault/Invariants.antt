use Rattle.std.proofs.Common.{◌≡◌, drop}
use Rattle.query_spec.specs.Check.{operands_fault}
use Rattle.ast_tree.proofs.operand.operands_fault.Given as goal

abbrev pub invariant-loop-field : goal.invariant-loop-field
invariant-loop-field l = operands_fault l.sought l.entity (drop l.field-index l.fields) ≡ operands_fault l.sought l.entity l.fields
