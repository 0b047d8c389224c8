use Rattle.std.proofs.Common.{◌≡◌}
use Rattle.ast_tree.specs.Tree.{filter_of}
use Rattle.pql_machine.specs.Machine.{negate}
use Rattle.pql_parts.proofs.build.negate.Given as goal

abbrev pub invariant-nots : goal.invariant-nots
invariant-nots l = negate l.left (filter_of l.found.filter) ≡ negate l.fn.nots (filter_of l.fn.built.filter)

abbrev pub decreases-nots : goal.decreases-nots
decreases-nots l = l.left
