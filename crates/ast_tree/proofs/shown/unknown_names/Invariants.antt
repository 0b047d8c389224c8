use Rattle.std.proofs.Common.{◌≡◌, drop}
use Rattle.query_spec.specs.Check.{unknown_names}
use Rattle.ast_tree.proofs.shown.unknown_names.Given as goal

abbrev pub invariant-loop-name : goal.invariant-loop-name
invariant-loop-name l = unknown_names l.entity (drop l.name-index l.names) ≡ unknown_names l.entity l.names
