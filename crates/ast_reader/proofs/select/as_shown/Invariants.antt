use Rattle.std.proofs.Common.{◌≡◌, ◌++◌, drop, map}
use Rattle.query_spec.specs.declared.parts.Selected.TheVariants.{Column}
use Rattle.ast_reader.proofs.select.as_shown.Given as goal

abbrev pub invariant-loop-column : goal.invariant-loop-column
invariant-loop-column l = l.shown ++ map Column (drop l.column-index l.columns) ≡ map Column l.columns
