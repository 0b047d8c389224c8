use Rattle.std.proofs.Common.{◌≡◌, drop}
use Rattle.query_spec.specs.fleet_rows.Columns.{first_named}
use Rattle.ast_tree.proofs.entity.first_named.Given as goal

abbrev pub invariant-loop-column : goal.invariant-loop-column
invariant-loop-column l = first_named l.name (drop l.column-index l.columns) ≡ first_named l.name l.columns
