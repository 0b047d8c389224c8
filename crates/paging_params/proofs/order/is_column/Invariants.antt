use Rattle.std.proofs.Common.{◌≡◌, drop}
use Rattle.std.specs.Prelude.{map}
use Rattle.ast_tree.specs.fleet_rows.Columns.{column_name}
use Rattle.paging_params.specs.Paging.{is_among}
use Rattle.paging_params.proofs.order.is_column.Given as goal

abbrev pub invariant-loop-column : goal.invariant-loop-column
invariant-loop-column l = is_among (map column_name (drop l.column-index l.columns)) l.name ≡ is_among (map column_name l.columns) l.name
