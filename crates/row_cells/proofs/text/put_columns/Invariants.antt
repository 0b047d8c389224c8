use Rattle.std.proofs.Common.{◌≡◌, ◌++◌, drop, map}
use Rattle.std.specs.List.{AllByRecursion}
use Rattle.row_cells.specs.Texts.{members_text, column, CanBeText}
use Rattle.row_cells.proofs.text.put_columns.Given as goal

abbrev pub invariant-loop-column : goal.invariant-loop-column
invariant-loop-column l = record {
  moments : AllByRecursion (λ c. CanBeText c.1) (drop l.column-index l.columns);
  text : l.out.items ++ members_text l.after (map column (drop l.column-index l.columns)) ≡ l.fn.out.items ++ members_text l.later (map column l.columns);
}
