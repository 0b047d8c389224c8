-- One step of a search through columns.
use Rattle.std.proofs.Common.{◌≡◌, ◌∙◌, ℕ, ◌+◌, ◌<◌, List, length, drop, get_or, refl, ap, true, false, Some, arith}
use Rattle.std.specs.Str.{bytes_eq}
use Rattle.std.proofs.lemmas.List.{drop_more}
use Rattle.fleet_rows.specs.declared.column.Column.{Column}
use Rattle.fleet_rows.specs.Columns.{column_name, first_named, place_in}

module _ (name : List ℕ) (columns : List Column) (at : ℕ) (c : Column) (within : at < length columns) where
  pub named_here : bytes_eq (column_name (get_or columns at c)) name ≡ true → first_named name (drop at columns) ≡ Some (get_or columns at c)
  named_here e = ap (first_named name) (drop_more columns at c within) ∙ rw e refl

  pub named_later : bytes_eq (column_name (get_or columns at c)) name ≡ false → first_named name (drop at columns) ≡ first_named name (drop (at + 1) columns)
  named_later e = ap (first_named name) (drop_more columns at c within) ∙ rw e refl

module _ (column : Column) (columns : List Column) (at : ℕ) (c : Column) (within : at < length columns) where
  pub placed_here : bytes_eq (column_name (get_or columns at c)) (column_name column) ≡ true → place_in column at (drop at columns) ≡ Some at
  placed_here e = ap (place_in column at) (drop_more columns at c within) ∙ rw e refl

  pub placed_later : bytes_eq (column_name (get_or columns at c)) (column_name column) ≡ false → place_in column at (drop at columns) ≡ place_in column (at + 1) (drop (at + 1) columns)
  placed_later e =
      ap (place_in column at) (drop_more columns at c within) ∙ rw e (ap (λ n. place_in column n (drop (at + 1) columns)) (grind arith))
