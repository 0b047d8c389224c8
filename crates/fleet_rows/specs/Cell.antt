-- The value in a column of a row: a moment or a JSON value.
use Rattle.std.specs.Prelude.{ℕ, ℤ, List, map, ◌⊎◌}
use Rattle.std.specs.declared.cmp.Ordering.{Ordering}
use Rattle.std.specs.Ordering.{nat_cmp, int_cmp}
use Rattle.std.proofs.Common.{inl, inr}
use Rattle.json_tree.specs.text_spec.Json.{Json}
use Rattle.json_tree.specs.text_spec.Order.{class_of, order}
use Rattle.json_tree.specs.Tree.{json_of}
use Rattle.fleet_rows.specs.declared.row.Cell.{Cell}
use Rattle.fleet_rows.specs.declared.row.Cell.TheVariants.{Stamp, Plain}

abbrev pub CellValue : Type 0
CellValue = ℤ ⊎ Json

abbrev pub stamp : ℤ → CellValue
stamp = inl

abbrev pub plain : Json → CellValue
plain = inr

abbrev pub cell_of : Cell → CellValue
cell_of (Stamp m) = stamp m
cell_of (Plain j) = plain (json_of j)

abbrev pub cells_of : List Cell → List CellValue
cells_of = map cell_of

-- the class of a moment in the order of values: after null (0) and before false (2)
abbrev pub stamp_class : ℕ
stamp_class = 1

-- the total order of values; moments sort by time, after null and before false
abbrev pub cell_cmp : CellValue → CellValue → Ordering
cell_cmp (inl m) (inl n) = int_cmp m n
cell_cmp (inl m) (inr j) = nat_cmp stamp_class (class_of j)
cell_cmp (inr j) (inl m) = nat_cmp (class_of j) stamp_class
cell_cmp (inr i) (inr j) = order i j
