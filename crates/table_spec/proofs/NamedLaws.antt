-- Where a cell is found by the name of its column, and what is equal to a text.
use Rattle.std.proofs.Common.{◌≡◌, ◌∙◌, ◌↔◌, ℕ, ℤ, zero, suc, ◌+◌, ◌≤◌, List, [], ◌∷◌, slice_get, map, Bool, true, false, Option, Some, None, refl, sym, ap, arith}
use Rattle.std.specs.Prelude.{if◌then◌else◌}
use Rattle.std.specs.Cmp.{signed_Decides}
use Rattle.std.specs.Option.{option_map_or}
use Rattle.std.specs.Ordering.{int_eq}
use Rattle.std.specs.Str.{bytes_eq}
use Rattle.std.proofs.lemmas.Cmp.{nat_list_eq_equiv}
use Rattle.history_spec.proofs.of_plain_laws.Lists.{bytes_eq-itself, one_text}
use Rattle.history_spec.proofs.of_plain_laws.Options.{choose, none_some, some_is}
use Rattle.history_spec.proofs.of_text_spec.JsonLemmas.{bytes_eq-symm}
use Rattle.history_spec.specs.text_spec.Json.{Json, null, boolean, number, string, array, object}
use Rattle.history_spec.specs.text_spec.StampReader.{stamp_of}
use Rattle.history_spec.specs.fleet_rows.Cell.{CellValue, stamp, plain}
use Rattle.history_spec.specs.fleet_rows.Columns.{column_name, columns_of, first_named, place_in, place_of}
use Rattle.history_spec.specs.fleet_rows.declared.column.Column.{Column}
use Rattle.history_spec.specs.fleet_rows.declared.row.Entity.{Entity}
use Rattle.table_spec.specs.Columns.{columns}
use Rattle.table_spec.specs.Named.{cell_under, text_equals}
use Rattle.table_spec.specs.Rows.{Cells}

-- ---- cells

taken : (b : Bool) (x y : CellValue) → b ≡ true → (if b then x else y) ≡ x
taken true x y h = refl
taken false x y h = absurd (let apart : false ≡ true = h in cc)

left : (b : Bool) (x y : CellValue) → b ≡ false → (if b then x else y) ≡ y
left true x y h = absurd (let apart : true ≡ false = h in cc)
left false x y h = refl

place_from : (column : Column) (at : ℕ) (cs : List Column) (place : ℕ) → place_in column at cs ≡ Some place → at ≤ place
place_from column at [] place e = none_some place e
place_from column at (c ∷ cs) place e =
    choose (bytes_eq (column_name c) (column_name column)) (Some at) (place_in column (suc at) cs) (Some place) (at ≤ place) e
    (λ same is. omega (arith, some_is at place is))
    (λ other is. omega (arith, place_from column (suc at) cs place is))

module _ (column : Column) (cell : CellValue) where
  here : (c : Column) (cs : List Column) (k : ℕ) (row : Cells) → bytes_eq (column_name c) (column_name column) ≡ true → k ≡ 0 → slice_get row k ≡ Some cell
      → cell_under (map column_name (c ∷ cs)) (column_name column) row ≡ cell
  here c cs k [] same first there = none_some cell there
  here c cs zero (x ∷ xs) same first there =
      taken (bytes_eq (column_name column) (column_name c)) x (cell_under (map column_name cs) (column_name column) xs) (sym (nat_list_eq_equiv.symm (column_name c) (column_name column)) ∙ same)
      ∙ some_is x cell there
  here c cs (suc k) (x ∷ xs) same first there = absurd (omega (arith, first))

  later : (c : Column) (cs : List Column) (at k : ℕ) (row : Cells) → bytes_eq (column_name c) (column_name column) ≡ false → suc at ≤ at + k → slice_get row k ≡ Some cell
      → ((j : ℕ) (rest : Cells) → at + k ≡ suc at + j → slice_get rest j ≡ Some cell → cell_under (map column_name cs) (column_name column) rest ≡ cell)
      → cell_under (map column_name (c ∷ cs)) (column_name column) row ≡ cell
  later c cs at k [] other behind there next = none_some cell there
  later c cs at zero (x ∷ xs) other behind there next = absurd (omega (arith, behind))
  later c cs at (suc k) (x ∷ xs) other behind there next =
      left (bytes_eq (column_name column) (column_name c)) x (cell_under (map column_name cs) (column_name column) xs) (bytes_eq-symm (column_name c) (column_name column) other)
      ∙ next k xs (omega arith) there

  under_place : (at k : ℕ) (cs : List Column) (row : Cells) → place_in column at cs ≡ Some (at + k) → slice_get row k ≡ Some cell → cell_under (map column_name cs) (column_name column) row ≡ cell
  under_place at k [] row e there = none_some (at + k) e
  under_place at k (c ∷ cs) row e there =
      choose (bytes_eq (column_name c) (column_name column)) (Some at) (place_in column (suc at) cs) (Some (at + k)) (cell_under (map column_name (c ∷ cs)) (column_name column) row ≡ cell) e
      (λ same is. here c cs k row same (omega (arith, some_is at (at + k) is)) there)
      (λ other is. later c cs at k row other (place_from column (suc at) cs (at + k) is) there (λ j rest same held. under_place (suc at) j cs rest (is ∙ ap Some same) held))

-- the cell at the place of its column
pub cell_at_place : (entity : Entity) (column : Column) (place : ℕ) (row : Cells) (cell : CellValue)
    → place_of entity column ≡ Some place → slice_get row place ≡ Some cell → cell_under (columns entity) (column_name column) row ≡ cell
cell_at_place entity column place row cell e there =
    let here : place ≡ 0 + place = omega arith in
    under_place column cell 0 place (columns_of entity) row (e ∙ ap Some here) there

-- null where no column has the name
pub no_cell : (name : List ℕ) (cs : List Column) (row : Cells) → first_named name cs ≡ None → cell_under (map column_name cs) name row ≡ plain null
no_cell name [] row e = refl
no_cell name (c ∷ cs) [] e = refl
no_cell name (c ∷ cs) (x ∷ xs) e =
    choose (bytes_eq (column_name c) name) (Some c) (first_named name cs) None (cell_under (map column_name (c ∷ cs)) name (x ∷ xs) ≡ plain null) e
    (λ same is. none_some c (sym is))
    (λ other is. left (bytes_eq name (column_name c)) x (cell_under (map column_name cs) name xs) (bytes_eq-symm (column_name c) name other) ∙ no_cell name cs xs is)

-- ---- texts

no_text : {P : Type 0} → false ≡ true → P
no_text h = absurd (let apart : false ≡ true = h in cc)

is_text : (s : List ℕ) (j : Json) → text_equals s (plain j) ≡ true → j ≡ string s
is_text s null h = no_text h
is_text s (boolean b) h = no_text h
is_text s (number n) h = no_text h
is_text s (string t) h = ap string (one_text t s h)
is_text s (array js) h = no_text h
is_text s (object ms) h = no_text h

-- a value is that text
pub text_is : (s : List ℕ) (j : Json) → (text_equals s (plain j) ≡ true) ↔ (j ≡ string s)
text_is s j = (is_text s j, λ same. ap (λ v. text_equals s (plain v)) same ∙ bytes_eq-itself s)

is_named : (m : ℤ) (named : Option ℤ) → option_map_or (int_eq m) named false ≡ true → named ≡ Some m
is_named m None h = no_text h
is_named m (Some n) h = ap Some (sym ((signed_Decides m n).0 h))

-- a moment is the one that the text names
pub moment_is : (s : List ℕ) (m : ℤ) → (text_equals s (stamp m) ≡ true) ↔ (stamp_of s ≡ Some m)
moment_is s m = (is_named m (stamp_of s), λ named. ap (λ o. option_map_or (int_eq m) o false) named ∙ (signed_Decides m m).1 refl)
