-- Cells that are printed as JSON values, and the text of rows of them.
use Rattle.std.proofs.Common.{◌≡◌, ℕ, suc, ◌≤◌, ℤ, List, [], ◌∷◌, map, not, Bool, true, false, ◌&&◌, ◌||◌, if◌then◌else◌, Option, Some, None, arith, refl, sym, subst, nat_lt}
use Rattle.std.specs.List.{AllByRecursion, list_all, list_any, zip}
use Rattle.std.specs.Str.{IsUtf8, bytes_eq}
use Rattle.std.proofs.lemmas.Str.{IsUtf8-from_ascii}
use Rattle.hex.specs.Hex.{lower_digits}
use Rattle.hex.proofs.HexLemmas.{IsAscii-encode_with}
use Rattle.sha1.specs.Sha1.{sha1}
use Rattle.table_machine.specs.text_spec.Compact.{canonical}
use Rattle.table_machine.specs.text_spec.Json.{Json, string, array, items_of, members_of, levels, items_levels, members_levels, find_member, HasDistinctKeys}
use Rattle.table_machine.specs.text_spec.JsonText.{SpellsWithin}
use Rattle.table_machine.specs.text_spec.Stamp.{clock_text}
use Rattle.table_machine.proofs.of_text_spec.JsonLemmas.{members_list-of}
use Rattle.table_machine.specs.json_machine.Values.{IsValue, AreValues, AreMemberValues}
use Rattle.table_machine.proofs.of_json_machine.CompactTrees.{spells_compact}
use Rattle.table_machine.proofs.of_plain_laws.Booleans.{both_true}
use Rattle.table_machine.specs.fleet_rows.Cell.{CellValue, stamp, plain}
use Rattle.table_machine.specs.fleet_rows.Printed.{clock_at}
use Rattle.table_machine.specs.fleet_rows.declared.row.Entity.{Entity}
use Rattle.table_machine.specs.fleet_rows.declared.row.Entity.TheVariants.{Nodes, Factsets, Facts, Catalogs, Resources, Edges, Reports, FactContents, Inventory, Events, EventCounts}
use Rattle.table_machine.specs.history_spec.Lawful.{IfWhole, IfText, IsText, IsJson, IsList}
use Rattle.table_machine.specs.history_spec.Report.{bool_or_null, number_or_null}
use Rattle.table_machine.specs.table_spec.Cells.{moment_or_null, text_cell, text_cell_or_null, hash, tags_value}
use Rattle.table_machine.specs.table_spec.Columns.{columns}
use Rattle.table_machine.specs.table_spec.Rows.{Cells}
use Rattle.table_machine.specs.table_spec.RowsText.{cell_json, row_object, rows_text}
use Rattle.table_machine.proofs.ReportColumns.{ascii-clock, ascii_from_all, key, number_is_value, are_values}

-- ---- cells

-- a value of at most n levels is printed for the cell
abbrev pub IsPrintable : ℕ → CellValue → Type 0
IsPrintable n c = IsValue (cell_json c) × (levels (cell_json c) ≤ n)

abbrev pub IsPrintableRow : ℕ → Cells → Type 0
IsPrintableRow n row = AllByRecursion (IsPrintable n) row

pub printed_text : (n : ℕ) (s : List ℕ) → IsUtf8 s → IsPrintable n (text_cell s)
printed_text n s h = (h, omega arith)

pub printed_optional : (n : ℕ) (o : Option (List ℕ)) → IfText o → IsPrintable n (text_cell_or_null o)
printed_optional n None h = (tt, omega arith)
printed_optional n (Some s) h = (h.utf8, omega arith)

pub printed_stamp : (n : ℕ) (m : ℤ) → IsPrintable n (stamp m)
printed_stamp n m = (IsUtf8-from_ascii (clock_text 3 (clock_at m)) (ascii-clock 3 (clock_at m)), omega arith)

pub printed_moment : (n : ℕ) (o : Option ℤ) → IsPrintable n (moment_or_null o)
printed_moment n None = (tt, omega arith)
printed_moment n (Some m) = printed_stamp n m

-- a hash is digits
pub printed_hash : (n : ℕ) (j : Json) → IsPrintable n (text_cell (hash j))
printed_hash n j =
    (IsUtf8-from_ascii (hash j) (IsAscii-encode_with lower_digits (sha1 (canonical j)) (ascii_from_all lower_digits refl)), omega arith)

pub printed_bool : (n : ℕ) (o : Option Bool) → IsPrintable n (plain (bool_or_null o))
printed_bool n None = (tt, omega arith)
printed_bool n (Some b) = (tt, omega arith)

pub printed_number : (n : ℕ) (o : Option ℕ) → IfWhole o → IsPrintable n (plain (number_or_null o))
printed_number n None h = (tt, omega arith)
printed_number n (Some m) h = (number_is_value (Some m) h, omega arith)

pub printed_json : (n most : ℕ) (j : Json) → most ≤ n → IsJson most j → IsPrintable n (plain j)
printed_json n most j h k = (k.value, let few = k.levels in omega (arith, few))

pub items_most : (most : ℕ) (js : List Json) → AllByRecursion (IsJson most) js → items_levels (items_of js) ≤ most
items_most most [] h = omega arith
items_most most (j ∷ js) h = let first = h.0.levels in let rest = items_most most js h.1 in omega (arith, first, rest)

pub printed_list : (n : ℕ) (js : List Json) → 126 ≤ n → IsList js → IsPrintable n (plain (array (items_of js)))
printed_list n js h k = (are_values 125 js k.elements, let few = items_most 125 js k.elements in omega (arith, few))

tags_are : (tags : List (List ℕ)) → AllByRecursion IsText tags → AreValues (items_of (map string tags)) × (items_levels (items_of (map string tags)) ≤ 0)
tags_are [] h = (tt, omega arith)
tags_are (t ∷ tags) h = let rest = tags_are tags h.1 in ((h.0.utf8, rest.0), let few = rest.1 in omega (arith, few))

pub printed_tags : (n : ℕ) (tags : List (List ℕ)) → 1 ≤ n → AllByRecursion IsText tags → IsPrintable n (plain (tags_value tags))
printed_tags n tags h k = let are = tags_are tags k in (are.0, let few = are.1 in omega (arith, few))

-- ---- names of columns

names_apart : List (List ℕ) → Bool
names_apart [] = true
names_apart (name ∷ names) = not (list_any (bytes_eq name) names) && names_apart names

names_ascii : List (List ℕ) → Bool
names_ascii = list_all (list_all (λ x. nat_lt x 128))

absent_step : (b c : Bool) (v : Json) (o : Option Json) → (b || c) ≡ false → (c ≡ false → o ≡ None) → (if b then Some v else o) ≡ None
absent_step true c v o h next = absurd (let apart : true ≡ false = h in cc)
absent_step false c v o h next = next h

absent : (name : List ℕ) (names : List (List ℕ)) (vs : List Json) → list_any (bytes_eq name) names ≡ false → find_member name (zip names vs) ≡ None
absent name [] vs h = refl
absent name (n ∷ names) [] h = refl
absent name (n ∷ names) (v ∷ vs) h = absent_step (bytes_eq name n) (list_any (bytes_eq name) names) v (find_member name (zip names vs)) h (absent name names vs)

turned : (b : Bool) → not b ≡ true → b ≡ false
turned true h = absurd (let apart : false ≡ true = h in cc)
turned false h = refl

distinct-zip : (names : List (List ℕ)) (vs : List Json) → names_apart names ≡ true → HasDistinctKeys (zip names vs)
unfolding names_apart
distinct-zip [] vs h = tt
distinct-zip (name ∷ names) [] h = tt
distinct-zip (name ∷ names) (v ∷ vs) h =
    let parts = both_true (not (list_any (bytes_eq name) names)) (names_apart names) h in
    (absent name names vs (turned (list_any (bytes_eq name) names) parts.0), distinct-zip names vs parts.1)

values-zip : (n : ℕ) (names : List (List ℕ)) (row : Cells) → names_ascii names ≡ true → IsPrintableRow n row → AreMemberValues (members_of (zip names (map cell_json row))) × (members_levels (members_of (zip names (map cell_json row))) ≤ n)
unfolding names_ascii
values-zip n [] row h k = (tt, omega arith)
values-zip n (name ∷ names) [] h k = (tt, omega arith)
values-zip n (name ∷ names) (c ∷ row) h k =
    let parts = both_true (list_all (λ x. nat_lt x 128) name) (list_all (list_all (λ x. nat_lt x 128)) names) h in
    let rest = values-zip n names row parts.1 k.1 in
    ((key name parts.0, k.0.0, rest.0), let first = k.0.1 in let others = rest.1 in omega (arith, first, others))

columns_apart : (entity : Entity) → names_apart (columns entity) ≡ true
unfolding names_apart
columns_apart Nodes = refl
columns_apart Factsets = refl
columns_apart Facts = refl
columns_apart Catalogs = refl
columns_apart Resources = refl
columns_apart Edges = refl
columns_apart Reports = refl
columns_apart FactContents = refl
columns_apart Inventory = refl
columns_apart Events = refl
columns_apart EventCounts = refl

columns_ascii : (entity : Entity) → names_ascii (columns entity) ≡ true
unfolding names_ascii
columns_ascii Nodes = refl
columns_ascii Factsets = refl
columns_ascii Facts = refl
columns_ascii Catalogs = refl
columns_ascii Resources = refl
columns_ascii Edges = refl
columns_ascii Reports = refl
columns_ascii FactContents = refl
columns_ascii Inventory = refl
columns_ascii Events = refl
columns_ascii EventCounts = refl

-- ---- rows

row_is_value : (entity : Entity) (n : ℕ) (row : Cells) → IsPrintableRow n row → IsValue (row_object entity row) × (levels (row_object entity row) ≤ suc n)
row_is_value entity n row h =
    let values = values-zip n (columns entity) row (columns_ascii entity) h in
    let few = values.1 in
    ((values.0, subst HasDistinctKeys (sym (members_list-of (zip (columns entity) (map cell_json row)))) (distinct-zip (columns entity) (map cell_json row) (columns_apart entity))), omega (arith, few))

rows_are_values : (entity : Entity) (n : ℕ) (rows : List Cells) → AllByRecursion (IsPrintableRow n) rows → AreValues (items_of (map (row_object entity) rows)) × (items_levels (items_of (map (row_object entity) rows)) ≤ suc n)
rows_are_values entity n [] h = (tt, omega arith)
rows_are_values entity n (row ∷ rows) h =
    let first = row_is_value entity n row h.0 in
    let rest = rows_are_values entity n rows h.1 in
    ((first.0, rest.0), let few = first.1 in let others = rest.1 in omega (arith, few, others))

pub printed_rows : (entity : Entity) (n : ℕ) (rows : List Cells) → AllByRecursion (IsPrintableRow n) rows → SpellsWithin (suc (suc n)) (rows_text entity rows) (array (items_of (map (row_object entity) rows)))
printed_rows entity n rows h =
    let are = rows_are_values entity n rows h in
    let few = are.1 in
    spells_compact (suc (suc n)) (array (items_of (map (row_object entity) rows))) are.0 (omega (arith, few))
