-- What the leaves of a value are, said by their paths alone, and what the derived rows show of the rows that they come from.
use Rattle.std.specs.Prelude.{◌≡◌, ℕ, List, [], ◌∷◌, true, Option, Some, map, slice_get, unwrap_or, codes}
use Rattle.std.specs.List.{Contains}
use Rattle.std.specs.List.Sorted.{IsStrictlySortedBy}
use Rattle.std.specs.Option.{option_and_then}
use Rattle.fleet_rows.specs.Cell.{CellValue, plain}
use Rattle.fleet_rows.specs.Columns.{place_of}
use Rattle.fleet_rows.specs.declared.column.Column.{Column}
use Rattle.fleet_rows.specs.declared.column.Column.TheVariants.{Certname, Environment, Name, Path, Value, Facts as FactsColumn, Timestamp, ProducerTimestamp, Trusted}
use Rattle.fleet_rows.specs.declared.row.Entity.{Entity}
use Rattle.fleet_rows.specs.declared.row.Entity.TheVariants as entity
use Rattle.fleet_rows.specs.text_spec.Json.{Json, null, string, object, members_of, find_member}
use Rattle.text_laws.specs.DistinctKeys.{HasDistinctKeysThroughout}
use Rattle.fact_paths.specs.Leaves.{Step, Leaf, value_at, path_value, path_cmp, is_leaf, leaves}
use Rattle.fact_paths.specs.Rows.{contents_of, inventory_of}

-- each path of a leaf leads to the leaf
abbrev pub PathsLeadBack : Type 0
PathsLeadBack = (j : Json) (l : Leaf) → HasDistinctKeysThroughout j → Contains (leaves j) l → (value_at l.0 j ≡ Some l.1) × (is_leaf l.1 ≡ true)

-- whatever goes no deeper is a leaf
abbrev pub NoLeafIsMissing : Type 0
NoLeafIsMissing = (j end : Json) (path : List Step) → value_at path j ≡ Some end → is_leaf end ≡ true → Contains (leaves j) (path, end)

-- the paths rise, so that no two are equal
abbrev pub PathsRise : Type 0
PathsRise = (j : Json) → HasDistinctKeysThroughout j → IsStrictlySortedBy path_cmp (map (λ (l : Leaf). l.0) (leaves j))

-- ---- the derived rows

-- the cell of an entity's row under a column
abbrev pub shown_under : Entity → Column → List CellValue → Option CellValue
shown_under e column cells = option_and_then (slice_get cells) (place_of e column)

-- what a row of fact_contents shows of its row of facts, and of the leaf that it is the row of
pub record IsContentOf (fact cells : List CellValue) (name : List ℕ) (leaf : Leaf) : Type 0 where
  pub certname : shown_under entity.FactContents Certname cells ≡ shown_under entity.Facts Certname fact
  pub environment : shown_under entity.FactContents Environment cells ≡ shown_under entity.Facts Environment fact
  pub name_shown : shown_under entity.FactContents Name cells ≡ shown_under entity.Facts Name fact
  pub path : shown_under entity.FactContents Path cells ≡ Some (plain (path_value name leaf.0))
  pub value : shown_under entity.FactContents Value cells ≡ Some (plain leaf.1)

-- row by row
abbrev pub AreContentsOf : List CellValue → List ℕ → List Leaf → List (List CellValue) → Type 0
AreContentsOf fact name [] rows = rows ≡ []
AreContentsOf fact name (l ∷ ls) [] = ⊥
AreContentsOf fact name (l ∷ ls) (row ∷ rows) = IsContentOf fact row name l × AreContentsOf fact name ls rows

abbrev pub ContentsShowTheirFact : Type 0
ContentsShowTheirFact = (certname environment : CellValue) (name : List ℕ) (value : Json) →
    let fact = certname ∷ environment ∷ plain (string name) ∷ plain value ∷ [] in
    AreContentsOf fact name (leaves value) (contents_of fact)

-- what a row of inventory shows of its row of factsets
pub record IsInventoryOf (factset cells : List CellValue) (facts : List (List ℕ × Json)) : Type 0 where
  pub certname : shown_under entity.Inventory Certname cells ≡ shown_under entity.Factsets Certname factset
  pub environment : shown_under entity.Inventory Environment cells ≡ shown_under entity.Factsets Environment factset
  pub facts_shown : shown_under entity.Inventory FactsColumn cells ≡ shown_under entity.Factsets FactsColumn factset
  pub timestamp : shown_under entity.Inventory Timestamp cells ≡ shown_under entity.Factsets ProducerTimestamp factset
  pub trusted : shown_under entity.Inventory Trusted cells ≡ Some (plain (unwrap_or (find_member (codes "trusted") facts) null))

abbrev pub InventoryShowsItsFactset : Type 0
InventoryShowsItsFactset = (certname environment hash producer timestamp : CellValue) (facts : List (List ℕ × Json)) →
    let factset = certname ∷ environment ∷ plain (object (members_of facts)) ∷ hash ∷ producer ∷ timestamp ∷ [] in
    IsInventoryOf factset (inventory_of factset) facts
