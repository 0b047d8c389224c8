-- What derived rows show of the rows that they come from.
use Rattle.std.proofs.Common.{ℕ, List, [], ◌∷◌, map, refl, ap}
use Rattle.std.specs.Prelude.{unwrap_or, codes, Some}
use Rattle.fleet_rows.proofs.of_text_spec.JsonLemmas.{members_list-of}
use Rattle.fleet_rows.specs.Cell.{CellValue, plain}
use Rattle.fleet_rows.specs.text_spec.Json.{null, string, find_member}
use Rattle.fact_paths.specs.Laws.{AreContentsOf, ContentsShowTheirFact, InventoryShowsItsFactset}
use Rattle.fact_paths.specs.Leaves.{Leaf, leaves}
use Rattle.fact_paths.specs.Rows.{content_cells}

each : (certname environment value : CellValue) (name : List ℕ) (ls : List Leaf) → AreContentsOf (certname ∷ environment ∷ plain (string name) ∷ value ∷ []) name ls (map (content_cells certname environment name) ls)
each certname environment value name [] = refl
each certname environment value name (l ∷ ls) =
    (record { certname = refl; environment = refl; name_shown = refl; path = refl; value = refl }, each certname environment value name ls)

pub contents_show : ContentsShowTheirFact
contents_show certname environment name value = each certname environment (plain value) name (leaves value)

pub inventory_shows : InventoryShowsItsFactset
inventory_shows certname environment hash producer timestamp facts =
    record {
      certname = refl;
      environment = refl;
      facts_shown = refl;
      timestamp = refl;
      trusted = ap (λ ms. Some (plain (unwrap_or (find_member (codes "trusted") ms) null))) (members_list-of facts);
    }
