-- The rows that facts and factsets are read as: a row of `fact_contents` for each leaf of a fact, and one of `inventory` for each
-- factset.
use Rattle.std.specs.Prelude.{ℕ, List, [], ◌∷◌, map, codes, unwrap_or}
use Rattle.std.proofs.Common.{inr}
use Rattle.fleet_rows.specs.Cell.{CellValue, plain}
use Rattle.fleet_rows.specs.declared.row.Entity.TheVariants.{FactContents, Inventory}
use Rattle.fleet_rows.specs.declared.row.Row.{Row}
use Rattle.fleet_rows.specs.text_spec.Json.{Json, null, string, object, members_list, find_member}
use Rattle.fact_paths.specs.Leaves.{Leaf, leaves, path_value}

-- certname, environment, name, path, value
abbrev pub content_cells : CellValue → CellValue → List ℕ → Leaf → List CellValue
content_cells certname environment name leaf =
    certname ∷ environment ∷ plain (string name) ∷ plain (path_value name leaf.0) ∷ plain leaf.1 ∷ []

-- the rows of a fact with these cells; a name is a text, and a value is no moment
abbrev pub contents : CellValue → CellValue → CellValue → CellValue → List (List CellValue)
contents certname environment (inr (string name)) (inr value) = map (content_cells certname environment name) (leaves value)
contents certname environment _ _ = []

-- the rows of fact_contents for a row of facts: certname, environment, name, value
abbrev pub contents_of : List CellValue → List (List CellValue)
contents_of (certname ∷ environment ∷ name ∷ value ∷ []) = contents certname environment name value
contents_of _ = []

-- the value of the fact `trusted`, or null
abbrev pub trusted_in : CellValue → Json
trusted_in (inr (object facts)) = unwrap_or (find_member (codes "trusted") (members_list facts)) null
trusted_in _ = null

-- certname, environment, facts, timestamp, trusted
abbrev pub inventory_cells : CellValue → CellValue → CellValue → CellValue → List CellValue
inventory_cells certname environment facts timestamp =
    certname ∷ environment ∷ facts ∷ timestamp ∷ plain (trusted_in facts) ∷ []

-- the row of inventory for a row of factsets: certname, environment, facts, hash, producer, producer_timestamp
abbrev pub inventory_of : List CellValue → List CellValue
inventory_of (certname ∷ environment ∷ facts ∷ hash ∷ producer ∷ timestamp ∷ []) =
    inventory_cells certname environment facts timestamp
inventory_of _ = []

abbrev pub content_row : List CellValue → Row
content_row cells = record { entity = FactContents; cells = cells }

abbrev pub inventory_row : List CellValue → Row
inventory_row cells = record { entity = Inventory; cells = cells }
