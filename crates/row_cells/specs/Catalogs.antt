-- The members of the object that a catalog's hash is made from, in three parts.
use Rattle.std.specs.Prelude.{ℕ, List, [], ◌∷◌, map, codes}
use Rattle.table_spec.specs.text_spec.Json.{Json, string, array, items_of}
use Rattle.table_spec.specs.fleet_rows.Printed.{full_text}
use Rattle.table_spec.specs.fleet_rows.declared.catalog.CatalogChange.{CatalogChange}
use Rattle.table_spec.specs.fleet_rows.declared.catalog.Edge.{Edge}
use Rattle.table_spec.specs.history_spec.Report.{text_or_null}
use Rattle.table_spec.specs.Cells.{edge_texts}

abbrev pub edges_value : List Edge → Json
edges_value es = array (items_of (map edge_texts es))

abbrev pub before_edges : CatalogChange → List (List ℕ × Json)
before_edges c =
    (codes "catalog_uuid", text_or_null c.catalog_uuid)
    ∷ (codes "certname", string c.certname)
    ∷ (codes "code_id", text_or_null c.code_id)
    ∷ []

-- the members after `edges`, with this value of `resources`
abbrev pub behind_edges : CatalogChange → Json → List (List ℕ × Json)
behind_edges c resources =
    (codes "environment", text_or_null c.environment)
    ∷ (codes "job_id", text_or_null c.job_id)
    ∷ (codes "producer", text_or_null c.producer)
    ∷ (codes "producer_timestamp", string (full_text c.stamp))
    ∷ (codes "resources", resources)
    ∷ (codes "transaction_uuid", text_or_null c.transaction_uuid)
    ∷ (codes "version", string c.version)
    ∷ []
