-- What commands show in the columns of their rows, and the texts from which their hashes are made. `Rows.antt` has the row of a
-- node.
use Rattle.std.specs.Prelude.{ℕ, ℤ, List, [], ◌∷◌, Option, Some, None, map, codes}
use Rattle.hex.specs.Hex.{encode_lower}
use Rattle.sha1.specs.Sha1.{sha1}
use Rattle.history_spec.specs.text_spec.Json.{Json, null, boolean, string, array, object, items_of, members_of}
use Rattle.history_spec.specs.text_spec.Compact.{canonical}
use Rattle.history_spec.specs.fleet_rows.Cell.{CellValue, stamp, plain}
use Rattle.history_spec.specs.fleet_rows.Printed.{full_text}
use Rattle.history_spec.specs.fleet_rows.declared.catalog.CatalogChange.{CatalogChange}
use Rattle.history_spec.specs.fleet_rows.declared.catalog.Edge.{Edge}
use Rattle.history_spec.specs.fleet_rows.declared.catalog.Resource.{Resource}
use Rattle.history_spec.specs.fleet_rows.declared.change.FactsChange.{FactsChange}
use Rattle.history_spec.specs.fleet_rows.declared.change.ReportChange.{ReportChange}
use Rattle.history_spec.specs.wire_spec.Table.{relationship_name}
use Rattle.history_spec.specs.Facts.{FactRow}
use Rattle.history_spec.specs.Report.{text_or_null, bool_or_null, number_or_null, report_object}
use Rattle.table_spec.specs.Sorted.{sorted_by, resource_cmp, edge_cmp}

-- ---- cells

-- an absent moment is null
abbrev pub moment_or_null : Option ℤ → CellValue
moment_or_null None = plain null
moment_or_null (Some m) = stamp m

abbrev pub text_cell : List ℕ → CellValue
text_cell s = plain (string s)

abbrev pub text_cell_or_null : Option (List ℕ) → CellValue
text_cell_or_null o = plain (text_or_null o)

-- the SHA-1 of a value's canonical text (FIPS 180-4), as 40 lower-case hexadecimal digits
abbrev pub hash : Json → List ℕ
hash j = encode_lower (sha1 (canonical j))

-- ---- factsets

-- the columns of a factset except its hash
abbrev pub factset_object : FactsChange → Json
factset_object c = object (members_of (
    (codes "certname", string c.certname)
    ∷ (codes "environment", text_or_null c.environment)
    ∷ (codes "facts", object (members_of c.values))
    ∷ (codes "producer", text_or_null c.producer)
    ∷ (codes "producer_timestamp", string (full_text c.stamp))
    ∷ []))

abbrev pub factset_cells : FactsChange → List CellValue
factset_cells c =
    text_cell c.certname
    ∷ text_cell_or_null c.environment
    ∷ plain (object (members_of c.values))
    ∷ text_cell (hash (factset_object c))
    ∷ text_cell_or_null c.producer
    ∷ stamp c.stamp
    ∷ []

-- ---- facts

abbrev pub fact_cells : FactRow → List CellValue
fact_cells f = text_cell f.certname ∷ text_cell_or_null f.environment ∷ text_cell f.name ∷ plain f.value ∷ []

-- ---- resources

abbrev pub tags_value : List (List ℕ) → Json
tags_value tags = array (items_of (map string tags))

-- the columns from which a resource's hash is made
abbrev pub resource_object : Resource → Json
resource_object r = object (members_of (
    (codes "exported", boolean r.exported)
    ∷ (codes "file", text_or_null r.file)
    ∷ (codes "line", number_or_null r.line)
    ∷ (codes "parameters", object (members_of r.parameters))
    ∷ (codes "tags", tags_value r.tags)
    ∷ (codes "title", string r.title)
    ∷ (codes "type", string r.rtype)
    ∷ []))

abbrev pub resource_cells : CatalogChange → Resource → List CellValue
resource_cells c r =
    text_cell c.certname
    ∷ text_cell_or_null c.environment
    ∷ plain (boolean r.exported)
    ∷ text_cell_or_null r.file
    ∷ plain (number_or_null r.line)
    ∷ plain (object (members_of r.parameters))
    ∷ text_cell (hash (resource_object r))
    ∷ plain (tags_value r.tags)
    ∷ text_cell r.title
    ∷ text_cell r.rtype
    ∷ []

-- ---- edges

abbrev pub edge_cells : CatalogChange → Edge → List CellValue
edge_cells c e =
    text_cell c.certname
    ∷ text_cell (relationship_name e.relationship)
    ∷ text_cell e.source.title
    ∷ text_cell e.source.rtype
    ∷ text_cell e.target.title
    ∷ text_cell e.target.rtype
    ∷ []

-- ---- catalogs

-- the hashes of a catalog's resources, in the order of their rows
abbrev pub resource_hashes : List Resource → Json
resource_hashes rs = array (items_of (map (λ r. string (hash (resource_object r))) (sorted_by resource_cmp rs)))

abbrev pub edge_texts : Edge → Json
edge_texts e = array (items_of (
    string e.source.rtype ∷ string e.source.title ∷ string e.target.rtype ∷ string e.target.title
    ∷ string (relationship_name e.relationship) ∷ []))

-- the columns of a catalog except its hash, and its resources and edges
abbrev pub catalog_object : CatalogChange → Json
catalog_object c = object (members_of (
    (codes "catalog_uuid", text_or_null c.catalog_uuid)
    ∷ (codes "certname", string c.certname)
    ∷ (codes "code_id", text_or_null c.code_id)
    ∷ (codes "edges", array (items_of (map edge_texts (sorted_by edge_cmp c.edges))))
    ∷ (codes "environment", text_or_null c.environment)
    ∷ (codes "job_id", text_or_null c.job_id)
    ∷ (codes "producer", text_or_null c.producer)
    ∷ (codes "producer_timestamp", string (full_text c.stamp))
    ∷ (codes "resources", resource_hashes c.resources)
    ∷ (codes "transaction_uuid", text_or_null c.transaction_uuid)
    ∷ (codes "version", string c.version)
    ∷ []))

abbrev pub catalog_cells : CatalogChange → List CellValue
catalog_cells c =
    text_cell_or_null c.catalog_uuid
    ∷ text_cell c.certname
    ∷ text_cell_or_null c.code_id
    ∷ text_cell_or_null c.environment
    ∷ text_cell (hash (catalog_object c))
    ∷ text_cell_or_null c.job_id
    ∷ text_cell_or_null c.producer
    ∷ stamp c.stamp
    ∷ text_cell_or_null c.transaction_uuid
    ∷ text_cell c.version
    ∷ []

-- ---- reports

-- the cells of a report, with the moment of receipt if it is known
abbrev pub report_cells : Option ℤ → ReportChange → List CellValue
report_cells received r =
    text_cell r.certname
    ∷ text_cell_or_null r.configuration_version
    ∷ moment_or_null r.end_time
    ∷ text_cell_or_null r.environment
    ∷ text_cell (hash (report_object r))
    ∷ plain (array (items_of r.logs))
    ∷ plain (array (items_of r.metrics))
    ∷ plain (bool_or_null r.noop)
    ∷ text_cell_or_null r.producer
    ∷ stamp r.stamp
    ∷ text_cell_or_null r.puppet_version
    ∷ moment_or_null received
    ∷ plain (number_or_null r.report_format)
    ∷ plain (array (items_of r.resources))
    ∷ moment_or_null r.start_time
    ∷ text_cell_or_null r.status
    ∷ text_cell_or_null r.transaction_uuid
    ∷ []
