-- Readers of changes, from left to right.
use Rattle.std.specs.Prelude.{◌≡◌, ℕ, zero, suc, ℤ, List, [], ◌∷◌, Bool, ◌&&◌, Option, Some, None, if◌then◌else◌}
use Rattle.std.specs.Int.{w32}
use Rattle.json_read.specs.text_spec.Json.{Json}
use Rattle.wire_catalog.specs.fleet_rows.declared.catalog.CatalogChange.{CatalogChange}
use Rattle.wire_catalog.specs.fleet_rows.declared.catalog.Edge.{Edge}
use Rattle.wire_catalog.specs.fleet_rows.declared.catalog.Relationship.{Relationship}
use Rattle.wire_catalog.specs.fleet_rows.declared.catalog.Resource.{Resource}
use Rattle.wire_catalog.specs.fleet_rows.declared.catalog.ResourceName.{ResourceName}
use Rattle.wire_catalog.specs.fleet_rows.declared.change.Change.{Change}
use Rattle.wire_catalog.specs.fleet_rows.declared.change.Change.TheVariants as change
use Rattle.wire_catalog.specs.fleet_rows.declared.change.DeactivateChange.{DeactivateChange}
use Rattle.wire_catalog.specs.fleet_rows.declared.change.ExpirationChange.{ExpirationChange}
use Rattle.wire_catalog.specs.fleet_rows.declared.change.FactsChange.{FactsChange}
use Rattle.wire_catalog.specs.fleet_rows.declared.change.ReportChange.{ReportChange}
use Rattle.wire_catalog.specs.fleet_rows.declared.refusal.Field.TheVariants as field
use Rattle.wire_catalog.specs.wire_spec.Table.{each_from, report_resource, object_in, is_edge, has_name_of}
use Rattle.record_fields.specs.Reading.{◌>>=◌, Reader, read_as, both_at, text_at, bool_at, moment_at, optional_at}
use Rattle.record_values.specs.Fields.{certname_at, whole_at, json_at, members_at}
use Rattle.change_reader.specs.Relationships.{relationship_at}
use Rattle.record_values.specs.Lists.{list_at, tags_at}
use Rattle.change_reader.specs.Together.{are_new, is_taken}

-- an optional text
abbrev pub if_text_at : Reader (Option (List ℕ))
if_text_at = optional_at text_at

abbrev pub Pairs : Type 0
Pairs = List (List ℕ × Json)

-- ---- facts, deactivations, expirations

abbrev pub FactsParts : Type 0
FactsParts = List ℕ × (Option (List ℕ) × (Pairs × (ℤ × Option (List ℕ))))

abbrev pub make_facts : FactsParts → FactsChange
make_facts p = record { certname = p.0; environment = p.1.0; values = p.1.1.0; stamp = p.1.1.1.0; producer = p.1.1.1.1 }

unfoldable pub facts_at : Reader FactsChange
facts_at = read_as make_facts (both_at certname_at (both_at if_text_at (both_at (members_at 126) (both_at moment_at if_text_at))))

abbrev pub make_deactivate : List ℕ × ℤ → DeactivateChange
make_deactivate p = record { certname = p.0; stamp = p.1 }

unfoldable pub deactivate_at : Reader DeactivateChange
deactivate_at = read_as make_deactivate (both_at certname_at moment_at)

abbrev pub make_expiration : List ℕ × (ℤ × Bool) → ExpirationChange
make_expiration p = record { certname = p.0; stamp = p.1.0; expire = p.1.1 }

unfoldable pub expiration_at : Reader ExpirationChange
expiration_at = read_as make_expiration (both_at certname_at (both_at moment_at bool_at))

-- ---- catalogs

abbrev pub NameParts : Type 0
NameParts = List ℕ × List ℕ

abbrev pub make_name : NameParts → ResourceName
make_name p = record { rtype = p.0; title = p.1 }

abbrev pub EdgeParts : Type 0
EdgeParts = List ℕ × (List ℕ × (List ℕ × (List ℕ × Relationship)))

abbrev pub make_edge : EdgeParts → Edge
make_edge p = record { source = make_name (p.0, p.1.0); target = make_name (p.1.1.0, p.1.1.1.0); relationship = p.1.1.1.1 }

unfoldable pub edge_at : Reader Edge
edge_at = read_as make_edge (both_at text_at (both_at text_at (both_at text_at (both_at text_at relationship_at))))

abbrev pub ResourceParts : Type 0
ResourceParts = List ℕ × (List ℕ × (Bool × (Option (List ℕ) × (Option ℕ × (List (List ℕ) × Pairs)))))

abbrev pub make_resource : ResourceParts → Resource
make_resource p = record {
  rtype = p.0;
  title = p.1.0;
  exported = p.1.1.0;
  file = p.1.1.1.0;
  line = p.1.1.1.1.0;
  tags = p.1.1.1.1.1.0;
  parameters = p.1.1.1.1.1.1;
}

unfoldable pub resource_at : Reader Resource
resource_at = read_as make_resource (both_at text_at (both_at text_at (both_at bool_at (both_at if_text_at (both_at (optional_at whole_at) (both_at tags_at (members_at 124)))))))

-- edges without duplicates
unfoldable pub edges_at : Reader (List Edge)
edges_at bytes = do
  edges ← list_at edge_at bytes
  if are_new is_edge [] edges.0 then Some edges else None

-- resources with distinct names
unfoldable pub resources_at : Reader (List Resource)
resources_at bytes = do
  resources ← list_at resource_at bytes
  if are_new has_name_of [] resources.0 then Some resources else None

-- the fields before the lists, in groups: certname to environment, the identifiers, and producer and timestamp
abbrev pub CatalogHead : Type 0
CatalogHead = List ℕ × (List ℕ × Option (List ℕ))

unfoldable pub catalog_head_at : Reader CatalogHead
catalog_head_at = both_at certname_at (both_at text_at if_text_at)

abbrev pub CatalogMarks : Type 0
CatalogMarks = Option (List ℕ) × (Option (List ℕ) × (Option (List ℕ) × Option (List ℕ)))

unfoldable pub catalog_marks_at : Reader CatalogMarks
catalog_marks_at = both_at if_text_at (both_at if_text_at (both_at if_text_at if_text_at))

abbrev pub CatalogParts : Type 0
CatalogParts = CatalogHead × (CatalogMarks × (ℤ × (Option (List ℕ) × (List Edge × List Resource))))

abbrev pub make_catalog : CatalogParts → CatalogChange
make_catalog p = record {
  certname = p.0.0;
  version = p.0.1.0;
  environment = p.0.1.1;
  transaction_uuid = p.1.0.0;
  catalog_uuid = p.1.0.1.0;
  code_id = p.1.0.1.1.0;
  job_id = p.1.0.1.1.1;
  stamp = p.1.1.0;
  producer = p.1.1.1.0;
  edges = p.1.1.1.1.0;
  resources = p.1.1.1.1.1;
}

unfoldable pub catalog_at : Reader CatalogChange
catalog_at = read_as make_catalog (both_at catalog_head_at (both_at catalog_marks_at (both_at moment_at (both_at if_text_at (both_at edges_at resources_at)))))

-- ---- reports

-- values of at most 125 levels, each of which the wire format accepts
unfoldable pub report_resources_at : Reader (List Json)
report_resources_at bytes = do
  list ← list_at (json_at 125) bytes
  if is_taken (each_from 0 report_resource list.0) then Some list else None

unfoldable pub logs_at : Reader (List Json)
logs_at bytes = do
  list ← list_at (json_at 125) bytes
  if is_taken (each_from 0 (object_in field.Logs) list.0) then Some list else None

unfoldable pub metrics_at : Reader (List Json)
metrics_at bytes = do
  list ← list_at (json_at 125) bytes
  if is_taken (each_from 0 (object_in field.Metrics) list.0) then Some list else None

-- the fields before the lists, in groups: certname to configuration version, the moments, and the facts of the run
abbrev pub ReportHead : Type 0
ReportHead = List ℕ × (Option (List ℕ) × (Option (List ℕ) × (Option ℕ × Option (List ℕ))))

unfoldable pub report_head_at : Reader ReportHead
report_head_at = both_at certname_at (both_at if_text_at (both_at if_text_at (both_at (optional_at whole_at) if_text_at)))

abbrev pub ReportTimes : Type 0
ReportTimes = Option ℤ × (Option ℤ × ℤ)

unfoldable pub report_times_at : Reader ReportTimes
report_times_at = both_at (optional_at moment_at) (both_at (optional_at moment_at) moment_at)

abbrev pub ReportRun : Type 0
ReportRun = Option (List ℕ) × (Option Bool × (Option (List ℕ) × Option (List ℕ)))

unfoldable pub report_run_at : Reader ReportRun
report_run_at = both_at if_text_at (both_at (optional_at bool_at) (both_at if_text_at if_text_at))

abbrev pub ReportParts : Type 0
ReportParts = ReportHead × (ReportTimes × (ReportRun × (List Json × (List Json × List Json))))

abbrev pub make_report : ReportParts → ReportChange
make_report p = record {
  certname = p.0.0;
  environment = p.0.1.0;
  puppet_version = p.0.1.1.0;
  report_format = p.0.1.1.1.0;
  configuration_version = p.0.1.1.1.1;
  start_time = p.1.0.0;
  end_time = p.1.0.1.0;
  stamp = p.1.0.1.1;
  producer = p.1.1.0.0;
  noop = p.1.1.0.1.0;
  status = p.1.1.0.1.1.0;
  transaction_uuid = p.1.1.0.1.1.1;
  resources = p.1.1.1.0;
  logs = p.1.1.1.1.0;
  metrics = p.1.1.1.1.1;
}

unfoldable pub report_at : Reader ReportChange
report_at = read_as make_report (both_at report_head_at (both_at report_times_at (both_at report_run_at (both_at report_resources_at (both_at logs_at metrics_at)))))

-- ---- a change: its kind, and its fields

unfoldable pub change_at : Reader Change
change_at [] = None
change_at (zero ∷ rest) = read_as change.Facts facts_at rest
change_at (suc zero ∷ rest) = read_as change.Catalog catalog_at rest
change_at (suc (suc zero) ∷ rest) = read_as change.Report report_at rest
change_at (suc (suc (suc zero)) ∷ rest) = read_as change.Deactivate deactivate_at rest
change_at (suc (suc (suc (suc zero))) ∷ rest) = read_as change.Expiration expiration_at rest
change_at (suc (suc (suc (suc (suc number)))) ∷ rest) = None
