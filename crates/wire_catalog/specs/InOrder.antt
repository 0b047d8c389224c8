-- The fields of "replace catalog" 9, as taken out of their objects, and combined in the order in which they are checked.
use Rattle.std.specs.Prelude.{ℕ, List, [], false, Option, Ok, unwrap_or}
use Rattle.wire_fields.specs.text_spec.Json.{Json}
use Rattle.wire_fields.specs.fleet_rows.Texts.{sorted_texts}
use Rattle.wire_fields.specs.fleet_rows.declared.catalog.CatalogChange.{CatalogChange}
use Rattle.wire_fields.specs.fleet_rows.declared.catalog.Edge.{Edge}
use Rattle.wire_fields.specs.fleet_rows.declared.catalog.Resource.{Resource}
use Rattle.wire_fields.specs.fleet_rows.declared.catalog.ResourceName.{ResourceName}
use Rattle.wire_fields.specs.fleet_rows.declared.change.Change.{Change}
use Rattle.wire_fields.specs.fleet_rows.declared.change.Change.TheVariants as change
use Rattle.wire_fields.specs.fleet_rows.declared.refusal.Field.{Field}
use Rattle.wire_fields.specs.fleet_rows.declared.refusal.Field.TheVariants as field
use Rattle.wire_fields.specs.wire_spec.Table.{Pairs, Checked, ◌>>=◌, top, outer, inner, text, nonempty_text, bool, whole_number, stamp, members, items, required, optional, each_from, resources_from, edge, relationship_of, distinct_edges}
use Rattle.wire_catalog.specs.declared.change.CatalogFields.{CatalogFields}
use Rattle.wire_catalog.specs.declared.resource.ResourceFields.{ResourceFields}

-- ---- an edge

abbrev pub end_in_order : Checked (List ℕ) → Checked (List ℕ) → Checked ResourceName
end_in_order rtype title = do
  a ← rtype
  b ← title
  Ok (record { rtype = a; title = b })

abbrev pub end_of : ℕ → Field → Field → Pairs → Checked ResourceName
end_of i type_field title_field named =
    end_in_order (required text (outer i type_field) named) (required text (outer i title_field) named)

abbrev pub end_named : ℕ → Field → Field → Checked Pairs → Checked ResourceName
end_named i type_field title_field named = named >>= end_of i type_field title_field

abbrev pub edge_in_order : ℕ → Checked ResourceName → Checked ResourceName → Checked (List ℕ) → Checked Edge
edge_in_order i source target name = do
  a ← source
  b ← target
  c ← name
  d ← relationship_of i c
  Ok (record { source = a; target = b; relationship = d })

abbrev pub edges_of : List Json → Checked (List Edge)
edges_of js = each_from 0 edge js >>= (λ es. Ok (distinct_edges es))

-- ---- a resource

abbrev pub tag : ℕ → ℕ → Json → Checked (List ℕ)
tag i k t = text (inner i k field.Tags) t

abbrev pub tags_of : ℕ → Option (List Json) → Checked (List (List ℕ))
tags_of i list = each_from 0 (tag i) (unwrap_or list []) >>= (λ ts. Ok (sorted_texts ts))

abbrev pub resource_fields_of : ℕ → Pairs → ResourceFields
resource_fields_of i ms = record {
  rtype = required text (outer i field.«Type») ms;
  title = required text (outer i field.Title) ms;
  exported = optional bool (outer i field.Exported) ms;
  file = optional text (outer i field.File) ms;
  line = optional whole_number (outer i field.Line) ms;
  tags = optional items (outer i field.Tags) ms;
  parameters = optional members (outer i field.Parameters) ms;
}

abbrev pub resource_in_order : ℕ → ResourceFields → Checked Resource
resource_in_order i f = do
  rtype ← f.rtype
  title ← f.title
  exported ← f.exported
  file ← f.file
  line ← f.line
  list ← f.tags
  tags ← tags_of i list
  parameters ← f.parameters
  Ok (record {
    rtype = rtype;
    title = title;
    exported = unwrap_or exported false;
    file = file;
    line = line;
    tags = tags;
    parameters = unwrap_or parameters [];
  })

-- ---- a catalog

abbrev pub fields_of : Pairs → CatalogFields
fields_of ms = record {
  certname = required nonempty_text (top field.Certname) ms;
  version = required text (top field.Version) ms;
  environment = optional text (top field.Environment) ms;
  transaction_uuid = optional text (top field.TransactionUuid) ms;
  catalog_uuid = optional text (top field.CatalogUuid) ms;
  code_id = optional text (top field.CodeId) ms;
  job_id = optional text (top field.JobId) ms;
  stamp = required stamp (top field.ProducerTimestamp) ms;
  producer = optional text (top field.Producer) ms;
  edges = required items (top field.Edges) ms;
  resources = required items (top field.Resources) ms;
}

abbrev pub catalog_in_order : CatalogFields → Checked CatalogChange
catalog_in_order f = do
  certname ← f.certname
  version ← f.version
  environment ← f.environment
  transaction_uuid ← f.transaction_uuid
  catalog_uuid ← f.catalog_uuid
  code_id ← f.code_id
  job_id ← f.job_id
  moment ← f.stamp
  producer ← f.producer
  edge_list ← f.edges
  edges ← edges_of edge_list
  resource_list ← f.resources
  resources ← resources_from [] 0 resource_list
  Ok (record {
    certname = certname;
    version = version;
    environment = environment;
    transaction_uuid = transaction_uuid;
    catalog_uuid = catalog_uuid;
    code_id = code_id;
    job_id = job_id;
    stamp = moment;
    producer = producer;
    edges = edges;
    resources = resources;
  })

abbrev pub change_in_order : CatalogFields → Checked Change
change_in_order f = catalog_in_order f >>= (λ c. Ok (change.Catalog c))
