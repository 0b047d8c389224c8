-- The encoding of a change: its kind, and the fields of its wire format in order.
use Rattle.std.specs.Prelude.{ℕ, List, ◌∷◌, ◌++◌}
use Rattle.history_spec.specs.text_spec.Json.{object, members_of}
use Rattle.history_spec.specs.fleet_rows.Change.{change_kind, kind_number}
use Rattle.history_spec.specs.fleet_rows.declared.catalog.CatalogChange.{CatalogChange}
use Rattle.history_spec.specs.fleet_rows.declared.catalog.Edge.{Edge}
use Rattle.history_spec.specs.fleet_rows.declared.catalog.Resource.{Resource}
use Rattle.history_spec.specs.fleet_rows.declared.change.Change.{Change}
use Rattle.history_spec.specs.fleet_rows.declared.change.Change.TheVariants as change
use Rattle.history_spec.specs.fleet_rows.declared.change.DeactivateChange.{DeactivateChange}
use Rattle.history_spec.specs.fleet_rows.declared.change.ExpirationChange.{ExpirationChange}
use Rattle.history_spec.specs.fleet_rows.declared.change.FactsChange.{FactsChange}
use Rattle.history_spec.specs.fleet_rows.declared.change.ReportChange.{ReportChange}
use Rattle.history_spec.specs.wire_spec.Table.{relationship_name}
use Rattle.record_spec.specs.Parts.{bytes_text, bool_text, optional, long_text, moment_text, json_text, list_text}

abbrev pub facts_text : FactsChange → List ℕ
facts_text c =
    bytes_text c.certname
    ++ (optional bytes_text c.environment
    ++ (json_text (object (members_of c.values))
    ++ (moment_text c.stamp
    ++ optional bytes_text c.producer)))

-- five texts: the source's type and title, the target's type and title, and the relationship's name
abbrev pub edge_text : Edge → List ℕ
edge_text e =
    bytes_text e.source.rtype
    ++ (bytes_text e.source.title
    ++ (bytes_text e.target.rtype
    ++ (bytes_text e.target.title
    ++ bytes_text (relationship_name e.relationship))))

abbrev pub resource_text : Resource → List ℕ
resource_text r =
    bytes_text r.rtype
    ++ (bytes_text r.title
    ++ (bool_text r.exported
    ++ (optional bytes_text r.file
    ++ (optional long_text r.line
    ++ (list_text bytes_text r.tags
    ++ json_text (object (members_of r.parameters)))))))

abbrev pub catalog_text : CatalogChange → List ℕ
catalog_text c =
    bytes_text c.certname
    ++ (bytes_text c.version
    ++ (optional bytes_text c.environment
    ++ (optional bytes_text c.transaction_uuid
    ++ (optional bytes_text c.catalog_uuid
    ++ (optional bytes_text c.code_id
    ++ (optional bytes_text c.job_id
    ++ (moment_text c.stamp
    ++ (optional bytes_text c.producer
    ++ (list_text edge_text c.edges
    ++ list_text resource_text c.resources)))))))))

abbrev pub report_bytes : ReportChange → List ℕ
report_bytes r =
    bytes_text r.certname
    ++ (optional bytes_text r.environment
    ++ (optional bytes_text r.puppet_version
    ++ (optional long_text r.report_format
    ++ (optional bytes_text r.configuration_version
    ++ (optional moment_text r.start_time
    ++ (optional moment_text r.end_time
    ++ (moment_text r.stamp
    ++ (optional bytes_text r.producer
    ++ (optional bool_text r.noop
    ++ (optional bytes_text r.status
    ++ (optional bytes_text r.transaction_uuid
    ++ (list_text json_text r.resources
    ++ (list_text json_text r.logs
    ++ list_text json_text r.metrics)))))))))))))

abbrev pub deactivate_text : DeactivateChange → List ℕ
deactivate_text c = bytes_text c.certname ++ moment_text c.stamp

abbrev pub expiration_text : ExpirationChange → List ℕ
expiration_text c = bytes_text c.certname ++ (moment_text c.stamp ++ bool_text c.expire)

abbrev pub fields_text : Change → List ℕ
fields_text (change.Facts c) = facts_text c
fields_text (change.Catalog c) = catalog_text c
fields_text (change.Report c) = report_bytes c
fields_text (change.Deactivate c) = deactivate_text c
fields_text (change.Expiration c) = expiration_text c

abbrev pub change_text : Change → List ℕ
change_text c = kind_number (change_kind c) ∷ fields_text c
