-- The payload of a change: the compact object of its fields, in the order of the wire format. What is null or the stated default
-- is left out. A report's resources, logs and metrics stand as they were received.
use Rattle.std.specs.Prelude.{ℕ, ℤ, List, [], ◌∷◌, Bool, true, if◌then◌else◌, Option, Some, None, map, codes, decimal}
use Rattle.std.specs.Option.{option_map}
use Rattle.list_again.specs.text_spec.Compact.{compact}
use Rattle.list_again.specs.text_spec.Json.{Json, boolean, number, string, array, object, items_of, members_of}
use Rattle.list_again.specs.fleet_rows.Change.{change_kind}
use Rattle.list_again.specs.fleet_rows.declared.catalog.CatalogChange.{CatalogChange}
use Rattle.list_again.specs.fleet_rows.declared.catalog.Edge.{Edge}
use Rattle.list_again.specs.fleet_rows.declared.catalog.Resource.{Resource}
use Rattle.list_again.specs.fleet_rows.declared.catalog.ResourceName.{ResourceName}
use Rattle.list_again.specs.fleet_rows.declared.change.Change.{Change}
use Rattle.list_again.specs.fleet_rows.declared.change.Change.TheVariants.{Facts, Catalog, Report, Deactivate, Expiration}
use Rattle.list_again.specs.fleet_rows.declared.change.DeactivateChange.{DeactivateChange}
use Rattle.list_again.specs.fleet_rows.declared.change.ExpirationChange.{ExpirationChange}
use Rattle.list_again.specs.fleet_rows.declared.change.FactsChange.{FactsChange}
use Rattle.list_again.specs.fleet_rows.declared.change.ReportChange.{ReportChange}
use Rattle.list_again.specs.fleet_rows.declared.command.Command.{Command}
use Rattle.list_again.specs.wire_spec.Decode.{version_of}
use Rattle.list_again.specs.wire_spec.Table.{Pairs, relationship_name}
use Rattle.dump_spec.specs.Stamps.{short_text}

-- ---- fields: names, each with a value or with none

abbrev pub Fields : Type 0
Fields = List (List ℕ × Option Json)

abbrev pub in_front : List ℕ → Option Json → Pairs → Pairs
in_front name None rest = rest
in_front name (Some value) rest = (name, value) ∷ rest

-- those that have a value
abbrev pub there : Fields → Pairs
there [] = []
there (field ∷ fields) = in_front field.0 field.1 (there fields)

-- the object of those
abbrev pub dictionary : Fields → Json
dictionary fields = object (members_of (there fields))

-- ---- values

abbrev pub list : List Json → Json
list js = array (items_of js)

abbrev pub members : Pairs → Json
members pairs = object (members_of pairs)

abbrev pub whole : ℕ → Json
whole n = number (decimal n)

abbrev pub stamp : ℤ → Json
stamp m = string (short_text m)

-- none, where nothing is in the list
abbrev pub if_any : {A : Type 0} → (List A → Json) → List A → Option Json
if_any value [] = None
if_any value (x ∷ xs) = Some (value (x ∷ xs))

-- none, where false
abbrev pub if_true : Bool → Option Json
if_true b = if b then Some (boolean true) else None

-- ---- the kinds of change

abbrev pub facts_fields : FactsChange → Fields
facts_fields c =
    (codes "certname", Some (string c.certname))
    ∷ (codes "environment", option_map string c.environment)
    ∷ (codes "values", Some (members c.values))
    ∷ (codes "producer_timestamp", Some (stamp c.stamp))
    ∷ (codes "producer", option_map string c.producer)
    ∷ []

abbrev pub resource_fields : Resource → Fields
resource_fields r =
    (codes "type", Some (string r.rtype))
    ∷ (codes "title", Some (string r.title))
    ∷ (codes "exported", if_true r.exported)
    ∷ (codes "file", option_map string r.file)
    ∷ (codes "line", option_map whole r.line)
    ∷ (codes "tags", if_any (λ tags. list (map string tags)) r.tags)
    ∷ (codes "parameters", if_any members r.parameters)
    ∷ []

abbrev pub name_fields : ResourceName → Fields
name_fields name = (codes "type", Some (string name.rtype)) ∷ (codes "title", Some (string name.title)) ∷ []

abbrev pub edge_fields : Edge → Fields
edge_fields e =
    (codes "source", Some (dictionary (name_fields e.source)))
    ∷ (codes "target", Some (dictionary (name_fields e.target)))
    ∷ (codes "relationship", Some (string (relationship_name e.relationship)))
    ∷ []

abbrev pub resource_value : Resource → Json
resource_value r = dictionary (resource_fields r)

abbrev pub edge_value : Edge → Json
edge_value e = dictionary (edge_fields e)

abbrev pub catalog_fields : CatalogChange → Fields
catalog_fields c =
    (codes "certname", Some (string c.certname))
    ∷ (codes "version", Some (string c.version))
    ∷ (codes "environment", option_map string c.environment)
    ∷ (codes "transaction_uuid", option_map string c.transaction_uuid)
    ∷ (codes "catalog_uuid", option_map string c.catalog_uuid)
    ∷ (codes "code_id", option_map string c.code_id)
    ∷ (codes "job_id", option_map string c.job_id)
    ∷ (codes "producer_timestamp", Some (stamp c.stamp))
    ∷ (codes "producer", option_map string c.producer)
    ∷ (codes "edges", Some (list (map edge_value c.edges)))
    ∷ (codes "resources", Some (list (map resource_value c.resources)))
    ∷ []

abbrev pub report_fields : ReportChange → Fields
report_fields r =
    (codes "certname", Some (string r.certname))
    ∷ (codes "environment", option_map string r.environment)
    ∷ (codes "puppet_version", option_map string r.puppet_version)
    ∷ (codes "report_format", option_map whole r.report_format)
    ∷ (codes "configuration_version", option_map string r.configuration_version)
    ∷ (codes "start_time", option_map stamp r.start_time)
    ∷ (codes "end_time", option_map stamp r.end_time)
    ∷ (codes "producer_timestamp", Some (stamp r.stamp))
    ∷ (codes "producer", option_map string r.producer)
    ∷ (codes "noop", option_map boolean r.noop)
    ∷ (codes "status", option_map string r.status)
    ∷ (codes "transaction_uuid", option_map string r.transaction_uuid)
    ∷ (codes "resources", if_any list r.resources)
    ∷ (codes "logs", if_any list r.logs)
    ∷ (codes "metrics", if_any list r.metrics)
    ∷ []

abbrev pub deactivate_fields : DeactivateChange → Fields
deactivate_fields c = (codes "certname", Some (string c.certname)) ∷ (codes "producer_timestamp", Some (stamp c.stamp)) ∷ []

abbrev pub expiration_fields : ExpirationChange → Fields
expiration_fields c =
    (codes "certname", Some (string c.certname))
    ∷ (codes "producer_timestamp", Some (stamp c.stamp))
    ∷ (codes "expire", Some (dictionary ((codes "facts", Some (boolean c.expire)) ∷ [])))
    ∷ []

abbrev pub change_fields : Change → Fields
change_fields (Facts c) = facts_fields c
change_fields (Catalog c) = catalog_fields c
change_fields (Report r) = report_fields r
change_fields (Deactivate c) = deactivate_fields c
change_fields (Expiration c) = expiration_fields c

-- ---- commands

abbrev pub payload_of : Change → Json
payload_of c = dictionary (change_fields c)

-- the command of a change, received at this moment
abbrev pub command_of : ℤ → Change → Command
command_of received c = record { kind = change_kind c; version = version_of (change_kind c); received = received; payload = compact (payload_of c) }
