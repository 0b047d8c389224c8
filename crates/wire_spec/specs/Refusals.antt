-- The names of fields, and how refusals are printed.
use Rattle.std.specs.Prelude.{ℕ, List, [], ◌∷◌, ◌++◌, Option, Some, None, codes, decimal}
use Rattle.fleet_rows.specs.declared.refusal.Field.{Field}
use Rattle.fleet_rows.specs.declared.refusal.Field.TheVariants.{Certname, Environment, Values, ProducerTimestamp, Producer, Version, TransactionUuid, CatalogUuid, CodeId, JobId, Edges, Resources, «Type», Title, Exported, File, Line, Tags, Parameters, Source, SourceType, SourceTitle, Target, TargetType, TargetTitle, Relationship, PuppetVersion, ReportFormat, ConfigurationVersion, StartTime, EndTime, Noop, Status, Logs, Metrics, ResourceType, ResourceTitle, Events, Timestamp, Property, Message, Expire, ExpireFacts}
use Rattle.fleet_rows.specs.declared.refusal.Place.{Place}
use Rattle.fleet_rows.specs.declared.refusal.Refusal.{Refusal}
use Rattle.fleet_rows.specs.declared.refusal.Refusal.TheVariants.{BadVersion, NotJson, TooDeep, NotObject, Missing, Wrong, BadStamp, DuplicateResource, BadRelationship}
use Rattle.fleet_rows.specs.declared.refusal.Cause.{Cause}
use Rattle.fleet_rows.specs.declared.refusal.Cause.TheVariants.{Refused, Failures}

-- a field as printed; a field of a nested object that is no list element follows the name of that object
abbrev pub field_name : Field → List ℕ
field_name Certname = codes "certname"
field_name Environment = codes "environment"
field_name Values = codes "values"
field_name ProducerTimestamp = codes "producer_timestamp"
field_name Producer = codes "producer"
field_name Version = codes "version"
field_name TransactionUuid = codes "transaction_uuid"
field_name CatalogUuid = codes "catalog_uuid"
field_name CodeId = codes "code_id"
field_name JobId = codes "job_id"
field_name Edges = codes "edges"
field_name Resources = codes "resources"
field_name «Type» = codes "type"
field_name Title = codes "title"
field_name Exported = codes "exported"
field_name File = codes "file"
field_name Line = codes "line"
field_name Tags = codes "tags"
field_name Parameters = codes "parameters"
field_name Source = codes "source"
field_name SourceType = codes "source.type"
field_name SourceTitle = codes "source.title"
field_name Target = codes "target"
field_name TargetType = codes "target.type"
field_name TargetTitle = codes "target.title"
field_name Relationship = codes "relationship"
field_name PuppetVersion = codes "puppet_version"
field_name ReportFormat = codes "report_format"
field_name ConfigurationVersion = codes "configuration_version"
field_name StartTime = codes "start_time"
field_name EndTime = codes "end_time"
field_name Noop = codes "noop"
field_name Status = codes "status"
field_name Logs = codes "logs"
field_name Metrics = codes "metrics"
field_name ResourceType = codes "resource_type"
field_name ResourceTitle = codes "resource_title"
field_name Events = codes "events"
field_name Timestamp = codes "timestamp"
field_name Property = codes "property"
field_name Message = codes "message"
field_name Expire = codes "expire"
field_name ExpireFacts = codes "expire.facts"

-- the key of the field in its object
abbrev pub field_key : Field → List ℕ
field_key SourceType = codes "type"
field_key SourceTitle = codes "title"
field_key TargetType = codes "type"
field_key TargetTitle = codes "title"
field_key ExpireFacts = codes "facts"
field_key field = field_name field

abbrev pub index_text : ℕ → List ℕ
index_text i = 91 ∷ (decimal i ++ 93 ∷ [])

-- an element of a list, such as `resources[3]`
abbrev pub element_text : Field → ℕ → List ℕ
element_text list i = field_name list ++ index_text i

-- a list element at index i, or a field of that element; fields outside lists never have an index
abbrev pub outer_text : Field → ℕ → List ℕ
outer_text Edges i = element_text Edges i
outer_text Resources i = element_text Resources i
outer_text Logs i = element_text Logs i
outer_text Metrics i = element_text Metrics i
outer_text Source i = element_text Edges i ++ 46 ∷ field_name Source
outer_text SourceType i = element_text Edges i ++ 46 ∷ field_name SourceType
outer_text SourceTitle i = element_text Edges i ++ 46 ∷ field_name SourceTitle
outer_text Target i = element_text Edges i ++ 46 ∷ field_name Target
outer_text TargetType i = element_text Edges i ++ 46 ∷ field_name TargetType
outer_text TargetTitle i = element_text Edges i ++ 46 ∷ field_name TargetTitle
outer_text Relationship i = element_text Edges i ++ 46 ∷ field_name Relationship
outer_text field i = element_text Resources i ++ 46 ∷ field_name field

-- the same at index j of a list in that element: a tag or an event, or a field of an event
abbrev pub inner_text : Field → ℕ → ℕ → List ℕ
inner_text Tags i j = outer_text Tags i ++ index_text j
inner_text Events i j = outer_text Events i ++ index_text j
inner_text field i j = outer_text Events i ++ index_text j ++ 46 ∷ field_name field

abbrev pub indexed_text : Field → Option ℕ → Option ℕ → List ℕ
indexed_text field None inner = field_name field
indexed_text field (Some i) None = outer_text field i
indexed_text field (Some i) (Some j) = inner_text field i j

abbrev pub place_text : Place → List ℕ
place_text p = indexed_text p.field p.outer p.inner

abbrev pub refusal_text : Refusal → List ℕ
refusal_text BadVersion = codes "bad version"
refusal_text (NotJson at) = codes "not json at " ++ decimal at
refusal_text (TooDeep at) = codes "too deep at " ++ decimal at
refusal_text NotObject = codes "not object"
refusal_text (Missing p) = codes "missing " ++ place_text p
refusal_text (Wrong p) = codes "wrong " ++ place_text p
refusal_text (BadStamp p) = codes "bad stamp " ++ place_text p
refusal_text (DuplicateResource index) = codes "duplicate resource " ++ decimal index
refusal_text (BadRelationship index) = codes "bad relationship " ++ decimal index

abbrev pub cause_text : Cause → List ℕ
cause_text (Refused refusal) = refusal_text refusal
cause_text Failures = codes "failures 16"
