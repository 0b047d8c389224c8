-- The encodings of refusals. Byte offsets take eight bytes, and indices four.
use Rattle.std.specs.Prelude.{ℕ, ◌^◌, ◌<◌, List, [], ◌∷◌, ◌++◌, Option, Some, None}
use Rattle.history_spec.specs.fleet_rows.declared.refusal.Field.{Field}
use Rattle.history_spec.specs.fleet_rows.declared.refusal.Field.TheVariants as field
use Rattle.history_spec.specs.fleet_rows.declared.refusal.Place.{Place}
use Rattle.history_spec.specs.fleet_rows.declared.refusal.Refusal.{Refusal}
use Rattle.history_spec.specs.fleet_rows.declared.refusal.Refusal.TheVariants as refusal
use Rattle.history_spec.specs.fleet_rows.declared.refusal.Cause.{Cause}
use Rattle.history_spec.specs.fleet_rows.declared.refusal.Cause.TheVariants as cause
use Rattle.record_spec.specs.Parts.{short_text, long_text, optional}

-- all fields, by their numbers
abbrev pub fields : List Field
fields = field.Certname ∷ field.Environment ∷ field.Values ∷ field.ProducerTimestamp ∷ field.Producer ∷ field.Version ∷ field.TransactionUuid ∷ field.CatalogUuid ∷ field.CodeId ∷ field.JobId ∷ field.Edges ∷ field.Resources ∷ field.«Type» ∷ field.Title ∷ field.Exported ∷ field.File ∷ field.Line ∷ field.Tags ∷ field.Parameters ∷ field.Source ∷ field.SourceType ∷ field.SourceTitle ∷ field.Target ∷ field.TargetType ∷ field.TargetTitle ∷ field.Relationship ∷ field.PuppetVersion ∷ field.ReportFormat ∷ field.ConfigurationVersion ∷ field.StartTime ∷ field.EndTime ∷ field.Noop ∷ field.Status ∷ field.Logs ∷ field.Metrics ∷ field.ResourceType ∷ field.ResourceTitle ∷ field.Events ∷ field.Timestamp ∷ field.Property ∷ field.Message ∷ field.Expire ∷ field.ExpireFacts ∷ []

abbrev pub field_number : Field → ℕ
field_number field.Certname = 0
field_number field.Environment = 1
field_number field.Values = 2
field_number field.ProducerTimestamp = 3
field_number field.Producer = 4
field_number field.Version = 5
field_number field.TransactionUuid = 6
field_number field.CatalogUuid = 7
field_number field.CodeId = 8
field_number field.JobId = 9
field_number field.Edges = 10
field_number field.Resources = 11
field_number field.«Type» = 12
field_number field.Title = 13
field_number field.Exported = 14
field_number field.File = 15
field_number field.Line = 16
field_number field.Tags = 17
field_number field.Parameters = 18
field_number field.Source = 19
field_number field.SourceType = 20
field_number field.SourceTitle = 21
field_number field.Target = 22
field_number field.TargetType = 23
field_number field.TargetTitle = 24
field_number field.Relationship = 25
field_number field.PuppetVersion = 26
field_number field.ReportFormat = 27
field_number field.ConfigurationVersion = 28
field_number field.StartTime = 29
field_number field.EndTime = 30
field_number field.Noop = 31
field_number field.Status = 32
field_number field.Logs = 33
field_number field.Metrics = 34
field_number field.ResourceType = 35
field_number field.ResourceTitle = 36
field_number field.Events = 37
field_number field.Timestamp = 38
field_number field.Property = 39
field_number field.Message = 40
field_number field.Expire = 41
field_number field.ExpireFacts = 42

-- a field of one byte, and the indices from the outside inwards
abbrev pub place_bytes : Place → List ℕ
place_bytes p = field_number p.field ∷ optional short_text p.outer ++ optional short_text p.inner

abbrev pub refusal_bytes : Refusal → List ℕ
refusal_bytes refusal.BadVersion = 0 ∷ []
refusal_bytes (refusal.NotJson at) = 1 ∷ long_text at
refusal_bytes (refusal.TooDeep at) = 2 ∷ long_text at
refusal_bytes refusal.NotObject = 3 ∷ []
refusal_bytes (refusal.Missing place) = 4 ∷ place_bytes place
refusal_bytes (refusal.Wrong place) = 5 ∷ place_bytes place
refusal_bytes (refusal.BadStamp place) = 6 ∷ place_bytes place
refusal_bytes (refusal.DuplicateResource index) = 7 ∷ short_text index
refusal_bytes (refusal.BadRelationship index) = 8 ∷ short_text index

abbrev pub cause_bytes : Cause → List ℕ
cause_bytes (cause.Refused r) = 0 ∷ refusal_bytes r
cause_bytes cause.Failures = 1 ∷ []

-- ---- the refusals that can be encoded

abbrev pub IsIndex : Option ℕ → Type 0
IsIndex None = Unit {0}
IsIndex (Some n) = n < 2 ^ 32

abbrev pub IsPlace : Place → Type 0
IsPlace p = IsIndex p.outer × IsIndex p.inner

abbrev pub IsRefusal : Refusal → Type 0
IsRefusal refusal.BadVersion = Unit {0}
IsRefusal (refusal.NotJson at) = at < 2 ^ 64
IsRefusal (refusal.TooDeep at) = at < 2 ^ 64
IsRefusal refusal.NotObject = Unit {0}
IsRefusal (refusal.Missing place) = IsPlace place
IsRefusal (refusal.Wrong place) = IsPlace place
IsRefusal (refusal.BadStamp place) = IsPlace place
IsRefusal (refusal.DuplicateResource index) = index < 2 ^ 32
IsRefusal (refusal.BadRelationship index) = index < 2 ^ 32

abbrev pub IsCause : Cause → Type 0
IsCause (cause.Refused r) = IsRefusal r
IsCause cause.Failures = Unit {0}
