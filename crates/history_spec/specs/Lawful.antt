-- The rules that every change meets, whatever its origin.
use Rattle.std.specs.Prelude.{◌≡◌, ◌≢◌, ℕ, ◌^◌, ◌<◌, ◌≤◌, ℤ, List, [], ◌∷◌, length, false, Option, Some, None, Ok}
use Rattle.std.specs.List.{AllByRecursion}
use Rattle.std.specs.List.Sorted.{IsStrictlySortedBy}
use Rattle.std.specs.Str.{IsUtf8}
use Rattle.json_machine.specs.text_spec.Json.{Json, object, levels, members_of}
use Rattle.json_machine.specs.text_spec.Compact.{compact, text_cmp}
use Rattle.json_machine.specs.text_spec.Stamp.{IsStampOf}
use Rattle.json_machine.specs.Values.{IsValue}
use Rattle.wire_spec.specs.fleet_rows.declared.catalog.CatalogChange.{CatalogChange}
use Rattle.wire_spec.specs.fleet_rows.declared.catalog.Edge.{Edge}
use Rattle.wire_spec.specs.fleet_rows.declared.catalog.Resource.{Resource}
use Rattle.wire_spec.specs.fleet_rows.declared.catalog.ResourceName.{ResourceName}
use Rattle.wire_spec.specs.fleet_rows.declared.change.Change.{Change}
use Rattle.wire_spec.specs.fleet_rows.declared.change.Change.TheVariants as change
use Rattle.wire_spec.specs.fleet_rows.declared.change.DeactivateChange.{DeactivateChange}
use Rattle.wire_spec.specs.fleet_rows.declared.change.ExpirationChange.{ExpirationChange}
use Rattle.wire_spec.specs.fleet_rows.declared.change.FactsChange.{FactsChange}
use Rattle.wire_spec.specs.fleet_rows.declared.change.ReportChange.{ReportChange}
use Rattle.wire_spec.specs.fleet_rows.declared.refusal.Field.TheVariants as field
use Rattle.wire_spec.specs.Table.{has_name_of, is_edge, each_from, report_resource, object_in}

-- ---- fields

-- the moment has a stamp
abbrev pub HasStamp : ℤ → Type 0
HasStamp m = (stamp : List ℕ) × IsStampOf stamp m

abbrev pub IfMoment : Option ℤ → Type 0
IfMoment None = Unit {0}
IfMoment (Some m) = HasStamp m

-- a whole number of at most 18 digits
abbrev pub IfWhole : Option ℕ → Type 0
IfWhole None = Unit {0}
IfWhole (Some n) = n < 10 ^ 18

-- a number that fits 32 bits
abbrev pub IsCounted : ℕ → Type 0
IsCounted n = n < 2 ^ 32

-- a text: UTF-8, with a length that fits 32 bits
pub record IsText (s : List ℕ) : Type 0 where
  pub utf8 : IsUtf8 s
  pub counted : IsCounted (length s)

abbrev pub IfText : Option (List ℕ) → Type 0
IfText None = Unit {0}
IfText (Some s) = IsText s

-- a JSON value of at most `most` levels: numbers spelled as numbers, UTF-8 texts, distinct keys, and a compact text whose length
-- fits 32 bits
pub record IsJson (most : ℕ) (j : Json) : Type 0 where
  pub value : IsValue j
  pub levels : levels j ≤ most
  pub counted : IsCounted (length (compact j))

-- a certname isn't empty
abbrev pub IsCertname : List ℕ → Type 0
IsCertname s = (s ≢ []) × IsText s

-- ---- facts

pub record IsFactsChange (c : FactsChange) : Type 0 where
  pub certname : IsCertname c.certname
  pub environment : IfText c.environment
  pub values : IsJson 126 (object (members_of c.values))
  pub stamp : HasStamp c.stamp
  pub producer : IfText c.producer

-- ---- catalogs

-- tags strictly ascend by their bytes, so they are distinct
pub record IsResource (r : Resource) : Type 0 where
  pub rtype : IsText r.rtype
  pub title : IsText r.title
  pub file : IfText r.file
  pub line : IfWhole r.line
  pub tags : AllByRecursion IsText r.tags
  pub tags_rise : IsStrictlySortedBy text_cmp r.tags
  pub tags_counted : IsCounted (length r.tags)
  pub parameters : IsJson 124 (object (members_of r.parameters))

pub record IsNamed (name : ResourceName) : Type 0 where
  pub rtype : IsText name.rtype
  pub title : IsText name.title

abbrev pub IsEdge : Edge → Type 0
IsEdge e = IsNamed e.source × IsNamed e.target

-- all resources differ in type or title
abbrev pub AreDistinctResources : List Resource → Type 0
AreDistinctResources [] = Unit {0}
AreDistinctResources (r ∷ rs) = AllByRecursion (λ q. has_name_of r q ≡ false) rs × AreDistinctResources rs

-- all edges are different
abbrev pub AreDistinctEdges : List Edge → Type 0
AreDistinctEdges [] = Unit {0}
AreDistinctEdges (e ∷ es) = AllByRecursion (λ f. is_edge e f ≡ false) es × AreDistinctEdges es

pub record IsCatalogChange (c : CatalogChange) : Type 0 where
  pub certname : IsCertname c.certname
  pub version : IsText c.version
  pub environment : IfText c.environment
  pub transaction_uuid : IfText c.transaction_uuid
  pub catalog_uuid : IfText c.catalog_uuid
  pub code_id : IfText c.code_id
  pub job_id : IfText c.job_id
  pub stamp : HasStamp c.stamp
  pub producer : IfText c.producer
  pub edges : AllByRecursion IsEdge c.edges
  pub distinct_edges : AreDistinctEdges c.edges
  pub edges_counted : IsCounted (length c.edges)
  pub resources : AllByRecursion IsResource c.resources
  pub distinct_resources : AreDistinctResources c.resources
  pub resources_counted : IsCounted (length c.resources)

-- ---- reports

-- a list of JSON values, each with at most 125 levels
pub record IsList (js : List Json) : Type 0 where
  pub elements : AllByRecursion (IsJson 125) js
  pub counted : IsCounted (length js)

-- its values are JSON, and its lists hold what the wire format accepts
pub record IsReportChange (r : ReportChange) : Type 0 where
  pub certname : IsCertname r.certname
  pub environment : IfText r.environment
  pub puppet_version : IfText r.puppet_version
  pub report_format : IfWhole r.report_format
  pub configuration_version : IfText r.configuration_version
  pub start_time : IfMoment r.start_time
  pub end_time : IfMoment r.end_time
  pub stamp : HasStamp r.stamp
  pub producer : IfText r.producer
  pub status : IfText r.status
  pub transaction_uuid : IfText r.transaction_uuid
  pub resources : IsList r.resources
  pub logs : IsList r.logs
  pub metrics : IsList r.metrics
  pub are_resources : each_from 0 report_resource r.resources ≡ Ok r.resources
  pub are_logs : each_from 0 (object_in field.Logs) r.logs ≡ Ok r.logs
  pub are_metrics : each_from 0 (object_in field.Metrics) r.metrics ≡ Ok r.metrics

-- ---- deactivations and expirations

pub record IsDeactivateChange (c : DeactivateChange) : Type 0 where
  pub certname : IsCertname c.certname
  pub stamp : HasStamp c.stamp

pub record IsExpirationChange (c : ExpirationChange) : Type 0 where
  pub certname : IsCertname c.certname
  pub stamp : HasStamp c.stamp

abbrev pub IsChange : Change → Type 0
IsChange (change.Facts c) = IsFactsChange c
IsChange (change.Catalog c) = IsCatalogChange c
IsChange (change.Report c) = IsReportChange c
IsChange (change.Deactivate c) = IsDeactivateChange c
IsChange (change.Expiration c) = IsExpirationChange c
