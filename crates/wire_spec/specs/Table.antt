-- The wire formats: the fields of each, in the order in which they are checked, and the change that they make.
use Rattle.std.specs.Prelude.{ℕ, suc, ℤ, List, [], ◌∷◌, ◌++◌, length, Bool, false, not, ◌&&◌, nat_le, if◌then◌else◌, Option, Some, None, Result, Ok, Err, unwrap_or, filter, codes}
use Rattle.std.specs.List.{list_any, list_all}
use Rattle.std.specs.Char.{is_ascii_digit}
use Rattle.std.specs.Str.{bytes_eq}
use Rattle.std.specs.Str.Parse.{digits_value}
use Rattle.fleet_rows.specs.text_spec.Json.{Json, null, boolean, number, string, array, object, items_list, members_list, find_member}
use Rattle.fleet_rows.specs.text_spec.StampReader.{stamp_of}
use Rattle.fleet_rows.specs.Texts.{sorted_texts}
use Rattle.fleet_rows.specs.declared.catalog.CatalogChange.{CatalogChange}
use Rattle.fleet_rows.specs.declared.catalog.Edge.{Edge}
use Rattle.fleet_rows.specs.declared.catalog.Relationship.{Relationship}
use Rattle.fleet_rows.specs.declared.catalog.Relationship.TheVariants as relationship
use Rattle.fleet_rows.specs.declared.catalog.Resource.{Resource}
use Rattle.fleet_rows.specs.declared.catalog.ResourceName.{ResourceName}
use Rattle.fleet_rows.specs.declared.change.Change.{Change}
use Rattle.fleet_rows.specs.declared.change.Change.TheVariants as change
use Rattle.fleet_rows.specs.declared.change.DeactivateChange.{DeactivateChange}
use Rattle.fleet_rows.specs.declared.change.ExpirationChange.{ExpirationChange}
use Rattle.fleet_rows.specs.declared.change.FactsChange.{FactsChange}
use Rattle.fleet_rows.specs.declared.change.ReportChange.{ReportChange}
use Rattle.fleet_rows.specs.declared.command.Kind.{Kind}
use Rattle.fleet_rows.specs.declared.command.Kind.TheVariants as kind
use Rattle.fleet_rows.specs.declared.refusal.Field.{Field}
use Rattle.fleet_rows.specs.declared.refusal.Field.TheVariants as field
use Rattle.fleet_rows.specs.declared.refusal.Place.{Place}
use Rattle.fleet_rows.specs.declared.refusal.Refusal.{Refusal}
use Rattle.fleet_rows.specs.declared.refusal.Refusal.TheVariants.{NotObject, Missing, Wrong, BadStamp, DuplicateResource, BadRelationship}
use Rattle.wire_spec.specs.Refusals.{field_key}

abbrev pub Pairs : Type 0
Pairs = List (List ℕ × Json)

-- a value, or the first refusal
abbrev pub Checked : Type 0 → Type 0
Checked A = Result A Refusal

infixl 10 ◌>>=◌
abbrev pub ◌>>=◌ : {A B : Type 0} → Checked A → (A → Checked B) → Checked B
(Ok a) >>= f = f a
(Err refusal) >>= f = Err refusal

abbrev pub top : Field → Place
top field = record { field = field; outer = None; inner = None }

abbrev pub outer : ℕ → Field → Place
outer i field = record { field = field; outer = Some i; inner = None }

abbrev pub inner : ℕ → ℕ → Field → Place
inner i j field = record { field = field; outer = Some i; inner = Some j }

-- ---- types of value

-- how a field reads the value at its position in the payload
abbrev pub Takes : Type 0 → Type 0
Takes A = Place → Json → Checked A

abbrev pub text : Takes (List ℕ)
text p (string s) = Ok s
text p _ = Err (Wrong p)

abbrev pub nonempty_text : Takes (List ℕ)
nonempty_text p (string []) = Err (Wrong p)
nonempty_text p (string (x ∷ s)) = Ok (x ∷ s)
nonempty_text p _ = Err (Wrong p)

abbrev pub bool : Takes Bool
bool p (boolean b) = Ok b
bool p _ = Err (Wrong p)

-- only digits, 1 to 18 of them
abbrev pub is_whole : List ℕ → Bool
is_whole s = nat_le 1 (length s) && nat_le (length s) 18 && list_all is_ascii_digit s

abbrev pub whole_number : Takes ℕ
whole_number p (number s) = if is_whole s then Ok (digits_value 10 s) else Err (Wrong p)
whole_number p _ = Err (Wrong p)

abbrev pub stamp_or : Place → Option ℤ → Checked ℤ
stamp_or p (Some m) = Ok m
stamp_or p None = Err (BadStamp p)

abbrev pub stamp : Takes ℤ
stamp p (string s) = stamp_or p (stamp_of s)
stamp p _ = Err (Wrong p)

abbrev pub members : Takes Pairs
members p (object ms) = Ok (members_list ms)
members p _ = Err (Wrong p)

abbrev pub items : Takes (List Json)
items p (array js) = Ok (items_list js)
items p _ = Err (Wrong p)

-- ---- fields

-- absence is Missing
abbrev pub taken : {A : Type 0} → Takes A → Place → Option Json → Checked A
taken takes p None = Err (Missing p)
taken takes p (Some j) = takes p j

abbrev pub required : {A : Type 0} → Takes A → Place → Pairs → Checked A
required takes p ms = taken takes p (find_member (field_key p.field) ms)

abbrev pub some_of : {A : Type 0} → Checked A → Checked (Option A)
some_of c = c >>= (λ a. Ok (Some a))

-- absence and null give None
abbrev pub taken_if : {A : Type 0} → Takes A → Place → Option Json → Checked (Option A)
taken_if takes p None = Ok None
taken_if takes p (Some null) = Ok None
taken_if takes p (Some j) = some_of (takes p j)

abbrev pub optional : {A : Type 0} → Takes A → Place → Pairs → Checked (Option A)
optional takes p ms = taken_if takes p (find_member (field_key p.field) ms)

-- the elements of a list one after the other, each with its index
abbrev pub each_from : {A B : Type 0} → ℕ → (ℕ → A → Checked B) → List A → Checked (List B)
each_from i check [] = Ok []
each_from i check (a ∷ as_) = check i a >>= (λ b. each_from (suc i) check as_ >>= (λ bs. Ok (b ∷ bs)))

-- ---- replace facts 5

abbrev pub facts_change : Pairs → Checked FactsChange
facts_change ms = do
  certname ← required nonempty_text (top field.Certname) ms
  environment ← optional text (top field.Environment) ms
  values ← required members (top field.Values) ms
  moment ← required stamp (top field.ProducerTimestamp) ms
  producer ← optional text (top field.Producer) ms
  Ok (record { certname = certname; environment = environment; values = values; stamp = moment; producer = producer })

-- ---- replace catalog 9

abbrev pub resource : ℕ → Json → Checked Resource
resource i j = do
  ms ← members (outer i field.Resources) j
  rtype ← required text (outer i field.«Type») ms
  title ← required text (outer i field.Title) ms
  exported ← optional bool (outer i field.Exported) ms
  file ← optional text (outer i field.File) ms
  line ← optional whole_number (outer i field.Line) ms
  tag_list ← optional items (outer i field.Tags) ms
  tags ← each_from 0 (λ k t. text (inner i k field.Tags) t) (unwrap_or tag_list [])
  parameters ← optional members (outer i field.Parameters) ms
  Ok (record {
    rtype = rtype;
    title = title;
    exported = unwrap_or exported false;
    file = file;
    line = line;
    tags = sorted_texts tags;
    parameters = unwrap_or parameters [];
  })

abbrev pub has_name_of : Resource → Resource → Bool
has_name_of r q = bytes_eq r.rtype q.rtype && bytes_eq r.title q.title

-- a resource that repeats the type and title of an earlier one is refused, after its own fields are checked
abbrev pub new_resource : List Resource → ℕ → Json → Checked Resource
new_resource before i j = do
  r ← resource i j
  if list_any (has_name_of r) before then Err (DuplicateResource i) else Ok r

abbrev pub resources_from : List Resource → ℕ → List Json → Checked (List Resource)
resources_from before i [] = Ok []
resources_from before i (j ∷ js) =
    new_resource before i j >>= (λ r. resources_from (before ++ r ∷ []) (suc i) js >>= (λ rs. Ok (r ∷ rs)))

abbrev pub relationship_name : Relationship → List ℕ
relationship_name relationship.Contains = codes "contains"
relationship_name relationship.Before = codes "before"
relationship_name relationship.RequiredBy = codes "required-by"
relationship_name relationship.Notifies = codes "notifies"
relationship_name relationship.SubscriptionOf = codes "subscription-of"

abbrev pub relationship_of : ℕ → List ℕ → Checked Relationship
relationship_of i s =
    if bytes_eq s (relationship_name relationship.Contains) then Ok relationship.Contains
    else (if bytes_eq s (relationship_name relationship.Before) then Ok relationship.Before
    else (if bytes_eq s (relationship_name relationship.RequiredBy) then Ok relationship.RequiredBy
    else (if bytes_eq s (relationship_name relationship.Notifies) then Ok relationship.Notifies
    else (if bytes_eq s (relationship_name relationship.SubscriptionOf) then Ok relationship.SubscriptionOf
    else Err (BadRelationship i)))))

-- one end of an edge: an object with a type and a title
abbrev pub edge_end : ℕ → Field → Field → Field → Pairs → Checked ResourceName
edge_end i whole type_field title_field ms = do
  named ← required members (outer i whole) ms
  rtype ← required text (outer i type_field) named
  title ← required text (outer i title_field) named
  Ok (record { rtype = rtype; title = title })

abbrev pub edge : ℕ → Json → Checked Edge
edge i j = do
  ms ← members (outer i field.Edges) j
  source ← edge_end i field.Source field.SourceType field.SourceTitle ms
  target ← edge_end i field.Target field.TargetType field.TargetTitle ms
  name ← required text (outer i field.Relationship) ms
  relationship ← relationship_of i name
  Ok (record { source = source; target = target; relationship = relationship })

abbrev pub is_edge : Edge → Edge → Bool
is_edge e f =
    bytes_eq e.source.rtype f.source.rtype && bytes_eq e.source.title f.source.title
    && bytes_eq e.target.rtype f.target.rtype && bytes_eq e.target.title f.target.title
    && bytes_eq (relationship_name e.relationship) (relationship_name f.relationship)

-- of equal edges, the first is kept
abbrev pub distinct_edges : List Edge → List Edge
distinct_edges [] = []
distinct_edges (e ∷ es) = e ∷ filter (λ f. not (is_edge e f)) (distinct_edges es)

abbrev pub catalog_change : Pairs → Checked CatalogChange
catalog_change ms = do
  certname ← required nonempty_text (top field.Certname) ms
  version ← required text (top field.Version) ms
  environment ← optional text (top field.Environment) ms
  transaction_uuid ← optional text (top field.TransactionUuid) ms
  catalog_uuid ← optional text (top field.CatalogUuid) ms
  code_id ← optional text (top field.CodeId) ms
  job_id ← optional text (top field.JobId) ms
  moment ← required stamp (top field.ProducerTimestamp) ms
  producer ← optional text (top field.Producer) ms
  edge_list ← required items (top field.Edges) ms
  edges ← each_from 0 edge edge_list
  resource_list ← required items (top field.Resources) ms
  resources ← resources_from [] 0 resource_list
  Ok (record {
    certname = certname;
    version = version;
    environment = environment;
    transaction_uuid = transaction_uuid;
    catalog_uuid = catalog_uuid;
    code_id = code_id;
    job_id = job_id;
    stamp = moment;
    producer = producer;
    edges = distinct_edges edges;
    resources = resources;
  })

-- ---- store report 8: the lists are checked, and kept as received

abbrev pub event : ℕ → ℕ → Json → Checked Json
event i k j = do
  ms ← members (inner i k field.Events) j
  status ← required text (inner i k field.Status) ms
  timestamp ← optional stamp (inner i k field.Timestamp) ms
  property ← optional text (inner i k field.Property) ms
  message ← optional text (inner i k field.Message) ms
  Ok j

abbrev pub report_resource : ℕ → Json → Checked Json
report_resource i j = do
  ms ← members (outer i field.Resources) j
  rtype ← required text (outer i field.ResourceType) ms
  title ← required text (outer i field.ResourceTitle) ms
  event_list ← optional items (outer i field.Events) ms
  events ← each_from 0 (event i) (unwrap_or event_list [])
  Ok j

-- an element that must be an object
abbrev pub object_in : Field → ℕ → Json → Checked Json
object_in list i j = members (outer i list) j >>= (λ ms. Ok j)

abbrev pub report_change : Pairs → Checked ReportChange
report_change ms = do
  certname ← required nonempty_text (top field.Certname) ms
  environment ← optional text (top field.Environment) ms
  puppet_version ← optional text (top field.PuppetVersion) ms
  report_format ← optional whole_number (top field.ReportFormat) ms
  configuration_version ← optional text (top field.ConfigurationVersion) ms
  start_time ← optional stamp (top field.StartTime) ms
  end_time ← optional stamp (top field.EndTime) ms
  moment ← required stamp (top field.ProducerTimestamp) ms
  producer ← optional text (top field.Producer) ms
  noop ← optional bool (top field.Noop) ms
  status ← optional text (top field.Status) ms
  transaction_uuid ← optional text (top field.TransactionUuid) ms
  resource_list ← optional items (top field.Resources) ms
  resources ← each_from 0 report_resource (unwrap_or resource_list [])
  log_list ← optional items (top field.Logs) ms
  logs ← each_from 0 (object_in field.Logs) (unwrap_or log_list [])
  metric_list ← optional items (top field.Metrics) ms
  metrics ← each_from 0 (object_in field.Metrics) (unwrap_or metric_list [])
  Ok (record {
    certname = certname;
    environment = environment;
    puppet_version = puppet_version;
    report_format = report_format;
    configuration_version = configuration_version;
    start_time = start_time;
    end_time = end_time;
    stamp = moment;
    producer = producer;
    noop = noop;
    status = status;
    transaction_uuid = transaction_uuid;
    resources = resources;
    logs = logs;
    metrics = metrics;
  })

-- ---- deactivate node 3, configure expiration 1

abbrev pub deactivate_change : Pairs → Checked DeactivateChange
deactivate_change ms = do
  certname ← required nonempty_text (top field.Certname) ms
  moment ← required stamp (top field.ProducerTimestamp) ms
  Ok (record { certname = certname; stamp = moment })

abbrev pub expiration_change : Pairs → Checked ExpirationChange
expiration_change ms = do
  certname ← required nonempty_text (top field.Certname) ms
  moment ← required stamp (top field.ProducerTimestamp) ms
  expire ← required members (top field.Expire) ms
  facts ← required bool (top field.ExpireFacts) expire
  Ok (record { certname = certname; stamp = moment; expire = facts })

-- ---- by kind

abbrev pub object_change : Kind → Pairs → Checked Change
object_change kind.Facts ms = facts_change ms >>= (λ c. Ok (change.Facts c))
object_change kind.Catalog ms = catalog_change ms >>= (λ c. Ok (change.Catalog c))
object_change kind.Report ms = report_change ms >>= (λ c. Ok (change.Report c))
object_change kind.Deactivate ms = deactivate_change ms >>= (λ c. Ok (change.Deactivate c))
object_change kind.Expiration ms = expiration_change ms >>= (λ c. Ok (change.Expiration c))

-- the change of a payload's value
abbrev pub value_change : Kind → Json → Checked Change
value_change k (object ms) = object_change k (members_list ms)
value_change k _ = Err NotObject
