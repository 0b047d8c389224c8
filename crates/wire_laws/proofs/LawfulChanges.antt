-- The change that a value stands for meets its rules.
use Rattle.std.proofs.Common.{◌≡◌, ◌∙◌, ℕ, suc, ◌<◌, ◌≤◌, ◌^◌, List, [], ◌∷◌, ◌++◌, length, arith, refl, sym, ap, subst, Bool, true, false, not, ◌&&◌, ◌||◌, cond, if◌then◌else◌, Ok, Err}
use Rattle.std.specs.Prelude.{unwrap_or, filter}
use Rattle.std.specs.List.{AllByRecursion, list_any}
use Rattle.std.specs.Ordering.{match_ordering}
use Rattle.std.specs.declared.cmp.Ordering.{Ordering}
use Rattle.std.specs.declared.cmp.Ordering.TheVariants.{Less, Equal, Greater}
use Rattle.std.proofs.lemmas.Cmp.{nat_list_eq_equiv}
use Rattle.history_spec.proofs.of_plain_laws.Members.{All-Among, All-from_Among, Among-from_filter}
use Rattle.history_spec.specs.text_spec.Json as json
use Rattle.history_spec.specs.text_spec.Json.{Json, object, members_of, members_list}
use Rattle.history_spec.specs.text_spec.Compact.{text_cmp}
use Rattle.history_spec.specs.text_spec.JsonText.{Spells}
use Rattle.text_laws.proofs.LengthLaws.{compact_is_shortest}
use Rattle.history_spec.proofs.of_json_machine.Spelled.{spells_value}
use Rattle.history_spec.specs.fleet_rows.Texts.{insert_text, sorted_texts}
use Rattle.history_spec.specs.fleet_rows.declared.catalog.CatalogChange.{CatalogChange}
use Rattle.history_spec.specs.fleet_rows.declared.catalog.Edge.{Edge}
use Rattle.history_spec.specs.fleet_rows.declared.catalog.Resource.{Resource}
use Rattle.history_spec.specs.fleet_rows.declared.catalog.ResourceName.{ResourceName}
use Rattle.history_spec.specs.fleet_rows.declared.change.Change.{Change}
use Rattle.history_spec.specs.fleet_rows.declared.change.Change.TheVariants as change
use Rattle.history_spec.specs.fleet_rows.declared.change.DeactivateChange.{DeactivateChange}
use Rattle.history_spec.specs.fleet_rows.declared.change.ExpirationChange.{ExpirationChange}
use Rattle.history_spec.specs.fleet_rows.declared.change.FactsChange.{FactsChange}
use Rattle.history_spec.specs.fleet_rows.declared.change.ReportChange.{ReportChange}
use Rattle.history_spec.specs.fleet_rows.declared.command.Kind.{Kind}
use Rattle.history_spec.specs.fleet_rows.declared.command.Kind.TheVariants as kind
use Rattle.history_spec.specs.fleet_rows.declared.refusal.Field.{Field}
use Rattle.history_spec.specs.fleet_rows.declared.refusal.Field.TheVariants as field
use Rattle.history_spec.specs.fleet_rows.declared.refusal.Refusal.TheVariants.{DuplicateResource}
use Rattle.history_spec.specs.wire_spec.Table.{Pairs, Checked, top, outer, inner, text, nonempty_text, bool, whole_number, stamp, members, items, required, optional, each_from, facts_change, resource, has_name_of, new_resource, resources_from, relationship_of, edge_end, edge, is_edge, distinct_edges, catalog_change, event, report_resource, object_in, report_change, deactivate_change, expiration_change, object_change, value_change}
use Rattle.history_spec.specs.wire_spec.Decode as decode
use Rattle.history_spec.specs.wire_spec.Decode.{DecodeOf}
use Rattle.history_spec.proofs.of_text_spec.JsonLemmas.{members_of-list}
use Rattle.history_spec.specs.Lawful.{IsText, IsJson, IsFactsChange, IsResource, IsNamed, IsEdge, AreDistinctResources, AreDistinctEdges, IsCatalogChange, IsList, IsReportChange, IsDeactivateChange, IsExpirationChange, IsChange}
use Rattle.wire_laws.specs.DecodeLaws.{DecodedChangesAreLawful}
use Rattle.wire_laws.proofs.SortedTexts.{sorted_texts_are_sorted, Among-from_sorted_texts}
use Rattle.wire_laws.proofs.LawfulFields.{refused, answered, bound, AreFields, AreItems, text_is, members_are, required_certname, required_text, optional_text, required_members, required_items, optional_items, optional_members, required_stamp, optional_stamp, optional_whole, each_all, each_many, kept_items, checked_again}

-- ---- facts, deactivations, expirations

facts_are_lawful : (ms : Pairs) (c : FactsChange) → AreFields 126 ms → facts_change ms ≡ Ok c → IsFactsChange c
facts_are_lawful ms c f h =
    let certname = bound (required nonempty_text (top field.Certname) ms) _ c h in
    let environment = bound (optional text (top field.Environment) ms) _ c certname.2 in
    let values = bound (required members (top field.Values) ms) _ c environment.2 in
    let moment = bound (required stamp (top field.ProducerTimestamp) ms) _ c values.2 in
    let producer = bound (optional text (top field.Producer) ms) _ c moment.2 in
    subst IsFactsChange (answered _ c producer.2) (record {
      certname = required_certname 126 (top field.Certname) ms f certname.0 certname.1;
      environment = optional_text 126 (top field.Environment) ms f environment.0 environment.1;
      values = required_members 126 (top field.Values) ms f values.0 values.1;
      stamp = required_stamp (top field.ProducerTimestamp) ms moment.0 moment.1;
      producer = optional_text 126 (top field.Producer) ms f producer.0 producer.1;
    })

deactivation_is_lawful : (ms : Pairs) (c : DeactivateChange) → AreFields 126 ms → deactivate_change ms ≡ Ok c → IsDeactivateChange c
deactivation_is_lawful ms c f h =
    let certname = bound (required nonempty_text (top field.Certname) ms) _ c h in
    let moment = bound (required stamp (top field.ProducerTimestamp) ms) _ c certname.2 in
    subst IsDeactivateChange (answered _ c moment.2) (record {
      certname = required_certname 126 (top field.Certname) ms f certname.0 certname.1;
      stamp = required_stamp (top field.ProducerTimestamp) ms moment.0 moment.1;
    })

expiration_is_lawful : (ms : Pairs) (c : ExpirationChange) → AreFields 126 ms → expiration_change ms ≡ Ok c → IsExpirationChange c
expiration_is_lawful ms c f h =
    let certname = bound (required nonempty_text (top field.Certname) ms) _ c h in
    let moment = bound (required stamp (top field.ProducerTimestamp) ms) _ c certname.2 in
    let expire = bound (required members (top field.Expire) ms) _ c moment.2 in
    let facts = bound (required bool (top field.ExpireFacts) expire.0) _ c expire.2 in
    subst IsExpirationChange (answered _ c facts.2) (record {
      certname = required_certname 126 (top field.Certname) ms f certname.0 certname.1;
      stamp = required_stamp (top field.ProducerTimestamp) ms moment.0 moment.1;
    })

-- ---- numbers of elements

few : (a b c : ℕ) → a ≤ b → b ≡ c → c < 2 ^ 32 → a < 2 ^ 32
few a b c le same below = omega (arith, le, same, below)

few_as : (a b : ℕ) → a ≡ b → b < 2 ^ 32 → a < 2 ^ 32
few_as a b same below = omega (arith, same, below)

-- ---- tags

inserted_many : (x y : List ℕ) (ys : List (List ℕ)) (o : Ordering) → length (insert_text x ys) ≤ suc (length ys) → length (match_ordering o (x ∷ y ∷ ys) (y ∷ ys) (y ∷ insert_text x ys)) ≤ suc (suc (length ys))
inserted_many x y ys Less next = omega arith
inserted_many x y ys Equal next = omega arith
inserted_many x y ys Greater next = omega (arith, next)

insert_many : (x : List ℕ) (ys : List (List ℕ)) → length (insert_text x ys) ≤ suc (length ys)
insert_many x [] = omega arith
insert_many x (y ∷ ys) = inserted_many x y ys (text_cmp x y) (insert_many x ys)

sorted_many : (xs : List (List ℕ)) → length (sorted_texts xs) ≤ length xs
sorted_many [] = omega arith
sorted_many (x ∷ xs) = omega (arith, insert_many x (sorted_texts xs), sorted_many xs)

-- ---- resources

resource_is : (i : ℕ) (j : Json) (r : Resource) → IsJson 125 j → resource i j ≡ Ok r → IsResource r
resource_is i j r v h =
    let ms = bound (members (outer i field.Resources) j) _ r h in
    let rtype = bound (required text (outer i field.«Type») ms.0) _ r ms.2 in
    let title = bound (required text (outer i field.Title) ms.0) _ r rtype.2 in
    let exported = bound (optional bool (outer i field.Exported) ms.0) _ r title.2 in
    let file = bound (optional text (outer i field.File) ms.0) _ r exported.2 in
    let line = bound (optional whole_number (outer i field.Line) ms.0) _ r file.2 in
    let tag_list = bound (optional items (outer i field.Tags) ms.0) _ r line.2 in
    let tags = bound (each_from 0 (λ k t. text (inner i k field.Tags) t) (unwrap_or tag_list.0 [])) _ r tag_list.2 in
    let parameters = bound (optional members (outer i field.Parameters) ms.0) _ r tags.2 in
    let f : AreFields 124 ms.0 = members_are 125 (outer i field.Resources) j ms.0 v ms.1 in
    let listed : AreItems 123 (unwrap_or tag_list.0 []) = optional_items 123 (outer i field.Tags) ms.0 f tag_list.0 tag_list.1 in
    let texts : AllByRecursion IsText tags.0 = each_all (IsJson 123) IsText (λ k t. text (inner i k field.Tags) t) (λ k t s w e. text_is 123 (inner i k field.Tags) t s w e) 0 (unwrap_or tag_list.0 []) tags.0 listed.elements tags.1 in
    subst IsResource (answered _ r parameters.2) (record {
      rtype = required_text 124 (outer i field.«Type») ms.0 f rtype.0 rtype.1;
      title = required_text 124 (outer i field.Title) ms.0 f title.0 title.1;
      file = optional_text 124 (outer i field.File) ms.0 f file.0 file.1;
      line = optional_whole (outer i field.Line) ms.0 line.0 line.1;
      tags = All-from_Among IsText (sorted_texts tags.0) (λ t a. All-Among IsText tags.0 t texts (Among-from_sorted_texts t tags.0 a));
      tags_rise = sorted_texts_are_sorted tags.0;
      tags_counted = few (length (sorted_texts tags.0)) (length tags.0) (length (unwrap_or tag_list.0 [])) (sorted_many tags.0) (each_many (λ k t. text (inner i k field.Tags) t) 0 (unwrap_or tag_list.0 []) tags.0 tags.1) listed.counted;
      parameters = optional_members 123 (outer i field.Parameters) ms.0 f parameters.0 parameters.1;
    })

pub name-symm : (r q : Resource) → has_name_of r q ≡ has_name_of q r
name-symm r q = λ i. nat_list_eq_equiv.symm r.rtype q.rtype i && nat_list_eq_equiv.symm r.title q.title i

new_if : (b : Bool) (i : ℕ) (r q : Resource) → ◌≡◌ {A = Checked Resource} (if b then Err (DuplicateResource i) else Ok r) (Ok q) → (b ≡ false) × (r ≡ q)
new_if true i r q h = refused (DuplicateResource i) q h
new_if false i r q h = (refl, answered r q h)

none_before : (p : Resource → Bool) (before : List Resource) (r : Resource) → list_any p (before ++ r ∷ []) ≡ false → (list_any p before ≡ false) × (p r ≡ false)
none_before p [] r h = (refl, unlike_either (p r) h)
  where
    unlike_either : (b : Bool) → (b || false) ≡ false → b ≡ false
    unlike_either true k = cc
    unlike_either false k = refl
none_before p (q ∷ before) r h = step (p q) h (none_before p before r)
  where
    step : (b : Bool) → (b || list_any p (before ++ r ∷ [])) ≡ false → (list_any p (before ++ r ∷ []) ≡ false → (list_any p before ≡ false) × (p r ≡ false)) → ((b || list_any p before) ≡ false) × (p r ≡ false)
    step true k next = absurd (let apart : true ≡ false = k in cc)
    step false k next = next k

-- resources that meet their rules, have distinct names, and none of a name that stood before
record AreNew (before rs : List Resource) : Type 0 where
  lawful : AllByRecursion IsResource rs
  distinct : AreDistinctResources rs
  new : AllByRecursion (λ r. list_any (has_name_of r) before ≡ false) rs

one_more : (before : List Resource) (r : Resource) (rs : List Resource) → IsResource r → list_any (has_name_of r) before ≡ false → AreNew (before ++ r ∷ []) rs → AreNew before (r ∷ rs)
one_more before r rs is new h = record {
  lawful = (is, h.lawful);
  distinct =
      (All-from_Among (λ q. has_name_of r q ≡ false) rs (λ q a. name-symm r q ∙ (none_before (has_name_of q) before r (All-Among (λ s. list_any (has_name_of s) (before ++ r ∷ []) ≡ false) rs q h.new a)).1), h.distinct);
  new =
      (new, All-from_Among (λ q. list_any (has_name_of q) before ≡ false) rs (λ q a. (none_before (has_name_of q) before r (All-Among (λ s. list_any (has_name_of s) (before ++ r ∷ []) ≡ false) rs q h.new a)).0));
}

resources_are : (before : List Resource) (i : ℕ) (js : List Json) (rs : List Resource) → AllByRecursion (IsJson 125) js → resources_from before i js ≡ Ok rs → AreNew before rs × (length rs ≡ length js)
resources_are before i [] rs v h = subst (λ rs. AreNew before rs × (length rs ≡ 0)) (answered [] rs h) (record { lawful = tt; distinct = tt; new = tt }, refl)
resources_are before i (j ∷ js) rs v h =
    let first = bound (new_resource before i j) _ rs h in
    let read = bound (resource i j) _ first.0 first.1 in
    let new = new_if (list_any (has_name_of read.0) before) i read.0 first.0 read.2 in
    let rest = bound (resources_from (before ++ first.0 ∷ []) (suc i) js) _ rs first.2 in
    let is : IsResource first.0 = subst IsResource new.1 (resource_is i j read.0 v.0 read.1) in
    let not_before : list_any (has_name_of first.0) before ≡ false = subst (λ r. list_any (has_name_of r) before ≡ false) new.1 new.0 in
    let others = resources_are (before ++ first.0 ∷ []) (suc i) js rest.0 v.1 rest.1 in
    subst (λ rs. AreNew before rs × (length rs ≡ suc (length js))) (answered (first.0 ∷ rest.0) rs rest.2) (one_more before first.0 rest.0 is not_before others.0, ap suc others.1)

-- ---- edges

All-filter : {X : Type 0} (P : X → Type 0) (p : X → Bool) (xs : List X) → AllByRecursion P xs → AllByRecursion P (filter p xs)
All-filter P p xs h = All-from_Among P (filter p xs) (λ x a. All-Among P xs x h (Among-from_filter p xs x a).0)

filter_step : (b : Bool) (p : Edge → Bool) (e : Edge) (es : List Edge) → AllByRecursion (λ f. is_edge e f ≡ false) es → AreDistinctEdges (filter p es) → AreDistinctEdges (cond b (e ∷ filter p es) (filter p es))
filter_step true p e es h rest = (All-filter (λ f. is_edge e f ≡ false) p es h, rest)
filter_step false p e es h rest = rest

filter_distinct : (p : Edge → Bool) (es : List Edge) → AreDistinctEdges es → AreDistinctEdges (filter p es)
filter_distinct p [] h = tt
filter_distinct p (e ∷ es) h = filter_step (p e) p e es h.0 (filter_distinct p es h.1)

unlike : (b : Bool) → not b ≡ true → b ≡ false
unlike true h = cc
unlike false h = refl

pub edges_are_distinct : (es : List Edge) → AreDistinctEdges (distinct_edges es)
edges_are_distinct [] = tt
edges_are_distinct (e ∷ es) = (
  All-from_Among (λ f. is_edge e f ≡ false) (filter (λ f. not (is_edge e f)) (distinct_edges es)) (λ f a. unlike (is_edge e f) (Among-from_filter (λ g. not (is_edge e g)) (distinct_edges es) f a).1),
  filter_distinct (λ f. not (is_edge e f)) (distinct_edges es) (edges_are_distinct es),
)

distinct_all : (P : Edge → Type 0) (es : List Edge) → AllByRecursion P es → AllByRecursion P (distinct_edges es)
distinct_all P [] h = tt
distinct_all P (e ∷ es) h = (h.0, All-filter P (λ f. not (is_edge e f)) (distinct_edges es) (distinct_all P es h.1))

filtered_many : (b : Bool) (p : Edge → Bool) (e : Edge) (es : List Edge) → length (filter p es) ≤ length es → length (cond b (e ∷ filter p es) (filter p es)) ≤ suc (length es)
filtered_many true p e es next = omega (arith, next)
filtered_many false p e es next = omega (arith, next)

filter_many : (p : Edge → Bool) (es : List Edge) → length (filter p es) ≤ length es
filter_many p [] = omega arith
filter_many p (e ∷ es) = filtered_many (p e) p e es (filter_many p es)

distinct_many : (es : List Edge) → length (distinct_edges es) ≤ length es
distinct_many [] = omega arith
distinct_many (e ∷ es) = omega (arith, filter_many (λ f. not (is_edge e f)) (distinct_edges es), distinct_many es)

end_is : (i : ℕ) (whole type_field title_field : Field) (ms : Pairs) (name : ResourceName) → AreFields 124 ms → edge_end i whole type_field title_field ms ≡ Ok name → IsNamed name
end_is i whole type_field title_field ms name f h =
    let named = bound (required members (outer i whole) ms) _ name h in
    let rtype = bound (required text (outer i type_field) named.0) _ name named.2 in
    let title = bound (required text (outer i title_field) named.0) _ name rtype.2 in
    let inside : AreFields 123 named.0 = required_members 124 (outer i whole) ms f named.0 named.1 in
    subst IsNamed (answered _ name title.2) (record {
      rtype = required_text 123 (outer i type_field) named.0 inside rtype.0 rtype.1;
      title = required_text 123 (outer i title_field) named.0 inside title.0 title.1;
    })

edge_is : (i : ℕ) (j : Json) (e : Edge) → IsJson 125 j → edge i j ≡ Ok e → IsEdge e
edge_is i j e v h =
    let ms = bound (members (outer i field.Edges) j) _ e h in
    let source = bound (edge_end i field.Source field.SourceType field.SourceTitle ms.0) _ e ms.2 in
    let target = bound (edge_end i field.Target field.TargetType field.TargetTitle ms.0) _ e source.2 in
    let name = bound (required text (outer i field.Relationship) ms.0) _ e target.2 in
    let relationship = bound (relationship_of i name.0) _ e name.2 in
    let f : AreFields 124 ms.0 = members_are 125 (outer i field.Edges) j ms.0 v ms.1 in
    subst IsEdge (answered _ e relationship.2)
    (end_is i field.Source field.SourceType field.SourceTitle ms.0 source.0 f source.1, end_is i field.Target field.TargetType field.TargetTitle ms.0 target.0 f target.1)

-- ---- catalogs

catalog_is_lawful : (ms : Pairs) (c : CatalogChange) → AreFields 126 ms → catalog_change ms ≡ Ok c → IsCatalogChange c
catalog_is_lawful ms c f h =
    let certname = bound (required nonempty_text (top field.Certname) ms) _ c h in
    let version = bound (required text (top field.Version) ms) _ c certname.2 in
    let environment = bound (optional text (top field.Environment) ms) _ c version.2 in
    let transaction_uuid = bound (optional text (top field.TransactionUuid) ms) _ c environment.2 in
    let catalog_uuid = bound (optional text (top field.CatalogUuid) ms) _ c transaction_uuid.2 in
    let code_id = bound (optional text (top field.CodeId) ms) _ c catalog_uuid.2 in
    let job_id = bound (optional text (top field.JobId) ms) _ c code_id.2 in
    let moment = bound (required stamp (top field.ProducerTimestamp) ms) _ c job_id.2 in
    let producer = bound (optional text (top field.Producer) ms) _ c moment.2 in
    let edge_list = bound (required items (top field.Edges) ms) _ c producer.2 in
    let edges = bound (each_from 0 edge edge_list.0) _ c edge_list.2 in
    let resource_list = bound (required items (top field.Resources) ms) _ c edges.2 in
    let resources = bound (resources_from [] 0 resource_list.0) _ c resource_list.2 in
    let listed_edges : AreItems 125 edge_list.0 = required_items 125 (top field.Edges) ms f edge_list.0 edge_list.1 in
    let listed_resources : AreItems 125 resource_list.0 = required_items 125 (top field.Resources) ms f resource_list.0 resource_list.1 in
    let new = resources_are [] 0 resource_list.0 resources.0 listed_resources.elements resources.1 in
    subst IsCatalogChange (answered _ c resources.2) (record {
      certname = required_certname 126 (top field.Certname) ms f certname.0 certname.1;
      version = required_text 126 (top field.Version) ms f version.0 version.1;
      environment = optional_text 126 (top field.Environment) ms f environment.0 environment.1;
      transaction_uuid = optional_text 126 (top field.TransactionUuid) ms f transaction_uuid.0 transaction_uuid.1;
      catalog_uuid = optional_text 126 (top field.CatalogUuid) ms f catalog_uuid.0 catalog_uuid.1;
      code_id = optional_text 126 (top field.CodeId) ms f code_id.0 code_id.1;
      job_id = optional_text 126 (top field.JobId) ms f job_id.0 job_id.1;
      stamp = required_stamp (top field.ProducerTimestamp) ms moment.0 moment.1;
      producer = optional_text 126 (top field.Producer) ms f producer.0 producer.1;
      edges = distinct_all IsEdge edges.0 (each_all (IsJson 125) IsEdge edge edge_is 0 edge_list.0 edges.0 listed_edges.elements edges.1);
      distinct_edges = edges_are_distinct edges.0;
      edges_counted = few (length (distinct_edges edges.0)) (length edges.0) (length edge_list.0) (distinct_many edges.0) (each_many edge 0 edge_list.0 edges.0 edges.1) listed_edges.counted;
      resources = new.0.lawful;
      distinct_resources = new.0.distinct;
      resources_counted = few_as (length resources.0) (length resource_list.0) new.1 listed_resources.counted;
    })

-- ---- reports

event_is_kept : (i k : ℕ) (j l : Json) → event i k j ≡ Ok l → l ≡ j
event_is_kept i k j l h =
    let ms = bound (members (inner i k field.Events) j) _ l h in
    let status = bound (required text (inner i k field.Status) ms.0) _ l ms.2 in
    let timestamp = bound (optional stamp (inner i k field.Timestamp) ms.0) _ l status.2 in
    let property = bound (optional text (inner i k field.Property) ms.0) _ l timestamp.2 in
    let message = bound (optional text (inner i k field.Message) ms.0) _ l property.2 in
    sym (answered j l message.2)

resource_is_kept : (i : ℕ) (j k : Json) → report_resource i j ≡ Ok k → k ≡ j
resource_is_kept i j k h =
    let ms = bound (members (outer i field.Resources) j) _ k h in
    let rtype = bound (required text (outer i field.ResourceType) ms.0) _ k ms.2 in
    let title = bound (required text (outer i field.ResourceTitle) ms.0) _ k rtype.2 in
    let event_list = bound (optional items (outer i field.Events) ms.0) _ k title.2 in
    let events = bound (each_from 0 (event i) (unwrap_or event_list.0 [])) _ k event_list.2 in
    sym (answered j k events.2)

object_is_kept : (list : Field) (i : ℕ) (j k : Json) → object_in list i j ≡ Ok k → k ≡ j
object_is_kept list i j k h = let ms = bound (members (outer i list) j) _ k h in sym (answered j k ms.2)

list_is : (js : List Json) → AreItems 125 js → IsList js
list_is js v = record { elements = v.elements; counted = v.counted }

report_is_lawful : (ms : Pairs) (c : ReportChange) → AreFields 126 ms → report_change ms ≡ Ok c → IsReportChange c
report_is_lawful ms c f h =
    let certname = bound (required nonempty_text (top field.Certname) ms) _ c h in
    let environment = bound (optional text (top field.Environment) ms) _ c certname.2 in
    let puppet_version = bound (optional text (top field.PuppetVersion) ms) _ c environment.2 in
    let report_format = bound (optional whole_number (top field.ReportFormat) ms) _ c puppet_version.2 in
    let configuration_version = bound (optional text (top field.ConfigurationVersion) ms) _ c report_format.2 in
    let start_time = bound (optional stamp (top field.StartTime) ms) _ c configuration_version.2 in
    let end_time = bound (optional stamp (top field.EndTime) ms) _ c start_time.2 in
    let moment = bound (required stamp (top field.ProducerTimestamp) ms) _ c end_time.2 in
    let producer = bound (optional text (top field.Producer) ms) _ c moment.2 in
    let noop = bound (optional bool (top field.Noop) ms) _ c producer.2 in
    let status = bound (optional text (top field.Status) ms) _ c noop.2 in
    let transaction_uuid = bound (optional text (top field.TransactionUuid) ms) _ c status.2 in
    let resource_list = bound (optional items (top field.Resources) ms) _ c transaction_uuid.2 in
    let resources = bound (each_from 0 report_resource (unwrap_or resource_list.0 [])) _ c resource_list.2 in
    let log_list = bound (optional items (top field.Logs) ms) _ c resources.2 in
    let logs = bound (each_from 0 (object_in field.Logs) (unwrap_or log_list.0 [])) _ c log_list.2 in
    let metric_list = bound (optional items (top field.Metrics) ms) _ c logs.2 in
    let metrics = bound (each_from 0 (object_in field.Metrics) (unwrap_or metric_list.0 [])) _ c metric_list.2 in
    let came_resources = optional_items 125 (top field.Resources) ms f resource_list.0 resource_list.1 in
    let came_logs = optional_items 125 (top field.Logs) ms f log_list.0 log_list.1 in
    let came_metrics = optional_items 125 (top field.Metrics) ms f metric_list.0 metric_list.1 in
    subst IsReportChange (answered _ c metrics.2) (record {
      certname = required_certname 126 (top field.Certname) ms f certname.0 certname.1;
      environment = optional_text 126 (top field.Environment) ms f environment.0 environment.1;
      puppet_version = optional_text 126 (top field.PuppetVersion) ms f puppet_version.0 puppet_version.1;
      report_format = optional_whole (top field.ReportFormat) ms report_format.0 report_format.1;
      configuration_version = optional_text 126 (top field.ConfigurationVersion) ms f configuration_version.0 configuration_version.1;
      start_time = optional_stamp (top field.StartTime) ms start_time.0 start_time.1;
      end_time = optional_stamp (top field.EndTime) ms end_time.0 end_time.1;
      stamp = required_stamp (top field.ProducerTimestamp) ms moment.0 moment.1;
      producer = optional_text 126 (top field.Producer) ms f producer.0 producer.1;
      status = optional_text 126 (top field.Status) ms f status.0 status.1;
      transaction_uuid = optional_text 126 (top field.TransactionUuid) ms f transaction_uuid.0 transaction_uuid.1;
      resources = list_is resources.0 (kept_items report_resource resource_is_kept 125 (unwrap_or resource_list.0 []) resources.0 came_resources resources.1);
      logs = list_is logs.0 (kept_items (object_in field.Logs) (object_is_kept field.Logs) 125 (unwrap_or log_list.0 []) logs.0 came_logs logs.1);
      metrics = list_is metrics.0 (kept_items (object_in field.Metrics) (object_is_kept field.Metrics) 125 (unwrap_or metric_list.0 []) metrics.0 came_metrics metrics.1);
      are_resources = checked_again report_resource resource_is_kept (unwrap_or resource_list.0 []) resources.0 resources.1;
      are_logs = checked_again (object_in field.Logs) (object_is_kept field.Logs) (unwrap_or log_list.0 []) logs.0 logs.1;
      are_metrics = checked_again (object_in field.Metrics) (object_is_kept field.Metrics) (unwrap_or metric_list.0 []) metrics.0 metrics.1;
    })

-- ---- by kind

of_object : (k : Kind) (ms : Pairs) (c : Change) → AreFields 126 ms → object_change k ms ≡ Ok c → IsChange c
of_object kind.Facts ms c f h = let b = bound (facts_change ms) _ c h in subst IsChange (answered (change.Facts b.0) c b.2) (facts_are_lawful ms b.0 f b.1)
of_object kind.Catalog ms c f h = let b = bound (catalog_change ms) _ c h in subst IsChange (answered (change.Catalog b.0) c b.2) (catalog_is_lawful ms b.0 f b.1)
of_object kind.Report ms c f h = let b = bound (report_change ms) _ c h in subst IsChange (answered (change.Report b.0) c b.2) (report_is_lawful ms b.0 f b.1)
of_object kind.Deactivate ms c f h = let b = bound (deactivate_change ms) _ c h in subst IsChange (answered (change.Deactivate b.0) c b.2) (deactivation_is_lawful ms b.0 f b.1)
of_object kind.Expiration ms c f h = let b = bound (expiration_change ms) _ c h in subst IsChange (answered (change.Expiration b.0) c b.2) (expiration_is_lawful ms b.0 f b.1)

-- the change that a value of at most 127 levels stands for, which 32 bits count
pub value_change_is_lawful : (k : Kind) (v : Json) (c : Change) → IsJson 127 v → value_change k v ≡ Ok c → IsChange c
value_change_is_lawful k json.null c v h = refused _ c h
value_change_is_lawful k (json.boolean b) c v h = refused _ c h
value_change_is_lawful k (json.number s) c v h = refused _ c h
value_change_is_lawful k (json.string s) c v h = refused _ c h
value_change_is_lawful k (json.array js) c v h = refused _ c h
value_change_is_lawful k (json.object ms) c v h = of_object k (members_list ms) c (subst (λ y. IsJson 127 (object y)) (sym (members_of-list ms)) v) h

-- ---- a payload

spelled_is : (bytes : List ℕ) (v : Json) → length bytes < 2 ^ 32 → Spells bytes v → IsJson 127 v
spelled_is bytes v counted s =
    let value = spells_value 127 bytes v s in
    record { value = value.0; levels = value.1; counted = omega (arith, compact_is_shortest bytes v s, counted) }

pub decoded_changes_are_lawful : DecodedChangesAreLawful
decoded_changes_are_lawful c change counted (decode.bad_version f a) = refused _ change (sym a)
decoded_changes_are_lawful c change counted (decode.not_json at e h a) = refused _ change (sym a)
decoded_changes_are_lawful c change counted (decode.too_deep at e h a) = refused _ change (sym a)
decoded_changes_are_lawful c change counted (decode.value v e s a) = value_change_is_lawful c.kind v change (spelled_is c.payload v counted s) (sym a)
