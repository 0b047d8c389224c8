-- The payload of a catalog is taken as the catalog that it was made of.
use Rattle.std.proofs.Common.{◌≡◌, ◌∙◌, ℕ, suc, List, [], ◌∷◌, ◌++◌, map, refl, ap, Bool, false, Option, not, if◌then◌else◌, Ok, Err, unwrap_or}
use Rattle.std.specs.List.{AllByRecursion, filter, list_any}
use Rattle.dump_spec.specs.text_spec.Json.{string}
use Rattle.dump_spec.specs.fleet_rows.Texts.{sorted_texts}
use Rattle.dump_spec.specs.fleet_rows.declared.catalog.CatalogChange.{CatalogChange}
use Rattle.dump_spec.specs.fleet_rows.declared.catalog.Edge.{Edge}
use Rattle.dump_spec.specs.fleet_rows.declared.catalog.Relationship.{Relationship}
use Rattle.dump_spec.specs.fleet_rows.declared.catalog.Relationship.TheVariants as relationship
use Rattle.dump_spec.specs.fleet_rows.declared.catalog.Resource.{Resource}
use Rattle.dump_spec.specs.fleet_rows.declared.refusal.Field.TheVariants as field
use Rattle.dump_spec.specs.fleet_rows.declared.refusal.Place.{Place}
use Rattle.dump_spec.specs.fleet_rows.declared.refusal.Refusal.TheVariants.{DuplicateResource}
use Rattle.dump_spec.specs.history_spec.Lawful.{IsResource, IsCatalogChange, AreDistinctResources, AreDistinctEdges}
use Rattle.dump_spec.specs.wire_spec.Table as table
use Rattle.dump_spec.specs.wire_spec.Table.{Pairs, Checked, ◌>>=◌, top, outer, inner, each_from, has_name_of, new_resource, resources_from, relationship_name, relationship_of, is_edge, distinct_edges}
use Rattle.dump_spec.specs.Payloads.{there, name_fields, edge_fields, edge_value, resource_fields, resource_value, catalog_fields}
use Rattle.dump_spec.proofs.of_plain_laws.Booleans.{neither, or_falses}
use Rattle.dump_spec.proofs.of_plain_laws.Members.{All-Among}
use Rattle.dump_spec.proofs.of_wire_laws.LawfulChanges.{name-symm}
use Rattle.dump_spec.proofs.of_table_machine.Ranked.{filter-every}
use Rattle.dump_laws.proofs.FoundFields.{required_is, optional_is}
use Rattle.dump_laws.proofs.TakenValues.{nonempty, text_if, stamp_is, members_is, items_is, whole_if, if_so, true_if, so_is, if_some, some_is, members_if, tags_if, sorted_already}

-- ---- a resource

tags_are : (place : ℕ → Place) (k : ℕ) (tags : List (List ℕ)) → each_from k (λ j t. table.text (place j) t) (map string tags) ≡ Ok tags
tags_are place k [] = refl
tags_are place k (t ∷ tags) = ap (λ c. c >>= (λ ts. Ok (t ∷ ts))) (tags_are place (suc k) tags)

abbrev made : List ℕ → List ℕ → Option Bool → Option (List ℕ) → Option ℕ → List (List ℕ) → Option Pairs → Checked Resource
made a b c d e g k = Ok (record { rtype = a; title = b; exported = unwrap_or c false; file = d; line = e; tags = sorted_texts g; parameters = unwrap_or k [] })

abbrev taken_from : ℕ → Pairs → Checked Resource
taken_from i ms =
    table.required table.text (outer i field.«Type») ms >>= (λ a. table.required table.text (outer i field.Title) ms >>= (λ b.
    table.optional table.bool (outer i field.Exported) ms >>= (λ c. table.optional table.text (outer i field.File) ms >>= (λ d.
    table.optional table.whole_number (outer i field.Line) ms >>= (λ e. table.optional table.items (outer i field.Tags) ms >>= (λ f.
    each_from 0 (λ k t. table.text (inner i k field.Tags) t) (unwrap_or f []) >>= (λ g.
    table.optional table.members (outer i field.Parameters) ms >>= (λ k. made a b c d e g k))))))))

pub resource_is : (i : ℕ) (r : Resource) → IsResource r → table.resource i (resource_value r) ≡ Ok r
resource_is i r h =
    let fs = resource_fields r in
    let object = members_is (outer i field.Resources) (there fs) in
    let rtype = required_is fs refl table.text (outer i field.«Type») in
    let title = required_is fs refl table.text (outer i field.Title) in
    let exported = optional_is fs refl table.bool (outer i field.Exported) ∙ true_if (outer i field.Exported) r.exported in
    let file = optional_is fs refl table.text (outer i field.File) ∙ text_if (outer i field.File) r.file in
    let line = optional_is fs refl table.whole_number (outer i field.Line) ∙ whole_if (outer i field.Line) r.line h.line in
    let tag_list = optional_is fs refl table.items (outer i field.Tags) ∙ tags_if (outer i field.Tags) r.tags in
    let tags = ap (each_from 0 (λ k t. table.text (inner i k field.Tags) t)) (some_is (map string r.tags)) ∙ tags_are (λ k. inner i k field.Tags) 0 r.tags in
    let parameters = optional_is fs refl table.members (outer i field.Parameters) ∙ members_if (outer i field.Parameters) r.parameters in
    ap (λ c. c >>= (λ ms. taken_from i ms)) object
    ∙ (λ j. rtype j >>= (λ a. title j >>= (λ b. exported j >>= (λ c. file j >>= (λ d. line j >>= (λ e. tag_list j >>= (λ f.
    each_from 0 (λ k t. table.text (inner i k field.Tags) t) (unwrap_or f []) >>= (λ g. parameters j >>= (λ k. made a b c d e g k)))))))))
    ∙ (λ j. tags j >>= (λ g. made r.rtype r.title (if_so r.exported) r.file r.line g (if_some r.parameters)))
    ∙ (λ j. Ok (record r { exported = so_is r.exported j; tags = sorted_already r.tags h.tags_rise j; parameters = some_is r.parameters j }))

-- ---- resources, of which no two have one name

abbrev AreNew : List Resource → List Resource → Type 0
AreNew before rs = AllByRecursion (λ r. list_any (has_name_of r) before ≡ false) rs

any_more : (p : Resource → Bool) (before : List Resource) (r : Resource) → list_any p before ≡ false → p r ≡ false → list_any p (before ++ r ∷ []) ≡ false
any_more p [] r h e = or_falses (p r) false e refl
any_more p (q ∷ before) r h e = let parts = neither (p q) (list_any p before) h in or_falses (p q) (list_any p (before ++ r ∷ [])) parts.0 (any_more p before r parts.1 e)

still_new : (before : List Resource) (r : Resource) (rs : List Resource) → AllByRecursion (λ q. has_name_of r q ≡ false) rs → AreNew before rs → AreNew (before ++ r ∷ []) rs
still_new before r [] apart new = tt
still_new before r (q ∷ rs) apart new = (any_more (has_name_of q) before r new.0 (name-symm q r ∙ apart.0), still_new before r rs apart.1 new.1)

pub resources_are : (before : List Resource) (i : ℕ) (rs : List Resource) → AllByRecursion IsResource rs → AreDistinctResources rs → AreNew before rs → resources_from before i (map resource_value rs) ≡ Ok rs
resources_are before i [] all apart new = refl
resources_are before i (r ∷ rs) all apart new =
    let first = resource_is i r all.0 in
    let rest = resources_are (before ++ r ∷ []) (suc i) rs all.1 apart.1 (still_new before r rs apart.0 new.1) in
    (λ j. (first j >>= (λ q. if list_any (has_name_of q) before then Err (DuplicateResource i) else Ok q)) >>= (λ q. resources_from (before ++ q ∷ []) (suc i) (map resource_value rs) >>= (λ qs. Ok (q ∷ qs))))
    ∙ (λ j. (if new.0 j then Err (DuplicateResource i) else Ok r) >>= (λ q. resources_from (before ++ q ∷ []) (suc i) (map resource_value rs) >>= (λ qs. Ok (q ∷ qs))))
    ∙ (λ j. rest j >>= (λ qs. Ok (r ∷ qs)))

-- ---- edges

relationship_is : (i : ℕ) (r : Relationship) → relationship_of i (relationship_name r) ≡ Ok r
relationship_is i relationship.Contains = refl
relationship_is i relationship.Before = refl
relationship_is i relationship.RequiredBy = refl
relationship_is i relationship.Notifies = refl
relationship_is i relationship.SubscriptionOf = refl

source_is : (i : ℕ) (e : Edge) → table.edge_end i field.Source field.SourceType field.SourceTitle (there (edge_fields e)) ≡ Ok e.source
source_is i e =
    let object = required_is (edge_fields e) refl table.members (outer i field.Source) ∙ members_is (outer i field.Source) (there (name_fields e.source)) in
    λ j. object j >>= (λ named. table.required table.text (outer i field.SourceType) named >>= (λ a. table.required table.text (outer i field.SourceTitle) named >>= (λ b. Ok (record { rtype = a; title = b }))))

target_is : (i : ℕ) (e : Edge) → table.edge_end i field.Target field.TargetType field.TargetTitle (there (edge_fields e)) ≡ Ok e.target
target_is i e =
    let object = required_is (edge_fields e) refl table.members (outer i field.Target) ∙ members_is (outer i field.Target) (there (name_fields e.target)) in
    λ j. object j >>= (λ named. table.required table.text (outer i field.TargetType) named >>= (λ a. table.required table.text (outer i field.TargetTitle) named >>= (λ b. Ok (record { rtype = a; title = b }))))

edge_is : (i : ℕ) (e : Edge) → table.edge i (edge_value e) ≡ Ok e
edge_is i e =
    let object = members_is (outer i field.Edges) (there (edge_fields e)) in
    let name = required_is (edge_fields e) refl table.text (outer i field.Relationship) in
    (λ j. object j >>= (λ ms. table.edge_end i field.Source field.SourceType field.SourceTitle ms >>= (λ a. table.edge_end i field.Target field.TargetType field.TargetTitle ms >>= (λ b.
    table.required table.text (outer i field.Relationship) ms >>= (λ c. relationship_of i c >>= (λ d. Ok (record { source = a; target = b; relationship = d })))))))
    ∙ (λ j. source_is i e j >>= (λ a. target_is i e j >>= (λ b. name j >>= (λ c. relationship_of i c >>= (λ d. Ok (record { source = a; target = b; relationship = d }))))))
    ∙ (λ j. relationship_is i e.relationship j >>= (λ d. Ok (record e { relationship = d })))

edges_are : (i : ℕ) (es : List Edge) → each_from i table.edge (map edge_value es) ≡ Ok es
edges_are i [] = refl
edges_are i (e ∷ es) = let rest = edges_are (suc i) es in λ j. edge_is i e j >>= (λ f. rest j >>= (λ fs. Ok (f ∷ fs)))

distinct_already : (es : List Edge) → AreDistinctEdges es → distinct_edges es ≡ es
distinct_already [] h = refl
distinct_already (e ∷ es) h =
    ap (λ fs. e ∷ filter (λ f. not (is_edge e f)) fs) (distinct_already es h.1)
    ∙ ap (λ fs. e ∷ fs) (filter-every (λ f. not (is_edge e f)) es (λ f a. ap not (All-Among (λ g. is_edge e g ≡ false) es f h.0 a)))

-- ---- the catalog

none_before : (rs : List Resource) → AreNew [] rs
none_before [] = tt
none_before (r ∷ rs) = (refl, none_before rs)

pub catalog_is : (c : CatalogChange) → IsCatalogChange c → table.catalog_change (there (catalog_fields c)) ≡ Ok c
catalog_is c h =
    let fs = catalog_fields c in
    let certname = required_is fs refl table.nonempty_text (top field.Certname) ∙ nonempty (top field.Certname) c.certname h.certname.0 in
    let version = required_is fs refl table.text (top field.Version) in
    let environment = optional_is fs refl table.text (top field.Environment) ∙ text_if (top field.Environment) c.environment in
    let transaction_uuid = optional_is fs refl table.text (top field.TransactionUuid) ∙ text_if (top field.TransactionUuid) c.transaction_uuid in
    let catalog_uuid = optional_is fs refl table.text (top field.CatalogUuid) ∙ text_if (top field.CatalogUuid) c.catalog_uuid in
    let code_id = optional_is fs refl table.text (top field.CodeId) ∙ text_if (top field.CodeId) c.code_id in
    let job_id = optional_is fs refl table.text (top field.JobId) ∙ text_if (top field.JobId) c.job_id in
    let moment = required_is fs refl table.stamp (top field.ProducerTimestamp) ∙ stamp_is (top field.ProducerTimestamp) c.stamp h.stamp in
    let producer = optional_is fs refl table.text (top field.Producer) ∙ text_if (top field.Producer) c.producer in
    let edge_list = required_is fs refl table.items (top field.Edges) ∙ items_is (top field.Edges) (map edge_value c.edges) in
    let edges = edges_are 0 c.edges in
    let resource_list = required_is fs refl table.items (top field.Resources) ∙ items_is (top field.Resources) (map resource_value c.resources) in
    let resources = resources_are [] 0 c.resources h.resources h.distinct_resources (none_before c.resources) in
    (λ i. certname i >>= (λ a. version i >>= (λ b. environment i >>= (λ d. transaction_uuid i >>= (λ e. catalog_uuid i >>= (λ f. code_id i >>= (λ g. job_id i >>= (λ k.
    moment i >>= (λ l. producer i >>= (λ m. edge_list i >>= (λ n. each_from 0 table.edge n >>= (λ o. resource_list i >>= (λ p. resources_from [] 0 p >>= (λ q.
    Ok (record {
      certname = a;
      version = b;
      environment = d;
      transaction_uuid = e;
      catalog_uuid = f;
      code_id = g;
      job_id = k;
      stamp = l;
      producer = m;
      edges = distinct_edges o;
      resources = q;
    })))))))))))))))
    ∙ (λ i. edges i >>= (λ o. resources i >>= (λ q. Ok (record c { edges = distinct_edges o; resources = q }))))
    ∙ (λ i. Ok (record c { edges = distinct_already c.edges h.distinct_edges i }))
