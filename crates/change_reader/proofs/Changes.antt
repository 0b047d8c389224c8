-- Edges, resources, and the changes of each kind.
use Rattle.std.proofs.Common.{◌≡◌, ℕ, zero, suc, ◌^◌, ◌<◌, ◌≤◌, Bool, true, ℤ, List, [], ◌∷◌, ◌++◌, length, Option, Some, None, Ok, refl, sym, ap, subst, ◌∙◌, append_assoc, arith}
use Rattle.std.specs.List.{AllByRecursion}
use Rattle.json_read.specs.text_spec.Json.{Json}
use Rattle.wire_catalog.specs.fleet_rows.Change.{change_kind, kind_number}
use Rattle.wire_catalog.specs.fleet_rows.declared.catalog.CatalogChange.{CatalogChange}
use Rattle.wire_catalog.specs.fleet_rows.declared.catalog.Edge.{Edge}
use Rattle.wire_catalog.specs.fleet_rows.declared.catalog.Relationship.{Relationship}
use Rattle.wire_catalog.specs.fleet_rows.declared.catalog.Resource.{Resource}
use Rattle.wire_catalog.specs.fleet_rows.declared.change.Change.{Change}
use Rattle.wire_catalog.specs.fleet_rows.declared.change.Change.TheVariants as change
use Rattle.wire_catalog.specs.fleet_rows.declared.change.DeactivateChange.{DeactivateChange}
use Rattle.wire_catalog.specs.fleet_rows.declared.change.ExpirationChange.{ExpirationChange}
use Rattle.wire_catalog.specs.fleet_rows.declared.change.FactsChange.{FactsChange}
use Rattle.wire_catalog.specs.fleet_rows.declared.change.ReportChange.{ReportChange}
use Rattle.wire_catalog.specs.fleet_rows.declared.refusal.Field.TheVariants as field
use Rattle.wire_catalog.specs.wire_spec.Table.{each_from, report_resource, object_in, is_edge, has_name_of}
use Rattle.wire_report.proofs.OrderLaws.{keeps_resource, keeps_object}
use Rattle.record_fields.specs.history_spec.Lawful.{IsText, IsJson, IsList, IsEdge, IsResource, AreDistinctEdges, AreDistinctResources, IsFactsChange, IsCatalogChange, IsReportChange, IsDeactivateChange, IsExpirationChange, IsChange}
use Rattle.record_fields.specs.record_spec.Parts.{bytes_text, bool_text, long_text, moment_text, optional, list_text, json_text}
use Rattle.record_fields.specs.record_spec.Changes.{facts_text, edge_text, resource_text, catalog_text, report_bytes, deactivate_text, expiration_text, change_text}
use Rattle.record_fields.specs.Reading.{read_as, text_at}
use Rattle.record_fields.proofs.Fields.{IsBytes, Takes, IsField, variant_takes}
use Rattle.record_fields.proofs.Joins.{both, as_made, as_tested, respelled}
use Rattle.record_fields.proofs.Parts.{texts, bools}
use Rattle.record_fields.proofs.Moments.{moments}
use Rattle.record_values.specs.Lists.{rise, tags_at}
use Rattle.change_reader.specs.Together.{are_new, is_taken}
use Rattle.change_reader.specs.Changes.{FactsParts, make_facts, facts_at, make_deactivate, deactivate_at, make_expiration, expiration_at, EdgeParts, make_edge, edge_at, ResourceParts, make_resource, resource_at, edges_at, resources_at, catalog_head_at, catalog_marks_at, CatalogParts, make_catalog, catalog_at, report_resources_at, logs_at, metrics_at, report_head_at, report_times_at, report_run_at, ReportParts, make_report, report_at, change_at}
use Rattle.record_values.proofs.Values.{json, members}
use Rattle.record_values.proofs.Lists.{as_list}
use Rattle.record_values.proofs.Singles.{certnames, if_texts, if_wholes, if_moments, if_bools}
use Rattle.change_reader.proofs.Relationships.{relationships}
use Rattle.record_values.proofs.Rising.{rise_takes, rise_again}
use Rattle.change_reader.proofs.Together.{distinct_takes, distinct_again, edges_take, edges_again, resources_take, resources_again, taken_is, is_taken_so}

-- ---- facts, deactivations, expirations

abbrev facts_parts : FactsChange → FactsParts
facts_parts c = (c.certname, (c.environment, (c.values, (c.stamp, c.producer))))

facts : IsField facts_text facts_at IsFactsChange
unfolding facts_at
facts = as_made (both certnames (both if_texts (both (members 126 (omega arith)) (both moments if_texts)))) make_facts facts_parts IsFactsChange (λ x. refl) (λ y. refl)
    (λ x f. record { certname = f.0; environment = f.1.0; values = f.1.1.0; stamp = f.1.1.1.0; producer = f.1.1.1.1 })
    (λ y f. (f.certname, (f.environment, (f.values, (f.stamp, f.producer)))))

deactivations : IsField deactivate_text deactivate_at IsDeactivateChange
unfolding deactivate_at
deactivations = as_made (both certnames moments) make_deactivate (λ c. (c.certname, c.stamp)) IsDeactivateChange (λ x. refl) (λ y. refl)
    (λ x f. record { certname = f.0; stamp = f.1 })
    (λ y f. (f.certname, f.stamp))

expirations : IsField expiration_text expiration_at IsExpirationChange
unfolding expiration_at
expirations = as_made (both certnames (both moments bools)) make_expiration (λ c. (c.certname, (c.stamp, c.expire))) IsExpirationChange (λ x. refl) (λ y. refl)
    (λ x f. record { certname = f.0; stamp = f.1.0 })
    (λ y f. (f.certname, (f.stamp, tt)))

-- ---- edges and resources

abbrev edge_parts : Edge → EdgeParts
edge_parts e = (e.source.rtype, (e.source.title, (e.target.rtype, (e.target.title, e.relationship))))

edges : IsField edge_text edge_at IsEdge
unfolding edge_at
edges = as_made (both texts (both texts (both texts (both texts relationships)))) make_edge edge_parts IsEdge (λ x. refl) (λ y. refl)
    (λ x f. (record { rtype = f.0; title = f.1.0 }, record { rtype = f.1.1.0; title = f.1.1.1.0 }))
    (λ y f. (f.0.rtype, (f.0.title, (f.1.rtype, (f.1.title, tt)))))

pub record AreTags (ts : List (List ℕ)) : Type 0 where
  pub texts : AllByRecursion IsText ts
  pub counted : length ts < 2 ^ 32
  pub rise : rise ts ≡ true

tags : IsField (list_text bytes_text) tags_at AreTags
unfolding tags_at
tags = as_tested (as_list texts) rise AreTags (λ x f t. record { texts = f.0; counted = f.1; rise = t }) (λ x f. (f.texts, f.counted)) (λ x f. f.rise)

abbrev resource_parts : Resource → ResourceParts
resource_parts r = (r.rtype, (r.title, (r.exported, (r.file, (r.line, (r.tags, r.parameters))))))

resources : IsField resource_text resource_at IsResource
unfolding resource_at
resources = as_made (both texts (both texts (both bools (both if_texts (both if_wholes (both tags (members 124 (omega arith)))))))) make_resource resource_parts IsResource (λ x. refl) (λ y. refl)
    (λ x f. record {
      rtype = f.0;
      title = f.1.0;
      file = f.1.1.1.0;
      line = f.1.1.1.1.0;
      tags = f.1.1.1.1.1.0.texts;
      tags_rise = rise_takes _ f.1.1.1.1.1.0.rise;
      tags_counted = f.1.1.1.1.1.0.counted;
      parameters = f.1.1.1.1.1.1;
    })
    (λ y f. (f.rtype, (f.title, (tt, (f.file, (f.line, (record { texts = f.tags; counted = f.tags_counted; rise = rise_again _ f.tags_rise }, f.parameters)))))))

-- ---- catalogs

pub record AreEdges (es : List Edge) : Type 0 where
  pub edges : AllByRecursion IsEdge es
  pub counted : length es < 2 ^ 32
  pub distinct : AreDistinctEdges es

edge_lists : IsField (list_text edge_text) edges_at AreEdges
unfolding edges_at
edge_lists = as_tested (as_list edges) (are_new is_edge []) AreEdges
    (λ x f t. record { edges = f.0; counted = f.1; distinct = edges_take x (distinct_takes is_edge x t) })
    (λ x f. (f.edges, f.counted))
    (λ x f. distinct_again is_edge x (edges_again x f.distinct))

pub record AreResources (rs : List Resource) : Type 0 where
  pub resources : AllByRecursion IsResource rs
  pub counted : length rs < 2 ^ 32
  pub distinct : AreDistinctResources rs

resource_lists : IsField (list_text resource_text) resources_at AreResources
unfolding resources_at
resource_lists = as_tested (as_list resources) (are_new has_name_of []) AreResources
    (λ x f t. record { resources = f.0; counted = f.1; distinct = resources_take x (distinct_takes has_name_of x t) })
    (λ x f. (f.resources, f.counted))
    (λ x f. distinct_again has_name_of x (resources_again x f.distinct))

abbrev catalog_parts : CatalogChange → CatalogParts
catalog_parts c = ((c.certname, (c.version, c.environment)), ((c.transaction_uuid, (c.catalog_uuid, (c.code_id, c.job_id))), (c.stamp, (c.producer, (c.edges, c.resources)))))

three : (a b c rest : List ℕ) → (a ++ (b ++ c)) ++ rest ≡ a ++ (b ++ (c ++ rest))
three a b c rest = append_assoc a (b ++ c) rest ∙ ap (λ (l : List ℕ). a ++ l) (append_assoc b c rest)

four : (a b c d rest : List ℕ) → (a ++ (b ++ (c ++ d))) ++ rest ≡ a ++ (b ++ (c ++ (d ++ rest)))
four a b c d rest = append_assoc a (b ++ (c ++ d)) rest ∙ ap (λ (l : List ℕ). a ++ l) (three b c d rest)

five : (a b c d e rest : List ℕ) → (a ++ (b ++ (c ++ (d ++ e)))) ++ rest ≡ a ++ (b ++ (c ++ (d ++ (e ++ rest))))
five a b c d e rest = append_assoc a (b ++ (c ++ (d ++ e))) rest ∙ ap (λ (l : List ℕ). a ++ l) (four b c d e rest)

catalog_again : (a b c d e f g rest : List ℕ) → (a ++ (b ++ c)) ++ ((d ++ (e ++ (f ++ g))) ++ rest) ≡ a ++ (b ++ (c ++ (d ++ (e ++ (f ++ (g ++ rest))))))
catalog_again a b c d e f g rest = three a b c _ ∙ ap (λ (l : List ℕ). a ++ (b ++ (c ++ l))) (four d e f g rest)

catalogs : IsField catalog_text catalog_at IsCatalogChange
unfolding catalog_at catalog_head_at catalog_marks_at
catalogs =
    respelled
    (as_made (both (both certnames (both texts if_texts)) (both (both if_texts (both if_texts (both if_texts if_texts))) (both moments (both if_texts (both edge_lists resource_lists))))) make_catalog catalog_parts IsCatalogChange (λ x. refl) (λ y. refl)
    (λ x f. record {
      certname = f.0.0;
      version = f.0.1.0;
      environment = f.0.1.1;
      transaction_uuid = f.1.0.0;
      catalog_uuid = f.1.0.1.0;
      code_id = f.1.0.1.1.0;
      job_id = f.1.0.1.1.1;
      stamp = f.1.1.0;
      producer = f.1.1.1.0;
      edges = f.1.1.1.1.0.edges;
      distinct_edges = f.1.1.1.1.0.distinct;
      edges_counted = f.1.1.1.1.0.counted;
      resources = f.1.1.1.1.1.resources;
      distinct_resources = f.1.1.1.1.1.distinct;
      resources_counted = f.1.1.1.1.1.counted;
    })
    (λ y f. (
      (f.certname, (f.version, f.environment)),
      (
        (f.transaction_uuid, (f.catalog_uuid, (f.code_id, f.job_id))),
        (
          f.stamp,
          (
            f.producer,
            (
              record { edges = f.edges; counted = f.edges_counted; distinct = f.distinct_edges },
              record { resources = f.resources; counted = f.resources_counted; distinct = f.distinct_resources },
            ),
          ),
        ),
      ),
    )))
    catalog_text
    (λ c. catalog_again (bytes_text c.certname) (bytes_text c.version) (optional bytes_text c.environment)
    (optional bytes_text c.transaction_uuid) (optional bytes_text c.catalog_uuid) (optional bytes_text c.code_id) (optional bytes_text c.job_id)
    (moment_text c.stamp ++ (optional bytes_text c.producer ++ (list_text edge_text c.edges ++ list_text resource_text c.resources))))

-- ---- reports

pub record IsResourceList (js : List Json) : Type 0 where
  pub list : IsList js
  pub taken : each_from 0 report_resource js ≡ Ok js

resource_items : IsField (list_text json_text) report_resources_at IsResourceList
unfolding report_resources_at
resource_items = as_tested (as_list (json 125 (omega arith))) (λ js. is_taken (each_from 0 report_resource js)) IsResourceList
    (λ x f t. record { list = record { elements = f.0; counted = f.1 }; taken = taken_is report_resource keeps_resource x t })
    (λ x f. (f.list.elements, f.list.counted))
    (λ x f. is_taken_so report_resource x f.taken)

pub record IsLogList (js : List Json) : Type 0 where
  pub list : IsList js
  pub taken : each_from 0 (object_in field.Logs) js ≡ Ok js

log_items : IsField (list_text json_text) logs_at IsLogList
unfolding logs_at
log_items = as_tested (as_list (json 125 (omega arith))) (λ js. is_taken (each_from 0 (object_in field.Logs) js)) IsLogList
    (λ x f t. record { list = record { elements = f.0; counted = f.1 }; taken = taken_is (object_in field.Logs) (keeps_object field.Logs) x t })
    (λ x f. (f.list.elements, f.list.counted))
    (λ x f. is_taken_so (object_in field.Logs) x f.taken)

pub record IsMetricList (js : List Json) : Type 0 where
  pub list : IsList js
  pub taken : each_from 0 (object_in field.Metrics) js ≡ Ok js

metric_items : IsField (list_text json_text) metrics_at IsMetricList
unfolding metrics_at
metric_items = as_tested (as_list (json 125 (omega arith))) (λ js. is_taken (each_from 0 (object_in field.Metrics) js)) IsMetricList
    (λ x f t. record { list = record { elements = f.0; counted = f.1 }; taken = taken_is (object_in field.Metrics) (keeps_object field.Metrics) x t })
    (λ x f. (f.list.elements, f.list.counted))
    (λ x f. is_taken_so (object_in field.Metrics) x f.taken)

abbrev report_parts : ReportChange → ReportParts
report_parts r = (
  (r.certname, (r.environment, (r.puppet_version, (r.report_format, r.configuration_version)))),
  ((r.start_time, (r.end_time, r.stamp)), ((r.producer, (r.noop, (r.status, r.transaction_uuid))), (r.resources, (r.logs, r.metrics)))),
)

report_again : (a b c d e f g h i j k l rest : List ℕ) → (a ++ (b ++ (c ++ (d ++ e)))) ++ ((f ++ (g ++ h)) ++ ((i ++ (j ++ (k ++ l))) ++ rest)) ≡ a ++ (b ++ (c ++ (d ++ (e ++ (f ++ (g ++ (h ++ (i ++ (j ++ (k ++ (l ++ rest)))))))))))
report_again a b c d e f g h i j k l rest =
    five a b c d e _ ∙ ap (λ (x : List ℕ). a ++ (b ++ (c ++ (d ++ (e ++ x))))) (three f g h _ ∙ ap (λ (x : List ℕ). f ++ (g ++ (h ++ x))) (four i j k l rest))

reports : IsField report_bytes report_at IsReportChange
unfolding report_at report_head_at report_times_at report_run_at
reports =
    respelled
    (as_made (both (both certnames (both if_texts (both if_texts (both if_wholes if_texts)))) (both (both if_moments (both if_moments moments)) (both (both if_texts (both if_bools (both if_texts if_texts))) (both resource_items (both log_items metric_items))))) make_report report_parts IsReportChange (λ x. refl) (λ y. refl)
    (λ x f. record {
      certname = f.0.0;
      environment = f.0.1.0;
      puppet_version = f.0.1.1.0;
      report_format = f.0.1.1.1.0;
      configuration_version = f.0.1.1.1.1;
      start_time = f.1.0.0;
      end_time = f.1.0.1.0;
      stamp = f.1.0.1.1;
      producer = f.1.1.0.0;
      status = f.1.1.0.1.1.0;
      transaction_uuid = f.1.1.0.1.1.1;
      resources = f.1.1.1.0.list;
      logs = f.1.1.1.1.0.list;
      metrics = f.1.1.1.1.1.list;
      are_resources = f.1.1.1.0.taken;
      are_logs = f.1.1.1.1.0.taken;
      are_metrics = f.1.1.1.1.1.taken;
    })
    (λ y f. (
      (f.certname, (f.environment, (f.puppet_version, (f.report_format, f.configuration_version)))),
      (
        (f.start_time, (f.end_time, f.stamp)),
        (
          (f.producer, (tt, (f.status, f.transaction_uuid))),
          (
            record { list = f.resources; taken = f.are_resources },
            (record { list = f.logs; taken = f.are_logs }, record { list = f.metrics; taken = f.are_metrics }),
          ),
        ),
      ),
    )))
    report_bytes
    (λ r. report_again (bytes_text r.certname) (optional bytes_text r.environment) (optional bytes_text r.puppet_version) (optional long_text r.report_format) (optional bytes_text r.configuration_version)
    (optional moment_text r.start_time) (optional moment_text r.end_time) (moment_text r.stamp)
    (optional bytes_text r.producer) (optional bool_text r.noop) (optional bytes_text r.status) (optional bytes_text r.transaction_uuid)
    (list_text json_text r.resources ++ (list_text json_text r.logs ++ list_text json_text r.metrics)))

-- ---- a change

change_takes : (bytes : List ℕ) (x : Change) (rest : List ℕ) → IsBytes bytes → change_at bytes ≡ Some (x, rest) → Takes bytes (change_text x) rest × IsChange x
unfolding change_at
change_takes [] x rest are e = absurd cc
change_takes (zero ∷ bytes) x rest are e = variant_takes facts_text facts_at IsFactsChange facts change.Facts change_text IsChange 0 (λ c. refl) (λ c f. f) bytes x rest are e
change_takes (suc zero ∷ bytes) x rest are e = variant_takes catalog_text catalog_at IsCatalogChange catalogs change.Catalog change_text IsChange 1 (λ c. refl) (λ c f. f) bytes x rest are e
change_takes (suc (suc zero) ∷ bytes) x rest are e = variant_takes report_bytes report_at IsReportChange reports change.Report change_text IsChange 2 (λ c. refl) (λ c f. f) bytes x rest are e
change_takes (suc (suc (suc zero)) ∷ bytes) x rest are e = variant_takes deactivate_text deactivate_at IsDeactivateChange deactivations change.Deactivate change_text IsChange 3 (λ c. refl) (λ c f. f) bytes x rest are e
change_takes (suc (suc (suc (suc zero))) ∷ bytes) x rest are e = variant_takes expiration_text expiration_at IsExpirationChange expirations change.Expiration change_text IsChange 4 (λ c. refl) (λ c f. f) bytes x rest are e
change_takes (suc (suc (suc (suc (suc number)))) ∷ bytes) x rest are e = absurd cc

change_again : (x : Change) (rest : List ℕ) → IsChange x → change_at (change_text x ++ rest) ≡ Some (x, rest)
unfolding change_at
change_again (change.Facts c) rest fits = rw (facts.again c rest fits) refl
change_again (change.Catalog c) rest fits = rw (catalogs.again c rest fits) refl
change_again (change.Report c) rest fits = rw (reports.again c rest fits) refl
change_again (change.Deactivate c) rest fits = rw (deactivations.again c rest fits) refl
change_again (change.Expiration c) rest fits = rw (expirations.again c rest fits) refl

pub changes : IsField change_text change_at IsChange
changes = record { takes = change_takes; again = change_again }
