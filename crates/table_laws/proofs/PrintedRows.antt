-- The rows of a trace are printed as a JSON text that spells them.
use Rattle.std.proofs.Common.{◌≡◌, ◌∙◌, ℕ, suc, ◌≤◌, ℤ, List, [], ◌∷◌, map, not, arith, refl, sym, ap, subst, true, false, Option, Some, None, codes, inl, inr}
use Rattle.std.specs.List.{AllByRecursion, filter, flat_map}
use Rattle.std.specs.Str.{IsUtf8}
use Rattle.table_machine.specs.text_spec.Json.{Json, string, array, object, items_of, levels, members_levels, members_list, members_of}
use Rattle.table_machine.specs.text_spec.JsonText.{SpellsWithin}
use Rattle.table_machine.specs.json_machine.Values.{IsValue, AreMemberValues}
use Rattle.table_machine.specs.fleet_rows.Cell.{plain}
use Rattle.table_machine.specs.fleet_rows.Change.{change_certname, change_stamp}
use Rattle.table_machine.specs.fleet_rows.declared.catalog.CatalogChange.{CatalogChange}
use Rattle.table_machine.specs.fleet_rows.declared.catalog.Edge.{Edge}
use Rattle.table_machine.specs.fleet_rows.declared.catalog.Relationship.{Relationship}
use Rattle.table_machine.specs.fleet_rows.declared.catalog.Relationship.TheVariants as relationship
use Rattle.table_machine.specs.fleet_rows.declared.catalog.Resource.{Resource}
use Rattle.table_machine.specs.fleet_rows.declared.change.Change.{Change}
use Rattle.table_machine.specs.fleet_rows.declared.change.Change.TheVariants.{Facts, Catalog, Report, Deactivate, Expiration}
use Rattle.table_machine.specs.fleet_rows.declared.change.ReportChange.{ReportChange}
use Rattle.table_machine.specs.fleet_rows.declared.command.Kind.{Kind}
use Rattle.table_machine.specs.fleet_rows.declared.command.Kind.TheVariants as kind
use Rattle.table_machine.specs.fleet_rows.declared.row.Entity.{Entity}
use Rattle.table_machine.specs.fleet_rows.declared.row.Entity.TheVariants as entity
use Rattle.table_machine.specs.fleet_rows.declared.settings.Ttls.{Ttls}
use Rattle.table_machine.specs.fleet_rows.declared.applied.Applied.{Applied}
use Rattle.table_machine.specs.wire_spec.Table.{relationship_name}
use Rattle.table_machine.specs.history_spec.Facts.{rows_of_facts, by_name}
use Rattle.table_machine.specs.history_spec.Lawful.{IsChange, IsJson, IsResource, IsEdge}
use Rattle.table_machine.specs.history_spec.Life.{life, nodes, is_empty, is_inactive, kept_reports}
use Rattle.table_machine.specs.history_spec.Node.{newest}
use Rattle.table_machine.specs.history_spec.Report.{text_or_null, bool_or_null, report_object}
use Rattle.table_machine.specs.history_spec.Trace.{Trace, IsTrace}
use Rattle.table_machine.proofs.of_history_laws.FactNames.{Among-from_by_name}
use Rattle.table_machine.proofs.of_history_laws.Lives.{comes_from}
use Rattle.table_machine.proofs.of_plain_laws.Members.{Among, Among-from_filter, Among-from_flat_map, Among-from_map, All-Among, All-from_Among, Among-from_Contains}
use Rattle.table_machine.proofs.of_history_laws.NewestIsGreatest.{newest_is_greatest}
use Rattle.table_machine.specs.table_spec.Cells.{hash, fact_cells, factset_object, resource_object, catalog_object, resource_cells, edge_cells}
use Rattle.table_machine.specs.table_spec.Rows.{Cells, change_of, shown, environment_cell, timestamp_cell, report_cell, factset_rows, fact_rows, catalog_rows, resource_rows, edge_rows, report_rows, rows_of, rows, active_rows}
use Rattle.table_machine.specs.table_spec.RowsText.{row_object, rows_text}
use Rattle.table_machine.specs.table_spec.Sorted.{sorted_by, report_cmp}
use Rattle.table_machine.proofs.CommandSteps.{is_alive}
use Rattle.table_machine.proofs.ReportColumns.{key}
use Rattle.table_machine.proofs.TableLaws.{kept_among_life}
use Rattle.table_laws.specs.PrintLaws.{printed_levels, SpellsTheRows, PrintedRowsAreJson}
use Rattle.table_laws.specs.RowLaws.{IsResourceOf, IsEdgeOf}
use Rattle.table_laws.proofs.PrintedCells.{IsPrintable, IsPrintableRow, printed_text, printed_optional, printed_stamp, printed_moment, printed_hash, printed_bool, printed_number, printed_json, printed_list, printed_tags, printed_rows}
use Rattle.table_laws.proofs.RowNodes.{life_is_lawful}
use Rattle.table_laws.proofs.ShownRows.{resource_told, edge_told}
use Rattle.table_laws.proofs.SortedLists.{among-from_sorted_by}

-- ---- the rows of one change

module _ (row : Cells) where
  of_factset : (change : Change) → IsChange change → Among row (factset_rows change) → IsPrintableRow 126 row
  of_factset (Facts c) h (inl same) = subst (IsPrintableRow 126) (sym same) (
    printed_text 126 c.certname h.certname.1.utf8,
    (
      printed_optional 126 c.environment h.environment,
      (
        printed_json 126 126 (object (members_of c.values)) (omega arith) h.values,
        (
          printed_hash 126 (factset_object c),
          (
            printed_optional 126 c.producer h.producer,
            (printed_stamp 126 c.stamp, tt),
          ),
        ),
      ),
    ),
  )
  of_factset (Facts c) h (inr a) = absurd a
  of_factset (Catalog c) h a = absurd a
  of_factset (Report c) h a = absurd a
  of_factset (Deactivate c) h a = absurd a
  of_factset (Expiration c) h a = absurd a

  -- a name and a value under it
  abbrev IsPair : List ℕ × Json → Type 0
  IsPair m = IsUtf8 m.0 × IsValue m.1 × (levels m.1 ≤ 125)

  pairs : (ms : List (List ℕ × Json)) → AreMemberValues (members_of ms) → members_levels (members_of ms) ≤ 125 → AllByRecursion IsPair ms
  pairs [] v l = tt
  pairs (m ∷ ms) v l = ((v.0, v.1, omega (arith, l)), pairs ms v.2 (omega (arith, l)))

  pairs_of : (ms : List (List ℕ × Json)) → IsJson 126 (object (members_of ms)) → AllByRecursion IsPair ms
  pairs_of ms h = pairs ms h.value.0 (let few = h.levels in omega (arith, few))

  of_fact : (change : Change) → IsChange change → Among row (fact_rows change) → IsPrintableRow 125 row
  of_fact (Facts c) h a =
      let cells = Among-from_map fact_cells (rows_of_facts c) row a in
      let fact = Among-from_map _ (members_list (by_name c.values)) cells.0 cells.1 in
      let pair : IsPair fact.0 = All-Among IsPair c.values fact.0 (pairs_of c.values h.values) (Among-from_by_name fact.0 c.values fact.1) in
      subst (IsPrintableRow 125) (sym (cells.2 ∙ ap fact_cells fact.2))
      (printed_text 125 c.certname h.certname.1.utf8, (printed_optional 125 c.environment h.environment, (printed_text 125 fact.0.0 pair.0, ((pair.1, pair.2), tt))))
  of_fact (Catalog c) h a = absurd a
  of_fact (Report c) h a = absurd a
  of_fact (Deactivate c) h a = absurd a
  of_fact (Expiration c) h a = absurd a

  of_catalog : (change : Change) → IsChange change → Among row (catalog_rows change) → IsPrintableRow 125 row
  of_catalog (Facts c) h a = absurd a
  of_catalog (Catalog c) h (inl same) = subst (IsPrintableRow 125) (sym same) (
    printed_optional 125 c.catalog_uuid h.catalog_uuid,
    (
      printed_text 125 c.certname h.certname.1.utf8,
      (
        printed_optional 125 c.code_id h.code_id,
        (
          printed_optional 125 c.environment h.environment,
          (
            printed_hash 125 (catalog_object c),
            (
              printed_optional 125 c.job_id h.job_id,
              (
                printed_optional 125 c.producer h.producer,
                (
                  printed_stamp 125 c.stamp,
                  (
                    printed_optional 125 c.transaction_uuid h.transaction_uuid,
                    (printed_text 125 c.version h.version.utf8, tt),
                  ),
                ),
              ),
            ),
          ),
        ),
      ),
    ),
  )
  of_catalog (Catalog c) h (inr a) = absurd a
  of_catalog (Report c) h a = absurd a
  of_catalog (Deactivate c) h a = absurd a
  of_catalog (Expiration c) h a = absurd a

  one_resource : (c : CatalogChange) → IsChange (Catalog c) → (r : Resource) → IsResource r → IsPrintableRow 125 (resource_cells c r)
  one_resource c h r k = (
    printed_text 125 c.certname h.certname.1.utf8,
    (
      printed_optional 125 c.environment h.environment,
      (
        printed_bool 125 (Some r.exported),
        (
          printed_optional 125 r.file k.file,
          (
            printed_number 125 r.line k.line,
            (
              printed_json 125 124 (object (members_of r.parameters)) (omega arith) k.parameters,
              (
                printed_hash 125 (resource_object r),
                (
                  printed_tags 125 r.tags (omega arith) k.tags,
                  (
                    printed_text 125 r.title k.title.utf8,
                    (printed_text 125 r.rtype k.rtype.utf8, tt),
                  ),
                ),
              ),
            ),
          ),
        ),
      ),
    ),
  )

  resource_told_of : (change : Change) → IsChange change → IsResourceOf change row → IsPrintableRow 125 row
  resource_told_of (Facts c) h a = absurd a
  resource_told_of (Catalog c) h a =
      subst (IsPrintableRow 125) (sym a.2) (one_resource c h a.0 (All-Among IsResource c.resources a.0 h.resources (Among-from_Contains c.resources a.0 a.1)))
  resource_told_of (Report c) h a = absurd a
  resource_told_of (Deactivate c) h a = absurd a
  resource_told_of (Expiration c) h a = absurd a

  of_resource : (change : Change) → IsChange change → Among row (resource_rows change) → IsPrintableRow 125 row
  of_resource change h a = resource_told_of change h (resource_told change row a)

  relationship_is_utf8 : (r : Relationship) → IsUtf8 (relationship_name r)
  relationship_is_utf8 relationship.Contains = key (codes "contains") refl
  relationship_is_utf8 relationship.Before = key (codes "before") refl
  relationship_is_utf8 relationship.RequiredBy = key (codes "required-by") refl
  relationship_is_utf8 relationship.Notifies = key (codes "notifies") refl
  relationship_is_utf8 relationship.SubscriptionOf = key (codes "subscription-of") refl

  one_edge : (c : CatalogChange) → IsChange (Catalog c) → (e : Edge) → IsEdge e → IsPrintableRow 125 (edge_cells c e)
  one_edge c h e k = (
    printed_text 125 c.certname h.certname.1.utf8,
    (
      printed_text 125 (relationship_name e.relationship) (relationship_is_utf8 e.relationship),
      (
        printed_text 125 e.source.title k.0.title.utf8,
        (
          printed_text 125 e.source.rtype k.0.rtype.utf8,
          (
            printed_text 125 e.target.title k.1.title.utf8,
            (printed_text 125 e.target.rtype k.1.rtype.utf8, tt),
          ),
        ),
      ),
    ),
  )

  edge_told_of : (change : Change) → IsChange change → IsEdgeOf change row → IsPrintableRow 125 row
  edge_told_of (Facts c) h a = absurd a
  edge_told_of (Catalog c) h a =
      subst (IsPrintableRow 125) (sym a.2) (one_edge c h a.0 (All-Among IsEdge c.edges a.0 h.edges (Among-from_Contains c.edges a.0 a.1)))
  edge_told_of (Report c) h a = absurd a
  edge_told_of (Deactivate c) h a = absurd a
  edge_told_of (Expiration c) h a = absurd a

  of_edge : (change : Change) → IsChange change → Among row (edge_rows change) → IsPrintableRow 125 row
  of_edge change h a = edge_told_of change h (edge_told change row a)

  of_report_row : (received : Option ℤ) (change : Change) → IsChange change → Among row (report_rows received change) → IsPrintableRow 126 row
  of_report_row received (Facts c) h a = absurd a
  of_report_row received (Catalog c) h a = absurd a
  of_report_row received (Report r) h (inl same) = subst (IsPrintableRow 126) (sym same) (
    printed_text 126 r.certname h.certname.1.utf8,
    (
      printed_optional 126 r.configuration_version h.configuration_version,
      (
        printed_moment 126 r.end_time,
        (
          printed_optional 126 r.environment h.environment,
          (
            printed_hash 126 (report_object r),
            (
              printed_list 126 r.logs (omega arith) h.logs,
              (
                printed_list 126 r.metrics (omega arith) h.metrics,
                (
                  printed_bool 126 r.noop,
                  (
                    printed_optional 126 r.producer h.producer,
                    (
                      printed_stamp 126 r.stamp,
                      (
                        printed_optional 126 r.puppet_version h.puppet_version,
                        (
                          printed_moment 126 received,
                          (
                            printed_number 126 r.report_format h.report_format,
                            (
                              printed_list 126 r.resources (omega arith) h.resources,
                              (
                                printed_moment 126 r.start_time,
                                (
                                  printed_optional 126 r.status h.status,
                                  (printed_optional 126 r.transaction_uuid h.transaction_uuid, tt),
                                ),
                              ),
                            ),
                          ),
                        ),
                      ),
                    ),
                  ),
                ),
              ),
            ),
          ),
        ),
      ),
    ),
  )
  of_report_row received (Report r) h (inr a) = absurd a
  of_report_row received (Deactivate c) h a = absurd a
  of_report_row received (Expiration c) h a = absurd a

-- ---- the row of a node

abbrev IfChange : Option Change → Type 0
IfChange None = Unit {0}
IfChange (Some c) = IsChange c

certname_is_utf8 : (change : Change) → IsChange change → IsUtf8 (change_certname change)
certname_is_utf8 (Facts c) h = h.certname.1.utf8
certname_is_utf8 (Catalog c) h = h.certname.1.utf8
certname_is_utf8 (Report c) h = h.certname.1.utf8
certname_is_utf8 (Deactivate c) h = h.certname.1.utf8
certname_is_utf8 (Expiration c) h = h.certname.1.utf8

environment_printed : (o : Option Change) → IfChange o → IsPrintable 125 (environment_cell o)
environment_printed None h = (tt, omega arith)
environment_printed (Some (Facts c)) h = printed_optional 125 c.environment h.environment
environment_printed (Some (Catalog c)) h = printed_optional 125 c.environment h.environment
environment_printed (Some (Report c)) h = printed_optional 125 c.environment h.environment
environment_printed (Some (Deactivate c)) h = (tt, omega arith)
environment_printed (Some (Expiration c)) h = (tt, omega arith)

timestamp_printed : (o : Option Change) → IsPrintable 125 (timestamp_cell o)
timestamp_printed None = (tt, omega arith)
timestamp_printed (Some c) = printed_stamp 125 (change_stamp c)

report_printed : (column : ReportChange → Json) → ((r : ReportChange) → IsChange (Report r) → IsPrintable 125 (plain (column r))) → (o : Option Change) → IfChange o → IsPrintable 125 (report_cell column o)
report_printed column each None h = (tt, omega arith)
report_printed column each (Some (Facts c)) h = (tt, omega arith)
report_printed column each (Some (Catalog c)) h = (tt, omega arith)
report_printed column each (Some (Report c)) h = each c h
report_printed column each (Some (Deactivate c)) h = (tt, omega arith)
report_printed column each (Some (Expiration c)) h = (tt, omega arith)

-- ---- the rows of a node

abbrev most : Entity → ℕ
most entity.Factsets = 126
most entity.Reports = 126
most entity.Inventory = 126
most _ = 125

module _ (ttls : Ttls) (history : Trace) (trace : IsTrace history) where
  module _ (n : List ℕ) where
    life_lawful : (x : Applied) → Among x (life ttls n history) → IsChange x.change
    life_lawful x a = life_is_lawful ttls n history trace x a

    kept_lawful : (x : Applied) → Among x (kept_reports ttls n history) → IsChange x.change
    kept_lawful x a = life_lawful x (kept_among_life ttls history n x a)

    newest_lawful : (k : Kind) (xs : List Applied) → ((x : Applied) → Among x xs → IsChange x.change) → (o : Option Applied) → newest k xs ≡ o → IfChange (change_of o)
    newest_lawful k xs each None e = tt
    newest_lawful k xs each (Some x) e = each x (newest_is_greatest k xs x e).among

    name_of_life : (xs : List Applied) → ((x : Applied) → Among x xs → Among x (life ttls n history)) → not (is_empty xs) ≡ true → IsUtf8 n
    name_of_life [] each alive = absurd (let apart : false ≡ true = alive in cc)
    name_of_life (x ∷ xs) each alive =
        let a = each x (inl refl) in
        subst IsUtf8 (sym (comes_from ttls n history x a).certname) (certname_is_utf8 x.change (life_lawful x a))

    node_printed : Among n (nodes ttls history) → (row : Cells) → Among row (rows_of entity.Nodes ttls history n) → IsPrintableRow 125 row
    node_printed a row (inl same) =
        let xs = life ttls n history in
        let kept = kept_reports ttls n history in
        let facts = newest_lawful kind.Facts xs life_lawful (newest kind.Facts xs) refl in
        let catalog = newest_lawful kind.Catalog xs life_lawful (newest kind.Catalog xs) refl in
        let report = newest_lawful kind.Report kept kept_lawful (newest kind.Report kept) refl in
        let shows = change_of (newest kind.Report kept) in
        subst (IsPrintableRow 125) (sym same) (
          environment_printed (change_of (newest kind.Catalog xs)) catalog,
          (
            timestamp_printed (change_of (newest kind.Catalog xs)),
            (
              printed_text 125 n (name_of_life xs (λ x b. b) (is_alive ttls history n a)),
              (
                printed_moment 125 _,
                (
                  printed_moment 125 _,
                  (
                    environment_printed (change_of (newest kind.Facts xs)) facts,
                    (
                      timestamp_printed (change_of (newest kind.Facts xs)),
                      (
                        report_printed (λ r. string (hash (report_object r))) (λ r h. printed_hash 125 (report_object r)) shows report,
                        (
                          report_printed (λ r. bool_or_null r.noop) (λ r h. printed_bool 125 r.noop) shows report,
                          (
                            report_printed (λ r. text_or_null r.status) (λ r h. printed_optional 125 r.status h.status) shows report,
                            (
                              environment_printed shows report,
                              (timestamp_printed shows, tt),
                            ),
                          ),
                        ),
                      ),
                    ),
                  ),
                ),
              ),
            ),
          ),
        )
    node_printed a row (inr b) = absurd b

    shown_printed : (count : ℕ) (shown_rows : Change → List Cells) (row : Cells) → ((change : Change) → IsChange change → Among row (shown_rows change) → IsPrintableRow count row) → (o : Option Change) → IfChange o → Among row (shown shown_rows o) → IsPrintableRow count row
    shown_printed count shown_rows row each None h a = absurd a
    shown_printed count shown_rows row each (Some c) h a = each c h a

    newest_printed : (count : ℕ) (k : Kind) (shown_rows : Change → List Cells) (row : Cells) → ((change : Change) → IsChange change → Among row (shown_rows change) → IsPrintableRow count row) → Among row (shown shown_rows (change_of (newest k (life ttls n history)))) → IsPrintableRow count row
    newest_printed count k shown_rows row each a =
        shown_printed count shown_rows row each (change_of (newest k (life ttls n history))) (newest_lawful k (life ttls n history) life_lawful (newest k (life ttls n history)) refl) a

    report_row_printed : (row : Cells) → Among row (rows_of entity.Reports ttls history n) → IsPrintableRow 126 row
    report_row_printed row a =
        let report = Among-from_flat_map (λ (x : Applied). report_rows x.received x.change) (sorted_by report_cmp (kept_reports ttls n history)) row a in
        of_report_row row report.0.received report.0.change (kept_lawful report.0 (among-from_sorted_by report_cmp report.0 (kept_reports ttls n history) report.1)) report.2

    each_printed : (e : Entity) → Among n (nodes ttls history) → (row : Cells) → Among row (rows_of e ttls history n) → IsPrintableRow (most e) row
    each_printed entity.Nodes b row a = node_printed b row a
    each_printed entity.Factsets b row a = newest_printed 126 kind.Facts factset_rows row (of_factset row) a
    each_printed entity.Facts b row a = newest_printed 125 kind.Facts fact_rows row (of_fact row) a
    each_printed entity.Catalogs b row a = newest_printed 125 kind.Catalog catalog_rows row (of_catalog row) a
    each_printed entity.Resources b row a = newest_printed 125 kind.Catalog resource_rows row (of_resource row) a
    each_printed entity.Edges b row a = newest_printed 125 kind.Catalog edge_rows row (of_edge row) a
    each_printed entity.Reports b row a = report_row_printed row a
    each_printed _ b row a = absurd a

  all_printed : (e : Entity) (ns : List (List ℕ)) → ((n : List ℕ) → Among n ns → Among n (nodes ttls history)) → AllByRecursion (IsPrintableRow (most e)) (flat_map (rows_of e ttls history) ns)
  all_printed e ns sub =
      All-from_Among (IsPrintableRow (most e)) (flat_map (rows_of e ttls history) ns)
      (λ row a. let block = Among-from_flat_map (rows_of e ttls history) ns row a in each_printed block.0 e (sub block.0 block.1) row block.2)

levels_are : (e : Entity) → suc (suc (most e)) ≡ printed_levels e
levels_are entity.Nodes = refl
levels_are entity.Factsets = refl
levels_are entity.Facts = refl
levels_are entity.Catalogs = refl
levels_are entity.Resources = refl
levels_are entity.Edges = refl
levels_are entity.Reports = refl
levels_are entity.FactContents = refl
levels_are entity.Inventory = refl
levels_are entity.Events = refl
levels_are entity.EventCounts = refl

spelt : (e : Entity) (rs : List Cells) → AllByRecursion (IsPrintableRow (most e)) rs → SpellsTheRows e rs
spelt e rs h = subst (λ n. SpellsWithin n (rows_text e rs) (array (items_of (map (row_object e) rs)))) (levels_are e) (printed_rows e (most e) rs h)

pub printed_rows_are_json : PrintedRowsAreJson
printed_rows_are_json e ttls history trace = (
  spelt e (rows e ttls history) (all_printed ttls history trace e (nodes ttls history) (λ n a. a)),
  spelt e (active_rows e ttls history) (all_printed ttls history trace e (filter (λ n. not (is_inactive ttls history n)) (nodes ttls history)) (λ n a. (Among-from_filter (λ m. not (is_inactive ttls history m)) (nodes ttls history) n a).0)),
)
