-- The rows of each entity rise by their key.
use Rattle.std.proofs.Common.{◌≡◌, ◌∙◌, ℕ, ℤ, List, [], ◌∷◌, refl, sym, ap, subst, map, true, false, Option, Some, None, inl, inr}
use Rattle.std.specs.Cmp.{IsTotalOrder}
use Rattle.std.specs.List.{flat_map}
use Rattle.std.specs.List.Sorted.{IsStrictlySortedBy}
use Rattle.std.specs.Ordering.{int_cmp, ordering_then}
use Rattle.std.specs.Str.{bytes_eq}
use Rattle.std.specs.declared.cmp.Ordering.{Ordering}
use Rattle.std.specs.declared.cmp.Ordering.TheVariants.{Less, Equal, Greater}
use Rattle.std.proofs.lemmas.Cmp.{on_total, then_total, tied_itself}
use Rattle.std.proofs.lemmas.Slice.Eq.{bytes_eq-Decides}
use Rattle.table_machine.proofs.of_plain_laws.Booleans.{true_both, both_ways}
use Rattle.table_machine.proofs.of_plain_laws.Orderings.{then_equal}
use Rattle.table_machine.specs.text_spec.Compact.{text_cmp, canonical}
use Rattle.table_machine.specs.fleet_rows.Change.{change_certname, change_stamp}
use Rattle.table_machine.specs.fleet_rows.declared.catalog.CatalogChange.{CatalogChange}
use Rattle.table_machine.specs.fleet_rows.declared.catalog.Edge.{Edge}
use Rattle.table_machine.specs.fleet_rows.declared.catalog.Resource.{Resource}
use Rattle.table_machine.specs.fleet_rows.declared.change.Change.{Change}
use Rattle.table_machine.specs.fleet_rows.declared.change.Change.TheVariants.{Facts, Catalog, Report, Deactivate, Expiration}
use Rattle.table_machine.specs.fleet_rows.declared.command.Kind.{Kind}
use Rattle.table_machine.specs.fleet_rows.declared.command.Kind.TheVariants as kind
use Rattle.table_machine.specs.fleet_rows.declared.row.Entity.{Entity}
use Rattle.table_machine.specs.fleet_rows.declared.row.Entity.TheVariants as entity
use Rattle.table_machine.specs.fleet_rows.declared.settings.Ttls.{Ttls}
use Rattle.table_machine.specs.history_spec.Lawful.{AreDistinctResources, AreDistinctEdges, IsChange}
use Rattle.table_machine.specs.wire_spec.Table.{has_name_of, is_edge, relationship_name}
use Rattle.table_machine.specs.history_spec.Facts as facts
use Rattle.table_machine.specs.fleet_rows.declared.applied.Applied.{Applied}
use Rattle.table_machine.specs.history_spec.Trace.{Trace, IsTrace}
use Rattle.table_machine.specs.history_spec.Node.{newest}
use Rattle.table_machine.specs.history_spec.Life.{life, nodes, greatest_expiry, kept_reports}
use Rattle.table_machine.specs.table_spec.Cells.{fact_cells, resource_cells, edge_cells}
use Rattle.table_machine.specs.table_spec.Rows.{Cells, change_of, shown, factset_rows, catalog_rows, resource_rows, edge_rows, report_rows, rows_of, rows}
use Rattle.table_machine.specs.table_spec.Sorted.{sorted_by, resource_cmp, edge_cmp, report_cmp, text_of_report}
use Rattle.table_machine.specs.history_laws.RowLaws as fact_laws
use Rattle.table_machine.proofs.of_plain_laws.Members.{Among, Among-from_flat_map, All-Among}
use Rattle.table_machine.proofs.of_history_laws.FactRows.{rows_are_strictly_sorted}
use Rattle.table_machine.proofs.of_history_laws.NewestIsGreatest.{newest_is_greatest}
use Rattle.table_machine.proofs.of_history_laws.SortedTexts.{text_cmp_total, text_tied}
use Rattle.table_machine.proofs.of_plain_laws.StrictlySorted.{sorted-nil, sorted-cons, sorted-below, sorted-rest, sorted-append, sorted-map}
use Rattle.table_machine.proofs.of_history_laws.Lives.{comes_from}
use Rattle.table_machine.proofs.of_history_laws.TraceLemmas.{nodes_are_strictly_sorted, traces_have_distinct_names}
use Rattle.table_machine.specs.Places.{sorted}
use Rattle.table_machine.specs.Rows.{node_rows}
use Rattle.table_machine.specs.Table.{node_of}
use Rattle.table_machine.proofs.Risen.{sorted-sorted, among-from_sorted}
use Rattle.table_machine.proofs.ReportOrder.{report_cmp_total}
use Rattle.table_machine.proofs.TableLaws.{flat_map-map, kept_among_life}
use Rattle.table_machine.proofs.TableRows.{rows_are_those_of_the_history}
use Rattle.table_laws.specs.RowLaws.{IsReportOf}
use Rattle.table_laws.specs.JoinLaws.{certname_of}
use Rattle.table_laws.specs.SortLaws.{row_cmp, RowsAreStrictlySorted}
use Rattle.table_laws.proofs.FactTables.{facts_are_those_of_the_history}
use Rattle.table_laws.proofs.Hashes.{report_object_is}
use Rattle.table_laws.proofs.RowNodes.{row_of_node, of_report, life_is_lawful}
use Rattle.table_laws.proofs.ShownRows.{report_told}
use Rattle.table_laws.proofs.SortedLists.{Apart, sorted_by-sorted}

-- blocks in order, each of an element of the list
module _ {K J : Type 0} (c : K → K → Ordering) (d : J → J → Ordering) (f : K → List J) where
  pub sorted-blocks : (xs : List K) → IsStrictlySortedBy c xs → ((x : K) → Among x xs → IsStrictlySortedBy d (f x)) → ((x y : K) (i j : J) → Among x xs → Among y xs → c x y ≡ Less → Among i (f x) → Among j (f y) → d i j ≡ Less) → IsStrictlySortedBy d (flat_map f xs)
  sorted-blocks [] s each across = sorted-nil d
  sorted-blocks (x ∷ xs) s each across =
      sorted-append d (f x) (flat_map f xs) (each x (inl refl))
      (sorted-blocks xs (sorted-rest c x xs s) (λ y a. each y (inr a)) (λ y z i j a b. across y z i j (inr a) (inr b)))
      (λ i j a b. let block = Among-from_flat_map f xs j b in across x block.0 i j (inl refl) (inr block.1) (sorted-below c x xs s block.0 block.1) a block.2)

-- ---- orders

parts_tied : (o p : Ordering) → ordering_then o p ≡ Equal → (o ≡ Equal) × (p ≡ Equal)
parts_tied Less p h = cc
parts_tied Equal p h = (refl, h)
parts_tied Greater p h = cc

resource_cmp_total : IsTotalOrder resource_cmp
resource_cmp_total = then_total (on_total (λ (r : Resource). r.rtype) text_cmp_total) (on_total (λ (r : Resource). r.title) text_cmp_total)

edge_cmp_total : IsTotalOrder edge_cmp
edge_cmp_total =
    then_total (on_total (λ (e : Edge). e.source.rtype) text_cmp_total) (then_total (on_total (λ (e : Edge). e.source.title) text_cmp_total)
    (then_total (on_total (λ (e : Edge). e.target.rtype) text_cmp_total) (then_total (on_total (λ (e : Edge). e.target.title) text_cmp_total)
    (on_total (λ (e : Edge). relationship_name e.relationship) text_cmp_total))))

-- ---- resources and edges of one key are one

tied_bytes : (s t : List ℕ) → text_cmp s t ≡ Equal → bytes_eq s t ≡ true
tied_bytes s t h = (bytes_eq-Decides s t).1 (text_tied s t h)

tied_names : (r q : Resource) → resource_cmp r q ≡ Equal → has_name_of r q ≡ true
tied_names r q h =
    let parts = parts_tied (text_cmp r.rtype q.rtype) (text_cmp r.title q.title) h in
    true_both (bytes_eq r.rtype q.rtype) (bytes_eq r.title q.title) (tied_bytes r.rtype q.rtype parts.0) (tied_bytes r.title q.title parts.1)

tied_edges : (e f : Edge) → edge_cmp e f ≡ Equal → is_edge e f ≡ true
tied_edges e f h =
    let a = parts_tied (text_cmp e.source.rtype f.source.rtype) _ h in
    let b = parts_tied (text_cmp e.source.title f.source.title) _ a.1 in
    let c = parts_tied (text_cmp e.target.rtype f.target.rtype) _ b.1 in
    let d = parts_tied (text_cmp e.target.title f.target.title) _ c.1 in
    rw (tied_bytes e.source.rtype f.source.rtype a.0, tied_bytes e.source.title f.source.title b.0, tied_bytes e.target.rtype f.target.rtype c.0, tied_bytes e.target.title f.target.title d.0)
    (tied_bytes (relationship_name e.relationship) (relationship_name f.relationship) d.1)

resources_apart : (rs : List Resource) → AreDistinctResources rs → Apart resource_cmp resource_cmp_total rs
resources_apart [] h = tt
resources_apart (r ∷ rs) h =
    ((λ q a tied. both_ways (has_name_of r q) (tied_names r q tied) (All-Among (λ p. has_name_of r p ≡ false) rs q h.0 a)), resources_apart rs h.1)

edges_apart : (es : List Edge) → AreDistinctEdges es → Apart edge_cmp edge_cmp_total es
edges_apart [] h = tt
edges_apart (e ∷ es) h =
    ((λ f a tied. both_ways (is_edge e f) (tied_edges e f tied) (All-Among (λ g. is_edge e g ≡ false) es f h.0 a)), edges_apart es h.1)

-- ---- the rows of one catalog

resource_below : (c : CatalogChange) (r q : Resource) → resource_cmp r q ≡ Less → row_cmp entity.Resources (resource_cells c r) (resource_cells c q) ≡ Less
resource_below c r q h =
    ap (λ o. ordering_then o (ordering_then (text_cmp r.rtype q.rtype) (ordering_then (text_cmp r.title q.title) Equal))) (tied_itself text_cmp_total c.certname)
    ∙ ap (ordering_then (text_cmp r.rtype q.rtype)) (then_equal (text_cmp r.title q.title)) ∙ h

edge_below : (c : CatalogChange) (e f : Edge) → edge_cmp e f ≡ Less → row_cmp entity.Edges (edge_cells c e) (edge_cells c f) ≡ Less
edge_below c e f h =
    (λ i. ordering_then (tied_itself text_cmp_total c.certname i) (ordering_then (text_cmp e.source.rtype f.source.rtype) (ordering_then (text_cmp e.source.title f.source.title) (ordering_then (text_cmp e.target.rtype f.target.rtype) (ordering_then (text_cmp e.target.title f.target.title) (then_equal (text_cmp (relationship_name e.relationship) (relationship_name f.relationship)) i)))))) ∙ h

resources_rise : (c : CatalogChange) → AreDistinctResources c.resources → IsStrictlySortedBy (row_cmp entity.Resources) (map (resource_cells c) (sorted_by resource_cmp c.resources))
resources_rise c h =
    sorted-map resource_cmp (row_cmp entity.Resources) (resource_cells c) (resource_below c) (sorted_by resource_cmp c.resources)
    (sorted_by-sorted resource_cmp resource_cmp_total c.resources (resources_apart c.resources h))

edges_rise : (c : CatalogChange) → AreDistinctEdges c.edges → IsStrictlySortedBy (row_cmp entity.Edges) (map (edge_cells c) (sorted_by edge_cmp c.edges))
edges_rise c h =
    sorted-map edge_cmp (row_cmp entity.Edges) (edge_cells c) (edge_below c) (sorted_by edge_cmp c.edges)
    (sorted_by-sorted edge_cmp edge_cmp_total c.edges (edges_apart c.edges h))

-- ---- the rows of one command

module _ (d : Cells → Cells → Ordering) where
  alone : (row : Cells) → IsStrictlySortedBy d (row ∷ [])
  alone row = sorted-cons d row [] (λ q a. absurd a) (sorted-nil d)

  factset_rises : (change : Change) → IsStrictlySortedBy d (factset_rows change)
  factset_rises (Facts c) = alone _
  factset_rises (Catalog c) = sorted-nil d
  factset_rises (Report c) = sorted-nil d
  factset_rises (Deactivate c) = sorted-nil d
  factset_rises (Expiration c) = sorted-nil d

  catalog_rises : (change : Change) → IsStrictlySortedBy d (catalog_rows change)
  catalog_rises (Facts c) = sorted-nil d
  catalog_rises (Catalog c) = alone _
  catalog_rises (Report c) = sorted-nil d
  catalog_rises (Deactivate c) = sorted-nil d
  catalog_rises (Expiration c) = sorted-nil d

  report_rises : (received : Option ℤ) (change : Change) → IsStrictlySortedBy d (report_rows received change)
  report_rises received (Facts c) = sorted-nil d
  report_rises received (Catalog c) = sorted-nil d
  report_rises received (Report c) = alone _
  report_rises received (Deactivate c) = sorted-nil d
  report_rises received (Expiration c) = sorted-nil d

resource_rows_rise : (change : Change) → IsChange change → IsStrictlySortedBy (row_cmp entity.Resources) (resource_rows change)
resource_rows_rise (Facts c) h = sorted-nil (row_cmp entity.Resources)
resource_rows_rise (Catalog c) h = resources_rise c h.distinct_resources
resource_rows_rise (Report c) h = sorted-nil (row_cmp entity.Resources)
resource_rows_rise (Deactivate c) h = sorted-nil (row_cmp entity.Resources)
resource_rows_rise (Expiration c) h = sorted-nil (row_cmp entity.Resources)

edge_rows_rise : (change : Change) → IsChange change → IsStrictlySortedBy (row_cmp entity.Edges) (edge_rows change)
edge_rows_rise (Facts c) h = sorted-nil (row_cmp entity.Edges)
edge_rows_rise (Catalog c) h = edges_rise c h.distinct_edges
edge_rows_rise (Report c) h = sorted-nil (row_cmp entity.Edges)
edge_rows_rise (Deactivate c) h = sorted-nil (row_cmp entity.Edges)
edge_rows_rise (Expiration c) h = sorted-nil (row_cmp entity.Edges)

-- ---- the rows of all nodes

first_below : (e : Entity) (i j : Cells) → text_cmp (certname_of e i) (certname_of e j) ≡ Less → row_cmp e i j ≡ Less
first_below entity.Nodes i j h = rw h refl
first_below entity.Factsets i j h = rw h refl
first_below entity.Facts i j h = rw h refl
first_below entity.Catalogs i j h = rw h refl
first_below entity.Resources i j h = rw h refl
first_below entity.Edges i j h = rw h refl
first_below entity.Reports i j h = rw h refl
first_below entity.FactContents i j h = rw h refl
first_below entity.Inventory i j h = rw h refl
first_below entity.Events i j h = rw h refl
first_below entity.EventCounts i j h = rw h refl

module _ (ttls : Ttls) (history : Trace) (trace : IsTrace history) where
  across : (e : Entity) (n m : List ℕ) (i j : Cells) → text_cmp n m ≡ Less → Among i (rows_of e ttls history n) → Among j (rows_of e ttls history m) → row_cmp e i j ≡ Less
  across e n m i j below a b =
      first_below e i j ((λ k. text_cmp (row_of_node ttls history n i e a k) (row_of_node ttls history m j e b k)) ∙ below)

  by_nodes : (e : Entity) → ((n : List ℕ) → IsStrictlySortedBy (row_cmp e) (rows_of e ttls history n)) → IsStrictlySortedBy (row_cmp e) (rows e ttls history)
  by_nodes e each =
      sorted-blocks text_cmp (row_cmp e) (rows_of e ttls history) (nodes ttls history) (nodes_are_strictly_sorted ttls history)
      (λ n a. each n) (λ n m i j a b below. across e n m i j below)

  of_newest : (k : Kind) (d : Cells → Cells → Ordering) (shown_rows : Change → List Cells) → ((change : Change) → IsChange change → IsStrictlySortedBy d (shown_rows change)) →
      (n : List ℕ) (o : Option Applied) → newest k (life ttls n history) ≡ o → IsStrictlySortedBy d (shown shown_rows (change_of o))
  of_newest k d shown_rows each n None e = sorted-nil d
  of_newest k d shown_rows each n (Some x) e =
      each x.change (life_is_lawful ttls n history trace x (newest_is_greatest k (life ttls n history) x e).among)

  facts_rise : IsStrictlySortedBy (row_cmp entity.Facts) (rows entity.Facts ttls history)
  facts_rise =
      subst (IsStrictlySortedBy (row_cmp entity.Facts)) (sym (facts_are_those_of_the_history ttls history))
      (sorted-map fact_laws.row_cmp (row_cmp entity.Facts) fact_cells
      (λ f g below. ap (ordering_then (text_cmp f.certname g.certname)) (then_equal (text_cmp f.name g.name)) ∙ below)
      (facts.fact_rows ttls history) (rows_are_strictly_sorted ttls history (traces_have_distinct_names history trace)).0)

  -- ---- reports

  report_below : (t u : Option ℤ) (a b : Change) (i j : Cells) → change_certname a ≡ change_certname b → ordering_then (int_cmp (change_stamp a) (change_stamp b)) (text_cmp (text_of_report a) (text_of_report b)) ≡ Less → IsReportOf t a i → IsReportOf u b j → row_cmp entity.Reports i j ≡ Less
  report_below t u (Report r) (Report q) i j same below e f =
      (λ k. row_cmp entity.Reports (e k) (f k))
      ∙ (λ k. ordering_then (ordering_then (text_cmp (same k) q.certname) Equal) (ordering_then (int_cmp r.stamp q.stamp) (text_cmp (canonical (sym (report_object_is t r) k)) (canonical (sym (report_object_is u q) k)))))
      ∙ ap (λ o. ordering_then (ordering_then o Equal) (ordering_then (int_cmp r.stamp q.stamp) (text_cmp (text_of_report (Report r)) (text_of_report (Report q))))) (tied_itself text_cmp_total q.certname)
      ∙ below
  report_below t u (Report r) (Facts d) i j same below e f = absurd f
  report_below t u (Report r) (Catalog d) i j same below e f = absurd f
  report_below t u (Report r) (Deactivate d) i j same below e f = absurd f
  report_below t u (Report r) (Expiration d) i j same below e f = absurd f
  report_below t u (Facts c) b i j same below e f = absurd e
  report_below t u (Catalog c) b i j same below e f = absurd e
  report_below t u (Deactivate c) b i j same below e f = absurd e
  report_below t u (Expiration c) b i j same below e f = absurd e

  abbrev pub of_report_rows : Applied → List Cells
  of_report_rows x = report_rows x.received x.change

  abbrev pub in_order : List ℕ → List Applied
  in_order n = sorted report_cmp (kept_reports ttls n history)

  kept_certname : (n : List ℕ) (x : Applied) → Among x (in_order n) → n ≡ change_certname x.change
  kept_certname n x a = (comes_from ttls n history x (kept_among_life ttls history n x (among-from_sorted report_cmp report_cmp_total x (kept_reports ttls n history) a))).certname

  reports_of_node_rise : (n : List ℕ) → IsStrictlySortedBy (row_cmp entity.Reports) (flat_map of_report_rows (in_order n))
  reports_of_node_rise n =
      sorted-blocks report_cmp (row_cmp entity.Reports) of_report_rows (in_order n) (sorted-sorted report_cmp report_cmp_total (kept_reports ttls n history))
      (λ x a. report_rises (row_cmp entity.Reports) x.received x.change)
      (λ x y i j a b below u v. report_below x.received y.received x.change y.change i j (sym (kept_certname n x a) ∙ kept_certname n y b) below (report_told x.received x.change i u) (report_told y.received y.change j v))

  report_certname : (n : List ℕ) (row : Cells) → Among row (flat_map of_report_rows (in_order n)) → certname_of entity.Reports row ≡ n
  report_certname n row a =
      let report = Among-from_flat_map of_report_rows (in_order n) row a in
      of_report report.0.received report.0.change row (report_told report.0.received report.0.change row report.2) ∙ sym (kept_certname n report.0 report.1)

  reports_rise : IsStrictlySortedBy (row_cmp entity.Reports) (flat_map (λ n. flat_map of_report_rows (in_order n)) (nodes ttls history))
  reports_rise =
      sorted-blocks text_cmp (row_cmp entity.Reports) (λ n. flat_map of_report_rows (in_order n)) (nodes ttls history) (nodes_are_strictly_sorted ttls history)
      (λ n a. reports_of_node_rise n)
      (λ n m i j a b below u v. first_below entity.Reports i j ((λ k. text_cmp (report_certname n i u k) (report_certname m j v k)) ∙ below))

  pub report_rows_are : flat_map (λ n. flat_map of_report_rows (in_order n)) (nodes ttls history) ≡ rows entity.Reports ttls history
  report_rows_are =
      flat_map-map (node_rows entity.Reports ttls (greatest_expiry history)) (node_of ttls history) (nodes ttls history)
      ∙ rows_are_those_of_the_history entity.Reports ttls history trace

  rise : (e : Entity) → IsStrictlySortedBy (row_cmp e) (rows e ttls history)
  rise entity.Nodes = by_nodes entity.Nodes (λ n. alone (row_cmp entity.Nodes) _)
  rise entity.Factsets = by_nodes entity.Factsets (λ n. of_newest kind.Facts (row_cmp entity.Factsets) factset_rows (λ change h. factset_rises (row_cmp entity.Factsets) change) n (newest kind.Facts (life ttls n history)) refl)
  rise entity.Facts = facts_rise
  rise entity.Catalogs = by_nodes entity.Catalogs (λ n. of_newest kind.Catalog (row_cmp entity.Catalogs) catalog_rows (λ change h. catalog_rises (row_cmp entity.Catalogs) change) n (newest kind.Catalog (life ttls n history)) refl)
  rise entity.Resources = by_nodes entity.Resources (λ n. of_newest kind.Catalog (row_cmp entity.Resources) resource_rows resource_rows_rise n (newest kind.Catalog (life ttls n history)) refl)
  rise entity.Edges = by_nodes entity.Edges (λ n. of_newest kind.Catalog (row_cmp entity.Edges) edge_rows edge_rows_rise n (newest kind.Catalog (life ttls n history)) refl)
  rise entity.Reports = subst (IsStrictlySortedBy (row_cmp entity.Reports)) report_rows_are reports_rise
  rise e = by_nodes e (λ n. sorted-nil (row_cmp e))

pub rows_are_sorted : RowsAreStrictlySorted
rows_are_sorted e ttls history trace = rise ttls history trace e
