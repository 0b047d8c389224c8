-- The rows of one node: each shows the node's certname, and those that are sought stand together.
use Rattle.std.proofs.Common.{◌≡◌, ◌∙◌, ℕ, ℤ, ◌+◌, List, [], ◌∷◌, map, Bool, true, false, Option, Some, None, IfSome, refl, sym, ap, subst, arith}
use Rattle.std.specs.Prelude.{◌&&◌, codes}
use Rattle.std.specs.Cmp.{IsTotalOrder}
use Rattle.std.specs.List.{AllByRecursion, flat_map}
use Rattle.std.specs.Ordering.{ordering_then, is_eq, is_gt}
use Rattle.std.specs.declared.cmp.Ordering.{Ordering}
use Rattle.std.specs.declared.cmp.Ordering.TheVariants.{Less, Equal, Greater}
use Rattle.std.proofs.lemmas.Cmp.{on_total, then_total, nat_list_cmp_total, tied_itself}
use Rattle.std.proofs.lemmas.List.{length-map}
use Rattle.std.proofs.lemmas.Map.Text.{is_eq-slice_cmp}
use Rattle.checkpoint_spec.proofs.of_history_laws.SortedTexts.{text_cmp_total}
use Rattle.checkpoint_spec.proofs.of_plain_laws.Members.{all_both, all_mapped}
use Rattle.checkpoint_spec.specs.fleet_rows.Change.{change_certname}
use Rattle.checkpoint_spec.specs.fleet_rows.declared.applied.Applied.{Applied}
use Rattle.checkpoint_spec.specs.fleet_rows.declared.catalog.CatalogChange.{CatalogChange}
use Rattle.checkpoint_spec.specs.fleet_rows.declared.catalog.Resource.{Resource}
use Rattle.checkpoint_spec.specs.fleet_rows.declared.change.Change.{Change}
use Rattle.checkpoint_spec.specs.fleet_rows.declared.change.Change.TheVariants as change
use Rattle.checkpoint_spec.specs.fleet_rows.declared.change.FactsChange.{FactsChange}
use Rattle.checkpoint_spec.specs.fleet_rows.declared.row.Entity.{Entity}
use Rattle.checkpoint_spec.specs.fleet_rows.declared.row.Entity.TheVariants.{Nodes, Factsets, Facts, Catalogs, Resources, Edges, Reports}
use Rattle.checkpoint_spec.specs.fleet_rows.declared.settings.Ttls.{Ttls}
use Rattle.checkpoint_spec.specs.history_spec.Facts.{FactRow, by_name, rows_of_facts}
use Rattle.checkpoint_spec.specs.table_machine.Rows.{node_rows}
use Rattle.checkpoint_spec.specs.table_machine.Table.{Node}
use Rattle.checkpoint_spec.specs.table_spec.Cells.{text_cell, fact_cells, resource_cells, edge_cells}
use Rattle.checkpoint_spec.specs.table_spec.Columns.{columns}
use Rattle.checkpoint_spec.specs.table_spec.Named.{cell_under, text_equals}
use Rattle.checkpoint_spec.specs.table_spec.Rows.{Cells, change_of, shown, factset_rows, fact_rows, catalog_rows, resource_rows, edge_rows, report_rows}
use Rattle.checkpoint_spec.specs.table_spec.Sorted.{sorted_by, resource_cmp, edge_cmp}
use Rattle.checkpoint_spec.specs.text_spec.Compact.{text_cmp}
use Rattle.checkpoint_spec.specs.text_spec.Json.{Json, members_list}
use Rattle.row_cells.proofs.CmpLaws.{name_total, resource_total}
use Rattle.row_cells.proofs.SortedLaws.{sorted-by_name}
use Rattle.row_cells.specs.Placed.{name_cmp}
use Rattle.kept_nodes.specs.Owned.{IsOf, IsOwn}
use Rattle.kept_nodes.specs.Runs.{number, is_before, name_rank, resource_rank}
use Rattle.kept_nodes.specs.Spans.{IsSpanOf}
use Rattle.kept_nodes.specs.Wanted.{WantedTexts, has_name, has_own, has_resource, is_of_node}
use Rattle.kept_nodes.specs.declared.wanted.Span.{Span}
use Rattle.kept_nodes.proofs.PlaceLaws.{NonePass, all_same, mapped_places, same_places}
use Rattle.kept_nodes.proofs.RunLaws.{NotBelow, number_sorted, ranked_sorted, ranks_rise, run_span}

-- ---- the certname in each row

abbrev pub IsNamed : Entity → List ℕ → Cells → Type 0
IsNamed entity certname row = cell_under (columns entity) (codes "certname") row ≡ text_cell certname

module _ (certname : List ℕ) where
  abbrev Named : Entity → List Cells → Type 0
  Named entity rows = AllByRecursion (IsNamed entity certname) rows

  shown_named : (entity : Entity) (rows : Change → List Cells) → ((c : Change) → change_certname c ≡ certname → Named entity (rows c)) → (o : Option Applied) → IfSome o (IsOf certname)
      → Named entity (shown rows (change_of o))
  shown_named entity rows each None h = tt
  shown_named entity rows each (Some x) h = each x.change h

  factset_named : (c : Change) → change_certname c ≡ certname → Named Factsets (factset_rows c)
  factset_named (change.Facts c) e = (ap text_cell e, tt)
  factset_named (change.Catalog c) e = tt
  factset_named (change.Report c) e = tt
  factset_named (change.Deactivate c) e = tt
  factset_named (change.Expiration c) e = tt

  each_fact : (c : FactsChange) (ms : List (List ℕ × Json)) → c.certname ≡ certname
      → Named Facts (map fact_cells (map (λ m. record { certname = c.certname; environment = c.environment; name = m.0; value = m.1 }) ms))
  each_fact c [] e = tt
  each_fact c (m ∷ ms) e = (ap text_cell e, each_fact c ms e)

  fact_named : (c : Change) → change_certname c ≡ certname → Named Facts (fact_rows c)
  fact_named (change.Facts c) e = each_fact c (members_list (by_name c.values)) e
  fact_named (change.Catalog c) e = tt
  fact_named (change.Report c) e = tt
  fact_named (change.Deactivate c) e = tt
  fact_named (change.Expiration c) e = tt

  catalog_named : (c : Change) → change_certname c ≡ certname → Named Catalogs (catalog_rows c)
  catalog_named (change.Facts c) e = tt
  catalog_named (change.Catalog c) e = (ap text_cell e, tt)
  catalog_named (change.Report c) e = tt
  catalog_named (change.Deactivate c) e = tt
  catalog_named (change.Expiration c) e = tt

  resource_named : (c : Change) → change_certname c ≡ certname → Named Resources (resource_rows c)
  resource_named (change.Facts c) e = tt
  resource_named (change.Catalog c) e = all_mapped (IsNamed Resources certname) (resource_cells c) (sorted_by resource_cmp c.resources) (λ r. ap text_cell e)
  resource_named (change.Report c) e = tt
  resource_named (change.Deactivate c) e = tt
  resource_named (change.Expiration c) e = tt

  edge_named : (c : Change) → change_certname c ≡ certname → Named Edges (edge_rows c)
  edge_named (change.Facts c) e = tt
  edge_named (change.Catalog c) e = all_mapped (IsNamed Edges certname) (edge_cells c) (sorted_by edge_cmp c.edges) (λ r. ap text_cell e)
  edge_named (change.Report c) e = tt
  edge_named (change.Deactivate c) e = tt
  edge_named (change.Expiration c) e = tt

  report_named : (received : Option ℤ) (c : Change) → change_certname c ≡ certname → Named Reports (report_rows received c)
  report_named received (change.Facts c) e = tt
  report_named received (change.Catalog c) e = tt
  report_named received (change.Report c) e = (ap text_cell e, tt)
  report_named received (change.Deactivate c) e = tt
  report_named received (change.Expiration c) e = tt

  reports_named : (xs : List Applied) → AllByRecursion (IsOf certname) xs → Named Reports (flat_map (λ (x : Applied). report_rows x.received x.change) xs)
  reports_named [] h = tt
  reports_named (x ∷ xs) h =
      all_both (IsNamed Reports certname) (report_rows x.received x.change) (flat_map (λ (y : Applied). report_rows y.received y.change) xs) (report_named x.received x.change h.0) (reports_named xs h.1)

pub rows_named : (ttls : Ttls) (expiry : Option ℤ) (entity : Entity) (node : Node) → IsOwn node → AllByRecursion (IsNamed entity node.certname) (node_rows entity ttls expiry node)
rows_named ttls expiry Nodes node own = (refl, tt)
rows_named ttls expiry Factsets node own = shown_named node.certname Factsets factset_rows (factset_named node.certname) node.facts own.0
rows_named ttls expiry Facts node own = shown_named node.certname Facts fact_rows (fact_named node.certname) node.facts own.0
rows_named ttls expiry Catalogs node own = shown_named node.certname Catalogs catalog_rows (catalog_named node.certname) node.catalog own.1
rows_named ttls expiry Resources node own = shown_named node.certname Resources resource_rows (resource_named node.certname) node.catalog own.1
rows_named ttls expiry Edges node own = shown_named node.certname Edges edge_rows (edge_named node.certname) node.catalog own.1
rows_named ttls expiry Reports node own = reports_named node.certname node.reports own.2
rows_named ttls expiry _ node own = tt

-- ---- the rows of the sought node, and of others

text_rank : (s t : List ℕ) → text_equals s (text_cell t) ≡ is_eq (text_cmp t s)
text_rank s t = sym (is_eq-slice_cmp t s)

module _ (entity : Entity) (certname : List ℕ) (texts : WantedTexts) where
  named_alone : (rows : List Cells) → AllByRecursion (IsNamed entity certname) rows → AllByRecursion (λ row. is_of_node entity certname texts row ≡ has_own entity texts row) rows
  named_alone [] h = tt
  named_alone (row ∷ rows) h =
      let same : is_eq (text_cmp certname certname) ≡ true = ap is_eq (tied_itself text_cmp_total certname) in
      (ap (λ b. b && has_own entity texts row) (ap (text_equals certname) h.0 ∙ text_rank certname certname ∙ same), named_alone rows h.1)

  -- where the node's rows are those that are sought by their own columns
  pub own_span : (rows : List Cells) (span : Span) → AllByRecursion (IsNamed entity certname) rows → IsSpanOf (has_own entity texts) rows span → IsSpanOf (is_of_node entity certname texts) rows span
  own_span rows span h s = (λ k. same_places (is_of_node entity certname texts) (has_own entity texts) k rows (named_alone rows h) ∙ s.0 k, s.1)

  -- no row of another node is sought
  others_fail : (name : List ℕ) (rows : List Cells) → is_eq (text_cmp name certname) ≡ false → AllByRecursion (IsNamed entity name) rows → NonePass (is_of_node entity certname texts) rows
  others_fail name [] e h = tt
  others_fail name (row ∷ rows) e h =
      (ap (λ b. b && has_own entity texts row) (ap (text_equals certname) h.0 ∙ text_rank certname name ∙ e), others_fail name rows e h.1)

  pub nodes_fail : (ttls : Ttls) (expiry : Option ℤ) (nodes : List Node) → AllByRecursion IsOwn nodes → AllByRecursion (λ (n : Node). is_eq (text_cmp n.certname certname) ≡ false) nodes
      → NonePass (is_of_node entity certname texts) (flat_map (node_rows entity ttls expiry) nodes)
  nodes_fail ttls expiry [] own h = tt
  nodes_fail ttls expiry (n ∷ ns) own h =
      all_both (λ row. is_of_node entity certname texts row ≡ false) (node_rows entity ttls expiry n) (flat_map (node_rows entity ttls expiry) ns)
      (others_fail n.certname (node_rows entity ttls expiry n) h.0 (rows_named ttls expiry entity n own.0)) (nodes_fail ttls expiry ns own.1 h.1)

-- ---- rows that are sought by their own columns

span_mapped : {A B : Type 0} (f : A → B) (test : B → Bool) (p : A → Bool) (xs : List A) (span : Span) → ((x : A) → test (f x) ≡ p x) → IsSpanOf p xs span → IsSpanOf test (map f xs) span
span_mapped f test p xs span same h = (
  λ k. mapped_places f test k xs ∙ same_places (λ x. test (f x)) p k xs (all_same (λ x. test (f x)) p xs same) ∙ h.0 k,
  omega (arith, h.1, length-map xs f),
)

pub fact_span : (c : FactsChange) (name : List ℕ) (span : Span) → span.from ≡ number (λ m. is_before false (name_rank name m)) c.values
    → span.from + span.count ≡ number (λ m. is_before true (name_rank name m)) c.values → IsSpanOf (has_name (Some name)) (fact_rows (change.Facts c)) span
fact_span c name span from to =
    let rank : List ℕ × Json → Ordering = name_rank name in
    let sorted = sorted_by name_cmp c.values in
    let run : IsSpanOf (λ m. is_eq (rank m)) sorted span =
    run_span rank sorted span (ranked_sorted rank name_cmp name_total (λ m n h. ranks_rise text_cmp text_cmp_total name m.0 n.0 h) c.values)
    (from ∙ sym (number_sorted (λ m. is_before false (rank m)) name_cmp c.values)) (to ∙ sym (number_sorted (λ m. is_before true (rank m)) name_cmp c.values)) in
    let fact_of : List ℕ × Json → FactRow = λ m. record { certname = c.certname; environment = c.environment; name = m.0; value = m.1 } in
    let test = has_name (Some name) in
    let members : IsSpanOf (λ m. is_eq (rank m)) (members_list (by_name c.values)) span = subst (λ l. IsSpanOf (λ m. is_eq (rank m)) l span) (sorted-by_name c.values) run in
    span_mapped fact_cells test (λ f. test (fact_cells f)) (rows_of_facts c) span (λ f. refl)
    (span_mapped fact_of (λ f. test (fact_cells f)) (λ m. is_eq (rank m)) (members_list (by_name c.values)) span (λ m. text_rank name m.0) members)

-- ---- resources

abbrev Pair : Type 0
Pair = List ℕ × List ℕ

abbrev pair_cmp : Pair → Pair → Ordering
pair_cmp p q = ordering_then (text_cmp p.0 q.0) (text_cmp p.1 q.1)

pair_total : IsTotalOrder pair_cmp
pair_total = then_total (on_total (λ (p : Pair). p.0) nat_list_cmp_total) (on_total (λ (p : Pair). p.1) nat_list_cmp_total)

first_not_greater : (p q : Ordering) → is_gt (ordering_then p q) ≡ false → is_gt p ≡ false
first_not_greater Less q h = refl
first_not_greater Equal q h = refl
first_not_greater Greater q h = cc

pub resource_rises : (rtype : List ℕ) (title : Option (List ℕ)) (r q : Resource) → is_gt (resource_cmp r q) ≡ false → NotBelow (resource_rank rtype title r) (resource_rank rtype title q)
resource_rises rtype None r q h = ranks_rise text_cmp text_cmp_total rtype r.rtype q.rtype (first_not_greater (text_cmp r.rtype q.rtype) (text_cmp r.title q.title) h)
resource_rises rtype (Some title) r q h = ranks_rise pair_cmp pair_total (rtype, title) (r.rtype, r.title) (q.rtype, q.title) h

and_true : (b : Bool) → (b && true) ≡ b
and_true true = refl
and_true false = refl

both_equal : (p q : Ordering) → (is_eq p && is_eq q) ≡ is_eq (ordering_then p q)
both_equal Less q = refl
both_equal Equal q = refl
both_equal Greater q = refl

resource_test : (c : CatalogChange) (rtype : List ℕ) (title : Option (List ℕ)) (r : Resource)
    → has_resource (Some rtype) title (resource_cells c r) ≡ is_eq (resource_rank rtype title r)
resource_test c rtype None r = and_true (text_equals rtype (text_cell r.rtype)) ∙ text_rank rtype r.rtype
resource_test c rtype (Some title) r = (λ i. text_rank rtype r.rtype i && text_rank title r.title i) ∙ both_equal (text_cmp r.rtype rtype) (text_cmp r.title title)

pub resource_span : (c : CatalogChange) (rtype : List ℕ) (title : Option (List ℕ)) (span : Span) → span.from ≡ number (λ r. is_before false (resource_rank rtype title r)) c.resources
    → span.from + span.count ≡ number (λ r. is_before true (resource_rank rtype title r)) c.resources
    → IsSpanOf (has_resource (Some rtype) title) (resource_rows (change.Catalog c)) span
resource_span c rtype title span from to =
    let rank : Resource → Ordering = resource_rank rtype title in
    let sorted = sorted_by resource_cmp c.resources in
    let run : IsSpanOf (λ r. is_eq (rank r)) sorted span =
    run_span rank sorted span (ranked_sorted rank resource_cmp resource_total (resource_rises rtype title) c.resources)
    (from ∙ sym (number_sorted (λ r. is_before false (rank r)) resource_cmp c.resources)) (to ∙ sym (number_sorted (λ r. is_before true (rank r)) resource_cmp c.resources)) in
    span_mapped (resource_cells c) (has_resource (Some rtype) title) (λ r. is_eq (rank r)) sorted span (resource_test c rtype title) run

-- ---- rows of other entities

pub each_own : (entity : Entity) (texts : WantedTexts) → (entity ≡ Facts → ⊥) → (entity ≡ Resources → ⊥) → (rows : List Cells) → AllByRecursion (λ row. has_own entity texts row ≡ true) rows
each_own entity texts f r [] = tt
each_own entity texts f r (row ∷ rows) = (plain entity texts row f r, each_own entity texts f r rows)
  where
    plain : (e : Entity) (s : WantedTexts) (row : Cells) → (e ≡ Facts → ⊥) → (e ≡ Resources → ⊥) → has_own e s row ≡ true
    plain Facts s row f r = absurd (f refl)
    plain Resources s row f r = absurd (r refl)
    plain _ s row f r = refl

pub all_pass : {A : Type 0} (xs : List A) → AllByRecursion (λ x. true ≡ true) xs
all_pass [] = tt
all_pass (x ∷ xs) = (refl, all_pass xs)
