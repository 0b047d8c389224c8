-- How many rows there are is what the tables count.
use Rattle.std.proofs.Common.{◌≡◌, ◌∙◌, ℕ, suc, ℤ, ◌+◌, List, [], ◌∷◌, length, map, Bool, true, false, if◌then◌else◌, Option, Some, None, refl, sym, ap, arith, length-append, add-zero}
use Rattle.std.specs.List.{flat_map, AllByRecursion, slice_get}
use Rattle.std.specs.Option.{option_map}
use Rattle.std.specs.Ordering.{is_gt}
use Rattle.std.specs.declared.cmp.Ordering.{Ordering}
use Rattle.std.proofs.lemmas.List.{length-map}
use Rattle.checkpoint_spec.specs.text_spec.Compact.{text_cmp, insert_member}
use Rattle.checkpoint_spec.specs.text_spec.Json.{Json, Members, no_members, member, members_list}
use Rattle.checkpoint_spec.specs.fleet_rows.declared.catalog.CatalogChange.{CatalogChange}
use Rattle.checkpoint_spec.specs.fleet_rows.declared.catalog.Edge.{Edge}
use Rattle.checkpoint_spec.specs.fleet_rows.declared.catalog.Resource.{Resource}
use Rattle.checkpoint_spec.specs.fleet_rows.declared.change.Change.TheVariants as change
use Rattle.checkpoint_spec.specs.fleet_rows.declared.change.FactsChange.{FactsChange}
use Rattle.checkpoint_spec.specs.fleet_rows.declared.row.Entity.{Entity}
use Rattle.checkpoint_spec.specs.fleet_rows.declared.row.Entity.TheVariants.{Nodes, Factsets, Facts, Catalogs, Resources, Edges, Reports}
use Rattle.checkpoint_spec.specs.fleet_rows.declared.settings.Ttls.{Ttls}
use Rattle.checkpoint_spec.specs.history_spec.Facts.{by_name, rows_of_facts}
use Rattle.checkpoint_spec.specs.fleet_rows.declared.applied.Applied.{Applied}
use Rattle.checkpoint_spec.specs.table_machine.Table as machine
use Rattle.checkpoint_spec.specs.table_spec.Cells.{fact_cells, resource_cells, edge_cells}
use Rattle.checkpoint_spec.specs.table_spec.Rows.{shown, change_of, factset_rows, fact_rows, catalog_rows, resource_rows, edge_rows, report_rows}
use Rattle.checkpoint_spec.specs.table_spec.Sorted.{insert_by, sorted_by, resource_cmp, edge_cmp}
use Rattle.kept_nodes.specs.Counted.{none, plus, counts, count_of, total_from, with_facts, with_catalog}
use Rattle.kept_nodes.specs.Kept.{IsFactOrder, IsResourceOrder, IsEdgeOrder, IsNode}
use Rattle.checkpoint_spec.specs.table_machine.Rows.{node_rows}
use Rattle.kept_nodes.specs.Seen.{node_seen, facts_seen, catalog_seen, report_seen}
use Rattle.kept_nodes.specs.declared.counts.Counts.{Counts}
use Rattle.kept_nodes.specs.declared.kept.Factset.{Factset}
use Rattle.kept_nodes.specs.declared.kept.NodeCatalog.{NodeCatalog}
use Rattle.kept_nodes.specs.declared.kept.Report.{Report}
use Rattle.kept_nodes.specs.declared.node.Node.{Node}
use Rattle.kept_nodes.proofs.Counting.{count-plus}

-- ---- what is sorted is as long as it was, and so is its order

inserted_length : {X : Type 0} (cmp : X → X → Ordering) (x : X) (ys : List X) → length (insert_by cmp x ys) ≡ suc (length ys)
inserted_length cmp x [] = refl
inserted_length {X} cmp x (y ∷ ys) = by (is_gt (cmp x y)) (inserted_length cmp x ys)
  where
    by : (b : Bool) → length (insert_by cmp x ys) ≡ suc (length ys) → length (if b then y ∷ insert_by cmp x ys else x ∷ y ∷ ys) ≡ suc (suc (length ys))
    by true h = ap suc h
    by false h = refl

sorted_length : {X : Type 0} (cmp : X → X → Ordering) (xs : List X) → length (sorted_by cmp xs) ≡ length xs
sorted_length cmp [] = refl
sorted_length cmp (x ∷ xs) = inserted_length cmp x (sorted_by cmp xs) ∙ ap suc (sorted_length cmp xs)

member_more : (k : List ℕ) (j : Json) (ms : Members) → length (members_list (insert_member k j ms)) ≡ suc (length (members_list ms))
member_more k j no_members = refl
member_more k j (member l i ms) = by (is_gt (text_cmp k l)) (member_more k j ms)
  where
    by : (b : Bool) → length (members_list (insert_member k j ms)) ≡ suc (length (members_list ms))
        → length (members_list (if b then member l i (insert_member k j ms) else member k j (member l i ms))) ≡ suc (suc (length (members_list ms)))
    by true h = ap suc h
    by false h = refl

by_name_length : (ms : List (List ℕ × Json)) → length (members_list (by_name ms)) ≡ length ms
by_name_length [] = refl
by_name_length (m ∷ ms) = member_more m.0 m.1 (by_name ms) ∙ ap suc (by_name_length ms)

order_length : {X : Type 0} (xs : List X) (order : List ℕ) (sorted : List X) → map (slice_get xs) order ≡ map Some sorted → length order ≡ length sorted
order_length xs order sorted e = sym (length-map order (slice_get xs)) ∙ ap length e ∙ length-map sorted Some

pub fact_order_length : (order : List ℕ) (c : FactsChange) → IsFactOrder order c → length order ≡ length c.values
fact_order_length order c h = order_length c.values order (members_list (by_name c.values)) h ∙ by_name_length c.values

pub resource_order_length : (order : List ℕ) (resources : List Resource) → IsResourceOrder order resources → length order ≡ length resources
resource_order_length order resources h = order_length resources order (sorted_by resource_cmp resources) h ∙ sorted_length resource_cmp resources

pub edge_order_length : (order : List ℕ) (edges : List Edge) → IsEdgeOrder order edges → length order ≡ length edges
edge_order_length order edges h = order_length edges order (sorted_by edge_cmp edges) h ∙ sorted_length edge_cmp edges

-- ---- how many rows a change has

pub facts_length : (c : FactsChange) → length c.values ≡ length (fact_rows (change.Facts c))
facts_length c =
    let members = members_list (by_name c.values) in
    sym (by_name_length c.values)
    ∙ sym (length-map members (λ m. record { certname = c.certname; environment = c.environment; name = m.0; value = m.1 }))
    ∙ sym (length-map (rows_of_facts c) fact_cells)

pub resources_length : (c : CatalogChange) → length c.resources ≡ length (resource_rows (change.Catalog c))
resources_length c = sym (sorted_length resource_cmp c.resources) ∙ sym (length-map (sorted_by resource_cmp c.resources) (resource_cells c))

pub edges_length : (c : CatalogChange) → length c.edges ≡ length (edge_rows (change.Catalog c))
edges_length c = sym (sorted_length edge_cmp c.edges) ∙ sym (length-map (sorted_by edge_cmp c.edges) (edge_cells c))

reports_length : (reports : List Report) → length reports ≡ length (flat_map (λ (x : Applied). report_rows x.received x.change) (map report_seen reports))
reports_length [] = refl
reports_length (r ∷ rs) = omega (arith, reports_length rs)

-- ---- the rows of one node

factsets_count : (facts : Option Factset) (c : Counts) → c.factsets ≡ 0 → (with_facts facts c).factsets ≡ length (shown factset_rows (change_of (option_map facts_seen facts)))
factsets_count None c e = e
factsets_count (Some kept) c e = refl

facts_count : (facts : Option Factset) (c : Counts) → c.facts ≡ 0 → (with_facts facts c).facts ≡ length (shown fact_rows (change_of (option_map facts_seen facts)))
facts_count None c e = e
facts_count (Some kept) c e = facts_length kept.change

catalogs_count : (catalog : Option NodeCatalog) (c : Counts) → c.catalogs ≡ 0 → (with_catalog catalog c).catalogs ≡ length (shown catalog_rows (change_of (option_map catalog_seen catalog)))
catalogs_count None c e = e
catalogs_count (Some kept) c e = refl

resources_count : (catalog : Option NodeCatalog) (c : Counts) → c.resources ≡ 0 → (with_catalog catalog c).resources ≡ length (shown resource_rows (change_of (option_map catalog_seen catalog)))
resources_count None c e = e
resources_count (Some kept) c e = resources_length kept.change

edges_count : (catalog : Option NodeCatalog) (c : Counts) → c.edges ≡ 0 → (with_catalog catalog c).edges ≡ length (shown edge_rows (change_of (option_map catalog_seen catalog)))
edges_count None c e = e
edges_count (Some kept) c e = edges_length kept.change

-- facts say nothing of the other numbers, and neither does a catalog
record KeepsCatalog (c d : Counts) : Type 0 where
  catalogs : c.catalogs ≡ d.catalogs
  resources : c.resources ≡ d.resources
  edges : c.edges ≡ d.edges
  reports : c.reports ≡ d.reports
  nodes : c.nodes ≡ d.nodes

facts_keep : (facts : Option Factset) (c : Counts) → KeepsCatalog (with_facts facts c) c
facts_keep None c = record { catalogs = refl; resources = refl; edges = refl; reports = refl; nodes = refl }
facts_keep (Some kept) c = record { catalogs = refl; resources = refl; edges = refl; reports = refl; nodes = refl }

record KeepsFacts (c d : Counts) : Type 0 where
  factsets : c.factsets ≡ d.factsets
  facts : c.facts ≡ d.facts
  reports : c.reports ≡ d.reports
  nodes : c.nodes ≡ d.nodes

catalog_keeps : (catalog : Option NodeCatalog) (c : Counts) → KeepsFacts (with_catalog catalog c) c
catalog_keeps None c = record { factsets = refl; facts = refl; reports = refl; nodes = refl }
catalog_keeps (Some kept) c = record { factsets = refl; facts = refl; reports = refl; nodes = refl }

module _ (ttls : Ttls) (expiry : Option ℤ) where
  pub node_count : (entity : Entity) (node : Node) → IsNode node → count_of entity (counts node) ≡ length (node_rows entity ttls expiry (node_seen node))
  node_count Nodes node h =
      let rest : Counts = record none { reports = length node.reports.items; nodes = 1 } in
      (facts_keep node.facts (with_catalog node.catalog rest)).nodes ∙ (catalog_keeps node.catalog rest).nodes
  node_count Factsets node h =
      let rest : Counts = record none { reports = length node.reports.items; nodes = 1 } in
      factsets_count node.facts (with_catalog node.catalog rest) (catalog_keeps node.catalog rest).factsets
  node_count Facts node h =
      let rest : Counts = record none { reports = length node.reports.items; nodes = 1 } in
      facts_count node.facts (with_catalog node.catalog rest) (catalog_keeps node.catalog rest).facts
  node_count Catalogs node h =
      let rest : Counts = record none { reports = length node.reports.items; nodes = 1 } in
      (facts_keep node.facts (with_catalog node.catalog rest)).catalogs ∙ catalogs_count node.catalog rest refl
  node_count Resources node h =
      let rest : Counts = record none { reports = length node.reports.items; nodes = 1 } in
      (facts_keep node.facts (with_catalog node.catalog rest)).resources ∙ resources_count node.catalog rest refl
  node_count Edges node h =
      let rest : Counts = record none { reports = length node.reports.items; nodes = 1 } in
      (facts_keep node.facts (with_catalog node.catalog rest)).edges ∙ edges_count node.catalog rest refl
  node_count Reports node h =
      let rest : Counts = record none { reports = length node.reports.items; nodes = 1 } in
      (facts_keep node.facts (with_catalog node.catalog rest)).reports ∙ (catalog_keeps node.catalog rest).reports ∙ reports_length node.reports.items
  node_count _ node h = refl

  -- ---- all rows

  pub total_count : (entity : Entity) (before : Counts) (nodes : List Node) → AllByRecursion IsNode nodes
      → count_of entity (total_from before nodes) ≡ count_of entity before + length (flat_map (node_rows entity ttls expiry) (map node_seen nodes))
  total_count entity before [] h = sym (add-zero (count_of entity before))
  total_count entity before (n ∷ ns) h =
      omega (
        arith,
        total_count entity (plus before (counts n)) ns h.1,
        count-plus entity before (counts n),
        node_count entity n h.0,
        length-append (node_rows entity ttls expiry (node_seen n)) (flat_map (node_rows entity ttls expiry) (map node_seen ns)),
      )

  pub count_none : (entity : Entity) → count_of entity none ≡ 0
  count_none Nodes = refl
  count_none Factsets = refl
  count_none Facts = refl
  count_none Catalogs = refl
  count_none Resources = refl
  count_none Edges = refl
  count_none Reports = refl
  count_none _ = refl

  pub total_is : (entity : Entity) (nodes : List Node) → AllByRecursion IsNode nodes
      → count_of entity (total_from none nodes) ≡ length (flat_map (node_rows entity ttls expiry) (map node_seen nodes))
  total_is entity nodes h = omega (arith, total_count entity none nodes h, count_none entity)

  -- each node has one row of its own
  pub nodes_count : (nodes : List machine.Node) → length nodes ≡ length (flat_map (node_rows Nodes ttls expiry) nodes)
  nodes_count [] = refl
  nodes_count (n ∷ ns) = omega (arith, nodes_count ns)

-- how many rows there are depends on no lifetime
pub same_number : (entity : Entity) (ttls other : Ttls) (expiry moment : Option ℤ) (nodes : List machine.Node) → length (flat_map (node_rows entity ttls expiry) nodes) ≡ length (flat_map (node_rows entity other moment) nodes)
same_number Nodes ttls other expiry moment nodes = sym (nodes_count ttls expiry nodes) ∙ nodes_count other moment nodes
same_number Factsets ttls other expiry moment nodes = refl
same_number Facts ttls other expiry moment nodes = refl
same_number Catalogs ttls other expiry moment nodes = refl
same_number Resources ttls other expiry moment nodes = refl
same_number Edges ttls other expiry moment nodes = refl
same_number Reports ttls other expiry moment nodes = refl
same_number _ ttls other expiry moment nodes = refl
