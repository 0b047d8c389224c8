-- How many rows a step leaves at most.
use Rattle.std.proofs.Common.{◌≡◌, ◌∙◌, ℕ, ℤ, ◌+◌, ◌≤◌, List, [], ◌∷◌, ◌++◌, length, map, Bool, true, false, ◌&&◌, cond, if◌then◌else◌, Option, Some, None, refl, sym, ap, subst, arith, length-append}
use Rattle.std.specs.Prelude.{nat_lt}
use Rattle.std.specs.List.{AllByRecursion, flat_map, filter, list_any}
use Rattle.std.specs.Ordering.{match_ordering, is_lt}
use Rattle.std.specs.declared.cmp.Ordering.{Ordering}
use Rattle.std.specs.declared.cmp.Ordering.TheVariants.{Less, Equal, Greater}
use Rattle.checkpoint_spec.specs.fleet_rows.Rank.{rank_cmp}
use Rattle.checkpoint_spec.specs.fleet_rows.Change.{change_certname}
use Rattle.checkpoint_spec.specs.fleet_rows.declared.change.Change.{Change}
use Rattle.checkpoint_spec.specs.fleet_rows.declared.change.Change.TheVariants.{Facts as FactsOf, Catalog as CatalogOf, Report as ReportOf, Deactivate as DeactivateOf, Expiration as ExpirationOf}
use Rattle.checkpoint_spec.specs.fleet_rows.declared.command.Kind.{Kind}
use Rattle.checkpoint_spec.specs.fleet_rows.declared.command.Kind.TheVariants as kind
use Rattle.checkpoint_spec.specs.fleet_rows.declared.row.Entity.{Entity}
use Rattle.checkpoint_spec.specs.fleet_rows.declared.row.Entity.TheVariants.{Nodes, Factsets, Facts, Catalogs, Resources, Edges, Reports}
use Rattle.checkpoint_spec.specs.fleet_rows.declared.settings.Ttls.{Ttls}
use Rattle.checkpoint_spec.specs.history_spec.Node.{greater}
use Rattle.checkpoint_spec.specs.history_spec.Report.{is_retained, is_below}
use Rattle.checkpoint_spec.specs.fleet_rows.declared.applied.Applied.{Applied}
use Rattle.checkpoint_spec.specs.history_spec.Trace.{is_kind, rank_of}
use Rattle.checkpoint_spec.specs.table_machine.Places.{put}
use Rattle.checkpoint_spec.specs.table_machine.Table as machine
use Rattle.checkpoint_spec.specs.table_machine.Table.{Table}
use Rattle.checkpoint_spec.specs.table_spec.Sorted.{report_cmp}
use Rattle.checkpoint_spec.specs.table_machine.Steps.{empty_node, of_greater_rank, put_report, without_least, limited, with_newest, with_report, with_applied, with_retained, stands, apply}
use Rattle.checkpoint_spec.specs.table_spec.Rows.{Cells, change_of, shown, factset_rows, fact_rows, catalog_rows, resource_rows, edge_rows, report_rows}
use Rattle.kept_nodes.specs.Counted.{none, plus, count_of, total_from, IsWithin, limit}
use Rattle.kept_nodes.specs.Kept.{IsNode}
use Rattle.fleet_tables.specs.Rooms.{Fits}
use Rattle.checkpoint_spec.specs.table_machine.Rows.{node_rows, table_rows}
use Rattle.kept_nodes.specs.Seen.{node_seen}
use Rattle.kept_nodes.specs.declared.counts.Counts.{Counts}
use Rattle.kept_nodes.specs.declared.node.Node.{Node}
use Rattle.fleet_tables.specs.Groups.{AreFew, AreCountsOf}
use Rattle.checkpoint_spec.specs.fleet_rows.Defaults.{default_ttls}
use Rattle.std.proofs.lemmas.Grind.{flat_map-append}
use Rattle.kept_nodes.proofs.Counting.{count-plus}
use Rattle.kept_nodes.proofs.RowCounts.{nodes_count, same_number, total_is}

-- ---- lists of rows

module _ {K : Type 0} (f : K → List Cells) where
  no_rows : ((y : K) → f y ≡ []) → (ys : List K) → flat_map f ys ≡ []
  no_rows none [] = refl
  no_rows none (y ∷ ys) = ap (λ xs. xs ++ flat_map f ys) (none y) ∙ no_rows none ys

  module _ (n : ℕ) (place : K → Ordering) (new : K) (change : K → K) (first : length (f new) ≤ n) (each : (y : K) → length (f (change y)) ≤ length (f y) + n) where
    put_step : (p : Ordering) (y : K) (ys : List K) → length (flat_map f (put place new change ys)) ≤ length (flat_map f ys) + n →
        length (flat_map f (match_ordering p (new ∷ y ∷ ys) (change y ∷ ys) (y ∷ put place new change ys))) ≤ length (flat_map f (y ∷ ys)) + n
    put_step Less y ys h = omega (arith, first, length-append (f new) (f y ++ flat_map f ys))
    put_step Equal y ys h = omega (arith, each y, length-append (f (change y)) (flat_map f ys), length-append (f y) (flat_map f ys))
    put_step Greater y ys h = omega (arith, h, length-append (f y) (flat_map f (put place new change ys)), length-append (f y) (flat_map f ys))

    pub put_bound : (ys : List K) → length (flat_map f (put place new change ys)) ≤ length (flat_map f ys) + n
    put_bound [] = omega (arith, first, length-append (f new) [])
    put_bound (y ∷ ys) = put_step (place y) y ys (put_bound ys)

  filter_step : (b : Bool) (p : K → Bool) (y : K) (ys : List K) → length (flat_map f (filter p ys)) ≤ length (flat_map f ys) → length (flat_map f (cond b (y ∷ filter p ys) (filter p ys))) ≤ length (flat_map f (y ∷ ys))
  filter_step true p y ys h = omega (arith, h, length-append (f y) (flat_map f (filter p ys)), length-append (f y) (flat_map f ys))
  filter_step false p y ys h = omega (arith, h, length-append (f y) (flat_map f ys))

  pub filter_bound : (p : K → Bool) (ys : List K) → length (flat_map f (filter p ys)) ≤ length (flat_map f ys)
  filter_bound p [] = omega arith
  filter_bound p (y ∷ ys) = filter_step (p y) p y ys (filter_bound p ys)

  pub map_bound : (g : K → K) → ((y : K) → length (f (g y)) ≤ length (f y)) → (ys : List K) → length (flat_map f (map g ys)) ≤ length (flat_map f ys)
  map_bound g each [] = omega arith
  map_bound g each (y ∷ ys) = omega (arith, each y, map_bound g each ys, length-append (f (g y)) (flat_map f (map g ys)), length-append (f y) (flat_map f ys))

-- ---- what a command adds to one node

either_bound : (b : Bool) (rows : Change → List Cells) (x y : Applied) → length (rows (if b then y else x).change) ≤ length (rows y.change) + length (rows x.change)
either_bound true rows x y = omega arith
either_bound false rows x y = omega arith

greater_bound : (rows : Change → List Cells) (x : Applied) (o : Option Applied) → length (shown rows (change_of (greater x o))) ≤ length (shown rows (change_of o)) + length (rows x.change)
greater_bound rows x None = omega arith
greater_bound rows x (Some y) = either_bound (is_lt (rank_cmp (rank_of x) (rank_of y))) rows x y

newest_step : (b : Bool) (rows : Change → List Cells) (x : Applied) (o : Option Applied) → length (shown rows (change_of (if b then greater x o else o))) ≤ length (shown rows (change_of o)) + length (rows x.change)
newest_step true rows x o = greater_bound rows x o
newest_step false rows x o = omega arith

newest_bound : (rows : Change → List Cells) (k : Kind) (x : Applied) (o : Option Applied) → length (shown rows (change_of (with_newest k x o))) ≤ length (shown rows (change_of o)) + length (rows x.change)
newest_bound rows k x o = newest_step (is_kind k x) rows x o

abbrev rows_of_report : Applied → List Cells
rows_of_report x = report_rows x.received x.change

-- when a report was received changes no number of rows
as_many : (received : Option ℤ) (c : Change) → length (report_rows received c) ≡ length (report_rows None c)
as_many received (FactsOf c) = refl
as_many received (CatalogOf c) = refl
as_many received (ReportOf c) = refl
as_many received (DeactivateOf c) = refl
as_many received (ExpirationOf c) = refl

one_of_both : (b : Bool) (x y : Applied) → length (rows_of_report (if b then y else x)) ≤ length (rows_of_report y) + length (rows_of_report x)
one_of_both true x y = omega arith
one_of_both false x y = omega arith

least_step : (b : Bool) (x : Applied) (xs : List Applied) → length (flat_map rows_of_report (without_least xs)) ≤ length (flat_map rows_of_report xs)
    → length (flat_map rows_of_report (if b then x ∷ without_least xs else xs)) ≤ length (flat_map rows_of_report (x ∷ xs))
least_step true x xs h = omega (arith, h, length-append (rows_of_report x) (flat_map rows_of_report (without_least xs)), length-append (rows_of_report x) (flat_map rows_of_report xs))
least_step false x xs h = omega (arith, length-append (rows_of_report x) (flat_map rows_of_report xs))

least_bound : (xs : List Applied) → length (flat_map rows_of_report (without_least xs)) ≤ length (flat_map rows_of_report xs)
least_bound [] = omega arith
least_bound (x ∷ xs) = least_step (list_any (λ y. is_below y x) xs) x xs (least_bound xs)

limit_step : (b : Bool) (xs : List Applied) → length (flat_map rows_of_report (if b then without_least xs else xs)) ≤ length (flat_map rows_of_report xs)
limit_step true xs = least_bound xs
limit_step false xs = omega arith

limited_bound : (count : Option ℕ) (xs : List Applied) → length (flat_map rows_of_report (limited count xs)) ≤ length (flat_map rows_of_report xs)
limited_bound None xs = omega arith
limited_bound (Some count) xs = limit_step (nat_lt count (length xs)) xs

reports_step : (b : Bool) (count : Option ℕ) (x : Applied) (xs : List Applied) → length (flat_map rows_of_report (if b then limited count (put_report x xs) else xs)) ≤ length (flat_map rows_of_report xs) + length (report_rows None x.change)
reports_step true count x xs =
    let put_in = put_bound rows_of_report (length (rows_of_report x)) (report_cmp x) x (of_greater_rank x) (omega arith) (λ y. one_of_both (is_below x y) x y) xs in
    omega (arith, limited_bound count (put_report x xs), put_in, as_many x.received x.change)
reports_step false count x xs = omega arith

module _ (ttls : Ttls) (retention : Option ℤ) (x : Applied) where
  reports_bound : (xs : List Applied) → length (flat_map rows_of_report (with_report ttls retention x xs)) ≤ length (flat_map rows_of_report xs) + length (report_rows None x.change)
  reports_bound xs = reports_step (is_kind kind.Report x && is_retained ttls retention x) ttls.report_count x xs

  -- ---- what it adds to the table

  module _ (expiry : Option ℤ) (entity : Entity) (rows : Change → List Cells)
      (each : (n : machine.Node) → length (node_rows entity ttls expiry (with_applied ttls retention x n)) ≤ length (node_rows entity ttls expiry n) + length (rows x.change))
      (empty : (c : List ℕ) → length (node_rows entity ttls expiry (empty_node c)) ≡ 0) (nodes : List machine.Node) where
    applied_bound : length (table_rows entity (apply x (record { ttls = ttls; expiry = expiry; retention = retention; nodes = nodes })))
        ≤ length (table_rows entity (record { ttls = ttls; expiry = expiry; retention = retention; nodes = nodes })) + length (rows x.change)
    applied_bound =
        let c = change_certname x.change in
        let first : length (node_rows entity ttls expiry (with_applied ttls retention x (empty_node c))) ≤ length (rows x.change) = omega (arith, each (empty_node c), empty c) in
        put_bound (node_rows entity ttls expiry) (length (rows x.change)) (stands c) (with_applied ttls retention x (empty_node c)) (with_applied ttls retention x) first each nodes

within_limit : (a b : ℕ) → a ≤ b → b ≤ limit → a ≤ limit
within_limit a b h k = omega (arith, h, k)

pub applied_within : (x : Applied) (table : Table) → Fits table x.change → (entity : Entity) → length (table_rows entity (apply x table)) ≤ limit
applied_within x t h Nodes =
    let c = change_certname x.change in
    within_limit _ _ (put_bound (node_rows Nodes t.ttls t.expiry) 1 (stands c) (with_applied t.ttls t.retention x (empty_node c)) (with_applied t.ttls t.retention x) (omega arith) (λ y. omega arith) t.nodes)
    (omega (arith, h.6, nodes_count t.ttls t.expiry t.nodes))
applied_within x t h Factsets = within_limit _ _ (applied_bound t.ttls t.retention x t.expiry Factsets factset_rows (λ n. newest_bound factset_rows kind.Facts x n.facts) (λ c. refl) t.nodes) h.0
applied_within x t h Facts = within_limit _ _ (applied_bound t.ttls t.retention x t.expiry Facts fact_rows (λ n. newest_bound fact_rows kind.Facts x n.facts) (λ c. refl) t.nodes) h.1
applied_within x t h Catalogs = within_limit _ _ (applied_bound t.ttls t.retention x t.expiry Catalogs catalog_rows (λ n. newest_bound catalog_rows kind.Catalog x n.catalog) (λ c. refl) t.nodes) h.2
applied_within x t h Resources = within_limit _ _ (applied_bound t.ttls t.retention x t.expiry Resources resource_rows (λ n. newest_bound resource_rows kind.Catalog x n.catalog) (λ c. refl) t.nodes) h.3
applied_within x t h Edges = within_limit _ _ (applied_bound t.ttls t.retention x t.expiry Edges edge_rows (λ n. newest_bound edge_rows kind.Catalog x n.catalog) (λ c. refl) t.nodes) h.4
applied_within x t h Reports = within_limit _ _ (applied_bound t.ttls t.retention x t.expiry Reports (report_rows None) (λ n. reports_bound t.ttls t.retention x n.reports) (λ c. refl) t.nodes) h.5
applied_within x t h e = subst (λ (rows : List Cells). length rows ≤ limit) (sym (no_rows (node_rows e (apply x t).ttls (apply x t).expiry) (λ n. refl) (apply x t).nodes)) (omega arith)

-- ---- what a sweep leaves

pub within_of : (c : Counts) → IsWithin c → (entity : Entity) → count_of entity c ≤ limit
within_of c h Nodes = h.6
within_of c h Factsets = h.0
within_of c h Facts = h.1
within_of c h Catalogs = h.2
within_of c h Resources = h.3
within_of c h Edges = h.4
within_of c h Reports = h.5
within_of c h _ = omega arith

retained_node : (ttls lived : Ttls) (expiry retention : Option ℤ) (entity : Entity) (n : machine.Node) → length (node_rows entity ttls expiry (with_retained lived retention n)) ≤ length (node_rows entity ttls expiry n)
retained_node ttls lived expiry retention Nodes n = omega arith
retained_node ttls lived expiry retention Factsets n = omega arith
retained_node ttls lived expiry retention Facts n = omega arith
retained_node ttls lived expiry retention Catalogs n = omega arith
retained_node ttls lived expiry retention Resources n = omega arith
retained_node ttls lived expiry retention Edges n = omega arith
retained_node ttls lived expiry retention Reports n = filter_bound rows_of_report (is_retained lived retention) n.reports
retained_node ttls lived expiry retention _ n = omega arith

-- ---- what can be counted

pub applied_few : (x : Applied) (table : Table) → Fits table x.change → AreFew (apply x table).nodes
applied_few x t h = λ entity ttls expiry. subst (λ n. n ≤ limit) (same_number entity t.ttls ttls t.expiry expiry (apply x t).nodes) (applied_within x t h entity)

pub counted_few : (c : Counts) (nodes : List machine.Node) → AreCountsOf c nodes → IsWithin c → AreFew nodes
counted_few c nodes counted h = λ entity ttls expiry. subst (λ n. n ≤ limit) (counted entity ttls expiry) (within_of c h entity)

pub purged_few : (p : machine.Node → Bool) (nodes : List machine.Node) → AreFew nodes → AreFew (filter p nodes)
purged_few p nodes few = λ entity ttls expiry. within_limit _ _ (filter_bound (node_rows entity ttls expiry) p nodes) (few entity ttls expiry)

pub retained_few : (lived : Ttls) (retention : Option ℤ) (nodes : List machine.Node) → AreFew nodes → AreFew (map (with_retained lived retention) nodes)
retained_few lived retention nodes few = λ entity ttls expiry.
    within_limit _ _ (map_bound (node_rows entity ttls expiry) (with_retained lived retention) (retained_node ttls lived expiry retention entity) nodes) (few entity ttls expiry)

within_by : (c : Counts) → ((entity : Entity) → count_of entity c ≤ limit) → IsWithin c
within_by c h = (h Factsets, h Facts, h Catalogs, h Resources, h Edges, h Reports, h Nodes)

pub few_counted : (c : Counts) (nodes : List machine.Node) → AreCountsOf c nodes → AreFew nodes → IsWithin c
few_counted c nodes counted few = within_by c (λ entity. subst (λ n. n ≤ limit) (sym (counted entity default_ttls None)) (few entity default_ttls None))

pub nodes_counted : (nodes : List Node) (total : Counts) → AllByRecursion IsNode nodes → total ≡ total_from none nodes → AreCountsOf total (map node_seen nodes)
nodes_counted nodes total all same = λ entity ttls expiry. ap (count_of entity) same ∙ total_is ttls expiry entity nodes all

pub few_within : (nodes : List Node) (seen : List machine.Node) → AllByRecursion IsNode nodes → map node_seen nodes ≡ seen → AreFew seen → IsWithin (total_from none nodes)
few_within nodes seen all view few =
    few_counted (total_from none nodes) (map node_seen nodes) (nodes_counted nodes (total_from none nodes) all refl) (subst AreFew (sym view) few)

-- ---- of nodes that stand next to one another

pub few_part : (front part behind : List machine.Node) → AreFew (front ++ (part ++ behind)) → AreFew part
few_part front part behind few = λ entity ttls expiry.
    let f = node_rows entity ttls expiry in
    within_limit _ _ (omega (
      arith,
      ap length (flat_map-append f front (part ++ behind)),
      length-append (flat_map f front) (flat_map f (part ++ behind)),
      ap length (flat_map-append f part behind),
      length-append (flat_map f part) (flat_map f behind),
    )) (few entity ttls expiry)

pub counts_joined : (a b : Counts) (front behind : List machine.Node) → AreCountsOf a front → AreCountsOf b behind → AreCountsOf (plus a b) (front ++ behind)
counts_joined a b front behind h k = λ entity ttls expiry.
    let f = node_rows entity ttls expiry in
    omega (
      arith,
      count-plus entity a b,
      h entity ttls expiry,
      k entity ttls expiry,
      ap length (flat_map-append f front behind),
      length-append (flat_map f front) (flat_map f behind),
    )
