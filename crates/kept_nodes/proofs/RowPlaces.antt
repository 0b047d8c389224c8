-- Rows by their places.
use Rattle.std.proofs.Common.{◌≡◌, ◌∙◌, ℕ, ℤ, zero, suc, ◌+◌, ◌-◌, ◌<◌, List, [], ◌∷◌, ◌++◌, length, take, map, get_or, slice_get, Option, Some, None, Result, Ok, Err, IfOk, refl, sym, ap, subst, arith, length-append}
use Rattle.std.specs.List.{flat_map, AllByRecursion}
use Rattle.std.specs.Option.{option_map}
use Rattle.std.specs.declared.alloc.AllocError.{AllocError}
use Rattle.std.proofs.lemmas.List.{take-map}
use Rattle.std.proofs.lemmas.Option.{slice_get-map, slice_get_read, slice_get_within, same_Some}
use Rattle.checkpoint_spec.proofs.of_plain_laws.Lists.{get_left}
use Rattle.checkpoint_spec.specs.fleet_rows.declared.change.Change.{Change}
use Rattle.checkpoint_spec.specs.fleet_rows.declared.change.Change.TheVariants as change
use Rattle.checkpoint_spec.specs.fleet_rows.declared.change.FactsChange.{FactsChange}
use Rattle.checkpoint_spec.specs.fleet_rows.declared.row.Entity.{Entity}
use Rattle.checkpoint_spec.specs.fleet_rows.declared.row.Entity.TheVariants.{Nodes, Facts, Reports}
use Rattle.checkpoint_spec.specs.fleet_rows.declared.row.Row.{Row}
use Rattle.checkpoint_spec.specs.fleet_rows.declared.settings.Ttls.{Ttls}
use Rattle.checkpoint_spec.specs.history_spec.Facts.{FactRow, by_name}
use Rattle.checkpoint_spec.specs.fleet_rows.declared.applied.Applied.{Applied}
use Rattle.row_cells.specs.Rows.{IsRow, member_cells}
use Rattle.row_cells.specs.Nodes.{IsHeadOf, cells_with_head}
use Rattle.row_cells.specs.declared.node.ReportHead.{ReportHead}
use Rattle.checkpoint_spec.proofs.of_table_machine.Filters.{map-map}
use Rattle.checkpoint_spec.specs.fleet_rows.Cell.{stamp, plain}
use Rattle.checkpoint_spec.specs.history_spec.Report.{text_or_null, bool_or_null}
use Rattle.checkpoint_spec.specs.table_spec.Cells.{fact_cells, report_cells, moment_or_null, text_cell}
use Rattle.checkpoint_spec.specs.table_spec.Rows.{Cells, fact_rows, report_rows, node_cells, environment_cell, timestamp_cell, change_of}
use Rattle.checkpoint_spec.specs.text_spec.Json.{Json, members_list}
use Rattle.kept_nodes.specs.Counted.{none, counts, count_of, AreCountedFrom, with_facts, with_catalog}
use Rattle.kept_nodes.specs.Kept.{IsFactOrder, IsNode}
use Rattle.kept_nodes.specs.Places.{HasRow}
use Rattle.checkpoint_spec.specs.table_machine.Rows.{node_rows}
use Rattle.kept_nodes.specs.Rows.{IsRowAt}
use Rattle.kept_nodes.specs.Seen.{node_seen, report_seen}
use Rattle.kept_nodes.specs.declared.counts.Counts.{Counts}
use Rattle.kept_nodes.specs.declared.kept.Factset.{Factset}
use Rattle.kept_nodes.specs.declared.kept.NodeCatalog.{NodeCatalog}
use Rattle.kept_nodes.specs.declared.kept.Report.{Report}
use Rattle.kept_nodes.specs.declared.node.Node.{Node}
use Rattle.kept_nodes.proofs.Counting.{before_is}
use Rattle.kept_nodes.proofs.RowCounts.{total_is, node_count}

-- ---- lists

pub get_right : {X : Type 0} (xs ys : List X) (i j : ℕ) → i ≡ length xs + j → slice_get (xs ++ ys) i ≡ slice_get ys j
get_right [] ys i j e = let same : i ≡ j = omega (arith, e) in ap (slice_get ys) same
get_right (x ∷ xs) ys zero j e = absurd (omega (arith, e))
get_right (x ∷ xs) ys (suc i) j e = get_right xs ys i j (omega (arith, e))

-- place j of the part that an element gives
flat_at : {X Y : Type 0} (f : X → List Y) (xs : List X) (k : ℕ) (x : X) (i j : ℕ) → slice_get xs k ≡ Some x → i ≡ length (flat_map f (take k xs)) + j → j < length (f x) → slice_get (flat_map f xs) i ≡ slice_get (f x) j
flat_at f [] k x i j e place h = cc
flat_at f (y ∷ ys) zero x i j e place h =
    let same : y ≡ x = cc in
    let here : i ≡ j = omega (arith, place) in
    let within : j < length (f y) = subst (λ z. j < length (f z)) (sym same) h in
    ap (slice_get (f y ++ flat_map f ys)) here ∙ get_left (f y) (flat_map f ys) j within ∙ ap (λ z. slice_get (f z) j) same
flat_at f (y ∷ ys) (suc k) x i j e place h =
    let behind : i ≡ length (f y) + (length (flat_map f (take k ys)) + j) = omega (arith, place, length-append (f y) (flat_map f (take k ys))) in
    get_right (f y) (flat_map f ys) i (length (flat_map f (take k ys)) + j) behind
    ∙ flat_at f ys k x (length (flat_map f (take k ys)) + j) j e refl h

order_at : {X : Type 0} (xs : List X) (order : List ℕ) (sorted : List X) (j place : ℕ) → map (slice_get xs) order ≡ map Some sorted → slice_get order j ≡ Some place → (x : X) × (slice_get xs place ≡ Some x) × (slice_get sorted j ≡ Some x)
order_at xs [] sorted j place e h = cc
order_at xs (o ∷ os) [] j place e h = cc
order_at xs (o ∷ os) (s ∷ ss) zero place e h =
    let first : slice_get xs o ≡ Some s = cc in
    let same : o ≡ place = cc in
    (s, ap (slice_get xs) (sym same) ∙ first, refl)
order_at xs (o ∷ os) (s ∷ ss) (suc j) place e h = let rest : map (slice_get xs) os ≡ map Some ss = cc in order_at xs os ss j place rest h

-- ---- rows in an order that is kept

module _ {X : Type 0} (xs : List X) (order : List ℕ) (sorted : List X) (e : map (slice_get xs) order ≡ map Some sorted) (j place : ℕ) (there : slice_get order j ≡ Some place) where
  ordered : (x : X) × (slice_get xs place ≡ Some x) × (slice_get sorted j ≡ Some x)
  ordered = order_at xs order sorted j place e there

  pub place_inside : place < length xs
  place_inside = slice_get_within xs place ordered.0 ordered.1

  pub sorted_inside : j < length sorted
  sorted_inside = slice_get_within sorted j ordered.0 ordered.2

  pub ordered_is : (x : X) → slice_get xs place ≡ Some x → slice_get sorted j ≡ Some x
  ordered_is x h = ordered.2 ∙ sym ordered.1 ∙ h

  pub row_in_order : (cells : X → Cells) (entity : Entity) (x : X) (r : Result Row AllocError) → slice_get xs place ≡ Some x → IfOk r (λ row. IsRow row entity (cells x)) → IfOk r (λ row. IsRowAt row entity (map cells sorted) j)
  row_in_order cells entity x (Ok row) h made =
      (made.0, slice_get-map cells sorted j ∙ ap (option_map cells) (ordered_is x h) ∙ ap (λ c. Some c) (sym made.1))
  row_in_order cells entity x (Err err) h made = tt

module _ (c : FactsChange) (order : List ℕ) (j place : ℕ) (h : IsFactOrder order c) (there : slice_get order j ≡ Some place) where
  abbrev members : List (List ℕ × Json)
  members = members_list (by_name c.values)

  abbrev fact_of : List ℕ × Json → FactRow
  fact_of m = record { certname = c.certname; environment = c.environment; name = m.0; value = m.1 }

  pub fact_inside : place < length c.values
  fact_inside = place_inside c.values order members h j place there

  fact_made : (r : Result Row AllocError) (m : List ℕ × Json) → slice_get c.values place ≡ Some m → IfOk r (λ row. (row.entity ≡ Facts) × (Some row.cells ≡ option_map (member_cells c) (slice_get c.values place))) → IfOk r (λ row. IsRow row Facts (member_cells c m))
  fact_made (Ok row) m e made = (made.0, same_Some row.cells (member_cells c m) (made.1 ∙ ap (option_map (member_cells c)) e))
  fact_made (Err err) m e made = tt

  pub fact_row_is : (r : Result Row AllocError) → IfOk r (λ row. (row.entity ≡ Facts) × (Some row.cells ≡ option_map (member_cells c) (slice_get c.values place))) → IfOk r (λ row. IsRowAt row Facts (fact_rows (change.Facts c)) j)
  fact_row_is r made =
      let m = ordered c.values order members h j place there in
      subst (λ list. IfOk r (λ row. IsRowAt row Facts list j)) (sym (map-map fact_of fact_cells members))
      (row_in_order c.values order members h j place there (member_cells c) Facts m.0 r m.1 (fact_made r m.0 m.1 made))

-- what is computed of the element at a place
pub image_at : {X Y : Type 0} (f : X → Y) (ys : List Y) (xs : List X) (j : ℕ) (y : Y) (x : X) → ys ≡ map f xs → slice_get ys j ≡ Some y → slice_get xs j ≡ Some x → y ≡ f x
image_at f ys xs j y x e there at =
    same_Some y (f x) (sym there ∙ ap (λ l. slice_get l j) e ∙ slice_get-map f xs j ∙ ap (option_map f) at)

-- ---- the row of a report

abbrev rows_of_report : Applied → List Cells
rows_of_report x = report_rows x.received x.change

report_at : (reports : List Report) (j : ℕ) (r : Report) → j < length reports → r ≡ get_or reports j r → slice_get (flat_map rows_of_report (map report_seen reports)) j ≡ Some (report_cells r.received r.change)
report_at [] j r h e = absurd (omega (arith, h))
report_at (x ∷ xs) zero r h e = ap (λ (y : Report). Some (report_cells y.received y.change)) (sym e)
report_at (x ∷ xs) (suc j) r h e = report_at xs j r (omega (arith, h)) e

pub report_row_is : (node : Node) (entity : Entity) (j : ℕ) (r : Report) (result : Result Row AllocError) → entity ≡ Reports → j < length node.reports.items → r ≡ get_or node.reports.items j r
    → IfOk result (λ row. IsRow row Reports (report_cells r.received r.change)) → IfOk result (λ row. (ttls : Ttls) (expiry : Option ℤ) → IsRowAt row entity (node_rows entity ttls expiry (node_seen node)) j)
report_row_is node entity j r (Ok row) is within at made = λ ttls expiry.
    subst (λ e. IsRowAt row e (node_rows e ttls expiry (node_seen node)) j) (sym is) (made.0, report_at node.reports.items j r within at ∙ ap (λ c. Some c) (sym made.1))
report_row_is node entity j r (Err err) is within at made = tt

facts_keep : (facts : Option Factset) (c : Counts) → (with_facts facts c).reports ≡ c.reports
facts_keep None c = refl
facts_keep (Some kept) c = refl

catalog_keeps : (catalog : Option NodeCatalog) (c : Counts) → (with_catalog catalog c).reports ≡ c.reports
catalog_keeps None c = refl
catalog_keeps (Some kept) c = refl

pub counted_reports : (node : Node) → (counts node).reports ≡ length node.reports.items
counted_reports node =
    let rest : Counts = record none { reports = length node.reports.items; nodes = 1 } in facts_keep node.facts (with_catalog node.catalog rest) ∙ catalog_keeps node.catalog rest

-- ---- the row of a node

-- a head shows what its report does
head_shows : (name : List ℕ) (d e : Option ℤ) (x y : Option Change) (head : Option ReportHead) (z : Option Change) → IsHeadOf head z → cells_with_head name d e x y head ≡ node_cells name d e x y z
head_shows name d e x y None None h = refl
head_shows name d e x y (Some head) (Some (change.Report r)) h =
    λ i. environment_cell y ∷ timestamp_cell y ∷ text_cell name ∷ moment_or_null d ∷ moment_or_null e ∷ environment_cell x ∷ timestamp_cell x
    ∷ text_cell (h.0 i) ∷ plain (bool_or_null (h.1 i)) ∷ plain (text_or_null (h.2 i)) ∷ plain (text_or_null (h.3 i)) ∷ stamp (h.4 i) ∷ []
head_shows name d e x y None (Some z) h = absurd h
head_shows name d e x y (Some head) None h = absurd h
head_shows name d e x y (Some head) (Some (change.Facts c)) h = absurd h
head_shows name d e x y (Some head) (Some (change.Catalog c)) h = absurd h
head_shows name d e x y (Some head) (Some (change.Deactivate c)) h = absurd h
head_shows name d e x y (Some head) (Some (change.Expiration c)) h = absurd h

-- the head of the newest report
pub head_for : (head : ReportHead) (r : Report) (newest : Option Applied) → Some (report_seen r) ≡ newest → IsHeadOf (Some head) (Some (change.Report r.change)) → IsHeadOf (Some head) (change_of newest)
head_for head r newest is h = subst (λ (o : Option Applied). IsHeadOf (Some head) (change_of o)) is h

pub no_head : (newest : Option Applied) → None ≡ newest → IsHeadOf None (change_of newest)
no_head newest is = subst (λ (o : Option Applied). IsHeadOf None (change_of o)) is tt

pub own_row_is : (r : Result Row AllocError) (x y x' y' z : Option Change) (head : Option ReportHead) (name : List ℕ) (d e d' e' : Option ℤ) → x ≡ x' → y ≡ y' → IsHeadOf head z → d ≡ d' → e ≡ e'
    → IfOk r (λ row. IsRow row Nodes (cells_with_head name d e x y head)) → IfOk r (λ row. IsRowAt row Nodes (node_cells name d' e' x' y' z ∷ []) 0)
own_row_is (Ok row) x y x' y' z head name d e d' e' a b c p q made =
    (made.0, (λ i. Some (node_cells name (sym p i) (sym q i) (sym a i) (sym b i) z)) ∙ ap (λ cells. Some cells) (sym (made.1 ∙ head_shows name d e x y head z c)))
own_row_is (Err err) x y x' y' z head name d e d' e' a b c p q made = tt

pub single_at : (ttls : Ttls) (expiry : Option ℤ) (nodes : List Node) (i : ℕ) (node : Node) → slice_get nodes i ≡ Some node → slice_get (flat_map (node_rows Nodes ttls expiry) (map node_seen nodes)) i ≡ slice_get (node_rows Nodes ttls expiry (node_seen node)) 0
single_at ttls expiry [] i node e = cc
single_at ttls expiry (n ∷ ns) zero node e = let same : n ≡ node = cc in ap (λ (m : Node). slice_get (node_rows Nodes ttls expiry (node_seen m)) 0) same
single_at ttls expiry (n ∷ ns) (suc i) node e = single_at ttls expiry ns i node e

-- ---- the rows of all nodes

all-take : (k : ℕ) (nodes : List Node) → AllByRecursion IsNode nodes → AllByRecursion IsNode (take k nodes)
all-take zero nodes h = tt
all-take (suc k) [] h = tt
all-take (suc k) (n ∷ ns) h = (h.0, all-take k ns h.1)

pub row_of_node : (ttls : Ttls) (expiry : Option ℤ) (entity : Entity) (nodes : List Node) (k : ℕ) (node : Node) (i : ℕ) → AllByRecursion IsNode nodes → AreCountedFrom none nodes → IsNode node
    → slice_get nodes k ≡ Some node → HasRow entity i node
    → slice_get (flat_map (node_rows entity ttls expiry) (map node_seen nodes)) i ≡ slice_get (node_rows entity ttls expiry (node_seen node)) (i - count_of entity node.before)
row_of_node ttls expiry entity nodes k node i all counted kept there row =
    let f = node_rows entity ttls expiry in
    let before : count_of entity node.before ≡ length (flat_map f (take k (map node_seen nodes))) =
    ap (count_of entity) (before_is none nodes k node counted there) ∙ total_is ttls expiry entity (take k nodes) (all-take k nodes all) ∙ ap (λ ns. length (flat_map f ns)) (sym (take-map node_seen k nodes)) in
    let place : i ≡ length (flat_map f (take k (map node_seen nodes))) + (i - count_of entity node.before) = omega (arith, before, row.0) in
    let within : i - count_of entity node.before < length (f (node_seen node)) = omega (arith, row.0, row.1, node_count ttls expiry entity node kept) in
    flat_at f (map node_seen nodes) k (node_seen node) i (i - count_of entity node.before) (slice_get-map node_seen nodes k ∙ ap (option_map node_seen) there) place within
