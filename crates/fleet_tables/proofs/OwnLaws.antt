-- What a node has stays its own, whatever step comes.
use Rattle.std.proofs.Common.{◌≡◌, ℕ, ℤ, List, [], ◌∷◌, length, map, Bool, true, false, not, Option, Some, None, IfSome, refl, sym, if◌then◌else◌}
use Rattle.std.specs.Prelude.{nat_lt, ◌&&◌}
use Rattle.std.specs.List.{AllByRecursion, filter, list_any}
use Rattle.std.specs.Ordering.{is_lt, match_ordering}
use Rattle.std.specs.declared.cmp.Ordering.{Ordering}
use Rattle.std.specs.declared.cmp.Ordering.TheVariants.{Less, Equal, Greater}
use Rattle.checkpoint_spec.proofs.of_plain_laws.Booleans.{either}
use Rattle.checkpoint_spec.proofs.of_history_laws.SortedTexts.{text_tied}
use Rattle.checkpoint_spec.specs.fleet_rows.Change.{change_certname}
use Rattle.checkpoint_spec.specs.fleet_rows.Rank.{rank_cmp}
use Rattle.checkpoint_spec.specs.fleet_rows.declared.applied.Applied.{Applied}
use Rattle.checkpoint_spec.specs.fleet_rows.declared.command.Kind.{Kind}
use Rattle.checkpoint_spec.specs.fleet_rows.declared.command.Kind.TheVariants as kind
use Rattle.checkpoint_spec.specs.fleet_rows.declared.settings.Ttls.{Ttls}
use Rattle.checkpoint_spec.specs.history_spec.Node.{greater}
use Rattle.checkpoint_spec.specs.history_spec.Report.{is_below, is_retained}
use Rattle.checkpoint_spec.specs.history_spec.Trace.{is_kind, rank_of}
use Rattle.checkpoint_spec.specs.table_machine.Node.{node_purged}
use Rattle.checkpoint_spec.specs.table_machine.Places.{put}
use Rattle.checkpoint_spec.specs.table_machine.Steps.{empty_node, limited, of_greater_rank, put_report, with_applied, with_newest, with_node, with_report, with_retained, without_least}
use Rattle.checkpoint_spec.specs.table_machine.Table.{Node}
use Rattle.checkpoint_spec.specs.table_spec.Sorted.{report_cmp}
use Rattle.checkpoint_spec.specs.text_spec.Compact.{text_cmp}
use Rattle.kept_nodes.specs.Seen.{with_activity}
use Rattle.kept_nodes.specs.Owned.{IsOf, IsOwn}
use Rattle.kept_nodes.specs.Places.{left_by_purge}

-- ---- what holds of each element

filter_step : {A : Type 0} (P : A → Type 0) (b : Bool) (x : A) (xs : List A) → P x → AllByRecursion P xs → AllByRecursion P (if b then x ∷ xs else xs)
filter_step P true x xs p h = (p, h)
filter_step P false x xs p h = h

all_filtered : {A : Type 0} (P : A → Type 0) (test : A → Bool) (xs : List A) → AllByRecursion P xs → AllByRecursion P (filter test xs)
all_filtered P test [] h = tt
all_filtered P test (x ∷ xs) h = filter_step P (test x) x (filter test xs) h.0 (all_filtered P test xs h.1)

put_step : {A : Type 0} (P : A → Type 0) (p : Ordering) (new changed y : A) (ys rest : List A) → P new → P changed → AllByRecursion P (y ∷ ys) → AllByRecursion P rest
    → AllByRecursion P (match_ordering p (new ∷ y ∷ ys) (changed ∷ ys) (y ∷ rest))
put_step P Less new changed y ys rest n c h r = (n, h)
put_step P Equal new changed y ys rest n c h r = (c, h.1)
put_step P Greater new changed y ys rest n c h r = (h.0, r)

all_put : {A : Type 0} (P : A → Type 0) (place : A → Ordering) (new : A) (change : A → A) (ys : List A) → P new → ((y : A) → P y → P (change y)) → AllByRecursion P ys
    → AllByRecursion P (put place new change ys)
all_put P place new change [] n c h = (n, tt)
all_put P place new change (y ∷ ys) n c h =
    put_step P (place y) new (change y) y ys (put place new change ys) n (c y h.0) h (all_put P place new change ys n c h.1)

-- ---- the commands of one node

module _ (P : Applied → Type 0) where
  greater_has : (x : Applied) (o : Option Applied) → P x → IfSome o P → IfSome (greater x o) P
  greater_has x None p h = p
  greater_has x (Some y) p h = either P (is_lt (rank_cmp (rank_of x) (rank_of y))) y x h p

  newest_step : (b : Bool) (x : Applied) (o : Option Applied) → P x → IfSome o P → IfSome (if b then greater x o else o) P
  newest_step true x o p h = greater_has x o p h
  newest_step false x o p h = h

  newest_has : (k : Kind) (x : Applied) (o : Option Applied) → P x → IfSome o P → IfSome (with_newest k x o) P
  newest_has k x o p h = newest_step (is_kind k x) x o p h

  least_step : (b : Bool) (x : Applied) (xs rest : List Applied) → AllByRecursion P (x ∷ xs) → AllByRecursion P rest → AllByRecursion P (if b then x ∷ rest else xs)
  least_step true x xs rest h r = (h.0, r)
  least_step false x xs rest h r = h.1

  least_has : (xs : List Applied) → AllByRecursion P xs → AllByRecursion P (without_least xs)
  least_has [] h = tt
  least_has (x ∷ xs) h = least_step (list_any (λ y. is_below y x) xs) x xs (without_least xs) h (least_has xs h.1)

  limited_has : (limit : Option ℕ) (xs : List Applied) → AllByRecursion P xs → AllByRecursion P (limited limit xs)
  limited_has None xs h = h
  limited_has (Some n) xs h = either (AllByRecursion P) (nat_lt n (length xs)) (without_least xs) xs (least_has xs h) h

  report_has : (ttls : Ttls) (retention : Option ℤ) (x : Applied) (xs : List Applied) → P x → AllByRecursion P xs → AllByRecursion P (with_report ttls retention x xs)
  report_has ttls retention x xs p h =
      let put = all_put P (report_cmp x) x (of_greater_rank x) xs p (λ y q. either P (is_below x y) y x q p) h in
      either (AllByRecursion P) (is_kind kind.Report x && is_retained ttls retention x) (limited ttls.report_count (put_report x xs)) xs (limited_has ttls.report_count (put_report x xs) put) h

pub applied_own : (ttls : Ttls) (retention : Option ℤ) (x : Applied) (node : Node) → node.certname ≡ change_certname x.change → IsOwn node → IsOwn (with_applied ttls retention x node)
applied_own ttls retention x node named h =
    let own : IsOf node.certname x = sym named in (
      newest_has (IsOf node.certname) kind.Facts x node.facts own h.0,
      newest_has (IsOf node.certname) kind.Catalog x node.catalog own h.1,
      report_has (IsOf node.certname) ttls retention x node.reports own h.2,
    )

-- ---- all nodes

node_step : (certname : List ℕ) (change : Node → Node) (p : Ordering) (n : Node) (ns rest : List Node) → text_cmp certname n.certname ≡ p → IsOwn (change (empty_node certname))
    → ((m : Node) → m.certname ≡ certname → IsOwn m → IsOwn (change m)) → AllByRecursion IsOwn (n ∷ ns) → AllByRecursion IsOwn rest
    → AllByRecursion IsOwn (match_ordering p (change (empty_node certname) ∷ n ∷ ns) (change n ∷ ns) (n ∷ rest))
node_step certname change Less n ns rest e new each h r = (new, h)
node_step certname change Equal n ns rest e new each h r = (each n (sym (text_tied certname n.certname e)) h.0, h.1)
node_step certname change Greater n ns rest e new each h r = (h.0, r)

node_own : (certname : List ℕ) (change : Node → Node) (nodes : List Node) → IsOwn (change (empty_node certname)) → ((m : Node) → m.certname ≡ certname → IsOwn m → IsOwn (change m))
    → AllByRecursion IsOwn nodes → AllByRecursion IsOwn (with_node certname change nodes)
node_own certname change [] new each h = (new, tt)
node_own certname change (n ∷ ns) new each h =
    node_step certname change (text_cmp certname n.certname) n ns (with_node certname change ns) refl new each h (node_own certname change ns new each h.1)

pub all_applied_own : (ttls : Ttls) (retention : Option ℤ) (x : Applied) (nodes : List Node) → AllByRecursion IsOwn nodes
    → AllByRecursion IsOwn (with_node (change_certname x.change) (with_applied ttls retention x) nodes)
all_applied_own ttls retention x nodes h =
    let certname = change_certname x.change in
    node_own certname (with_applied ttls retention x) nodes (applied_own ttls retention x (empty_node certname) refl (tt, tt, tt)) (λ m e own. applied_own ttls retention x m e own) h

pub all_marked_own : (certname : List ℕ) (active : Option ℤ) (nodes : List Node) → AllByRecursion IsOwn nodes → AllByRecursion IsOwn (with_node certname (with_activity active) nodes)
all_marked_own certname active nodes h = node_own certname (with_activity active) nodes (tt, tt, tt) (λ m e own. own) h

pub all_left_own : (ttls : Ttls) (m : ℤ) (expiry : Option ℤ) (nodes : List Node) → AllByRecursion IsOwn nodes → AllByRecursion IsOwn (left_by_purge ttls m expiry nodes)
all_left_own ttls m expiry nodes h = all_filtered IsOwn (λ node. not (node_purged ttls m expiry node)) nodes h

pub all_retained_own : (ttls : Ttls) (retention : Option ℤ) (nodes : List Node) → AllByRecursion IsOwn nodes → AllByRecursion IsOwn (map (with_retained ttls retention) nodes)
all_retained_own ttls retention [] h = tt
all_retained_own ttls retention (n ∷ ns) h =
    ((h.0.0, h.0.1, all_filtered (IsOf n.certname) (is_retained ttls retention) n.reports h.0.2), all_retained_own ttls retention ns h.1)
