-- A later sweep of reports leaves of the reports that are kept those that are kept after it.
use Rattle.std.proofs.Common.{◌≡◌, ◌∙◌, ℕ, ℤ, List, refl, sym, ap, arith, Bool, true, false, not, ◌&&◌, Option, Some, None, if◌then◌else◌}
use Rattle.std.specs.Prelude.{◌-ℤ◌, ◌<ℤ◌, int_lt, nat_lt, length}
use Rattle.std.specs.List.{filter, list_any}
use Rattle.std.specs.declared.cmp.Ordering.{Ordering}
use Rattle.std.specs.declared.cmp.Ordering.TheVariants.{Less, Equal, Greater}
use Rattle.std.specs.Ordering.{is_lt, int_cmp, nat_cmp, ordering_then}
use Rattle.std.proofs.lemmas.Cmp.{int_ranked}
use Rattle.std.proofs.lemmas.Int.{ints}
use Rattle.table_spec.specs.fleet_rows.declared.command.Kind.TheVariants as kind
use Rattle.table_spec.proofs.of_plain_laws.Booleans.{both_true}
use Rattle.table_spec.specs.fleet_rows.declared.settings.Ttls.{Ttls}
use Rattle.table_spec.specs.fleet_rows.Change.{change_stamp}
use Rattle.table_spec.specs.fleet_rows.declared.applied.Applied.{Applied}
use Rattle.table_spec.specs.history_spec.Trace.{is_kind}
use Rattle.table_spec.specs.history_spec.Node.{later, days}
use Rattle.table_spec.specs.history_spec.Report.{is_retained, retained, is_below, is_outranked_by, is_same_report, distinct, greatest, reports_kept_of}
use Rattle.table_spec.specs.Sorted.{report_cmp}
use Rattle.table_machine.specs.Table.{node_with}
use Rattle.table_machine.specs.Steps.{with_retained}
use Rattle.table_machine.specs.Places.{sorted}
use Rattle.history_laws.proofs.Filters.{filter-filter, filter-same, any-filter}
use Rattle.table_machine.proofs.Risen.{filter-sorted}
use Rattle.table_machine.proofs.ReportOrder.{report_cmp_total, tied_stamps}

-- ---- what a later sweep leaves

earlier_edge : (stamp m s d : ℤ) → not (int_lt stamp ((if int_lt m s then s else m) -ℤ d)) ≡ true → not (int_lt stamp (s -ℤ d)) ≡ true
earlier_edge stamp m s d h = grind (arith, ints)

pub retained_before : (ttls : Ttls) (m : ℤ) (retention : Option ℤ) (x : Applied) → is_retained ttls (later m retention) x ≡ true → is_retained ttls retention x ≡ true
retained_before ttls m None x h = refl
retained_before ttls m (Some s) x h = earlier_edge (change_stamp x.change) m s (days ttls.report_days) h

higher_edge : (a b e : ℤ) → a <ℤ b → not (int_lt a e) ≡ true → not (int_lt b e) ≡ true
higher_edge a b e h k = grind (arith, ints)

later_retained : (ttls : Ttls) (retention : Option ℤ) (x y : Applied) (o p : Ordering) → int_cmp (change_stamp x.change) (change_stamp y.change) ≡ o → is_lt (ordering_then o p) ≡ true → is_retained ttls retention x ≡ true → is_retained ttls retention y ≡ true
later_retained ttls None x y o p e h k = refl
later_retained ttls (Some s) x y Less p e h k =
    let less : change_stamp x.change <ℤ change_stamp y.change = int_ranked (change_stamp x.change) (change_stamp y.change) Less (sym e) in
    higher_edge (change_stamp x.change) (change_stamp y.change) (s -ℤ days ttls.report_days) less k
later_retained ttls (Some s) x y Equal p e h k =
    let same : change_stamp x.change ≡ change_stamp y.change = int_ranked (change_stamp x.change) (change_stamp y.change) Equal (sym e) in
    ap (λ t. not (int_lt t (s -ℤ days ttls.report_days))) (sym same) ∙ k
later_retained ttls (Some s) x y Greater p e h k = absurd (let apart : false ≡ true = h in cc)

-- what is of a greater rank than a report that stays also stays
pub greater_retained : (ttls : Ttls) (retention : Option ℤ) (x y : Applied) → is_below x y ≡ true → is_retained ttls retention x ≡ true → is_retained ttls retention y ≡ true
greater_retained ttls retention x y h k =
    later_retained ttls retention x y (int_cmp (change_stamp x.change) (change_stamp y.change)) (nat_cmp x.receipt y.receipt) refl h k

outranking_retained : (ttls : Ttls) (retention : Option ℤ) (x y : Applied) → is_outranked_by x y ≡ true → is_retained ttls retention x ≡ true → is_retained ttls retention y ≡ true
outranking_retained ttls retention x y h k = greater_retained ttls retention x y (both_true (is_below x y) (is_same_report x.change y.change) h).0 k

-- ---- the reports that are kept

narrowed : (k a b : Bool) → (b ≡ true → a ≡ true) → (k && b) ≡ ((k && a) && b)
narrowed true true b h = refl
narrowed true false true h = sym (h refl)
narrowed true false false h = refl
narrowed false a b h = refl

left_after : (ttls : Ttls) (m : ℤ) (retention : Option ℤ) (xs : List Applied) → retained ttls (later m retention) xs ≡ filter (is_retained ttls (later m retention)) (retained ttls retention xs)
left_after ttls m retention xs =
    filter-same _ _ (λ x. narrowed (is_kind kind.Report x) (is_retained ttls retention x) (is_retained ttls (later m retention) x) (retained_before ttls m retention x)) xs
    ∙ sym (filter-filter (is_retained ttls (later m retention)) (λ x. is_kind kind.Report x && is_retained ttls retention x) xs)

either_order : (b c d : Bool) → (b ≡ true → c ≡ d) → (b && not c) ≡ (not d && b)
either_order true c true h = ap not (h refl)
either_order true c false h = ap not (h refl)
either_order false c true h = refl
either_order false c false h = refl

outranked_after : (ttls : Ttls) (retention : Option ℤ) (x : Applied) (xs : List Applied) → is_retained ttls retention x ≡ true → list_any (is_outranked_by x) (filter (is_retained ttls retention) xs) ≡ list_any (is_outranked_by x) xs
outranked_after ttls retention x xs h = any-filter (is_retained ttls retention) (is_outranked_by x) (λ y k. outranking_retained ttls retention x y k h) xs

not_outranked_of : (p : Applied → Bool) (xs : List Applied) → ((x : Applied) → p x ≡ true → list_any (is_outranked_by x) (filter p xs) ≡ list_any (is_outranked_by x) xs) →
    filter (λ x. not (list_any (is_outranked_by x) (filter p xs))) (filter p xs) ≡ filter p (filter (λ x. not (list_any (is_outranked_by x) xs)) xs)
not_outranked_of p xs h =
    filter-filter (λ x. not (list_any (is_outranked_by x) (filter p xs))) p xs
    ∙ filter-same _ _ (λ x. either_order (p x) (list_any (is_outranked_by x) (filter p xs)) (list_any (is_outranked_by x) xs) (h x)) xs
    ∙ sym (filter-filter p (λ x. not (list_any (is_outranked_by x) xs)) xs)

distinct_after : (ttls : Ttls) (m : ℤ) (retention : Option ℤ) (xs : List Applied) → distinct (retained ttls (later m retention) xs) ≡ filter (is_retained ttls (later m retention)) (distinct (retained ttls retention xs))
distinct_after ttls m retention xs =
    ap distinct (left_after ttls m retention xs)
    ∙ not_outranked_of (is_retained ttls (later m retention)) (retained ttls retention xs) (λ x h. outranked_after ttls (later m retention) x (retained ttls retention xs) h)

-- ---- the greatest of what stays are those of the greatest that stay

implied : (a b : Bool) → (b ≡ true → a ≡ true) → (a && b) ≡ b
implied true b h = refl
implied false true h = h refl
implied false false h = refl

swapped : (b c d : Bool) → (b ≡ true → c ≡ d) → (b && c) ≡ (d && b)
swapped true true d h = ap (λ e. e && true) (h refl)
swapped true false d h = ap (λ e. e && true) (h refl)
swapped false c true h = refl
swapped false c false h = refl

greater_stay : (p : Applied → Bool) → ((x y : Applied) → is_below x y ≡ true → p x ≡ true → p y ≡ true) → (x : Applied) (xs : List Applied) → p x ≡ true → filter (is_below x) (filter p xs) ≡ filter (is_below x) xs
greater_stay p up x xs h = filter-filter (is_below x) p xs ∙ filter-same _ _ (λ y. implied (p y) (is_below x y) (λ below. up x y below h)) xs

greatest-filter : (p : Applied → Bool) → ((x y : Applied) → is_below x y ≡ true → p x ≡ true → p y ≡ true) → (count : Option ℕ) (xs : List Applied) → greatest count (filter p xs) ≡ filter p (greatest count xs)
greatest-filter p up None xs = refl
greatest-filter p up (Some n) xs =
    filter-filter (λ x. nat_lt (length (filter (is_below x) (filter p xs))) n) p xs
    ∙ filter-same _ _ (λ x. swapped (p x) (nat_lt (length (filter (is_below x) (filter p xs))) n) (nat_lt (length (filter (is_below x) xs)) n) (λ h. ap (λ (ys : List Applied). nat_lt (length ys) n) (greater_stay p up x xs h))) xs
    ∙ sym (filter-filter p (λ x. nat_lt (length (filter (is_below x) xs)) n) xs)

pub kept_after : (ttls : Ttls) (m : ℤ) (retention : Option ℤ) (xs : List Applied) → reports_kept_of ttls (later m retention) xs ≡ filter (is_retained ttls (later m retention)) (reports_kept_of ttls retention xs)
kept_after ttls m retention xs =
    ap (greatest ttls.report_count) (distinct_after ttls m retention xs)
    ∙ greatest-filter (is_retained ttls (later m retention)) (λ x y below h. greater_retained ttls (later m retention) x y below h) ttls.report_count (distinct (retained ttls retention xs))

retained_alike : (ttls : Ttls) (retention : Option ℤ) (x y : Applied) → change_stamp x.change ≡ change_stamp y.change → is_retained ttls retention x ≡ is_retained ttls retention y
retained_alike ttls None x y e = refl
retained_alike ttls (Some s) x y e = ap (λ t. not (int_lt t (s -ℤ days ttls.report_days))) e

pub reports_after : (ttls : Ttls) (m : ℤ) (retention : Option ℤ) (xs : List Applied) →
    filter (is_retained ttls (later m retention)) (sorted report_cmp (reports_kept_of ttls retention xs)) ≡ sorted report_cmp (reports_kept_of ttls (later m retention) xs)
reports_after ttls m retention xs =
    filter-sorted report_cmp report_cmp_total (is_retained ttls (later m retention)) (λ x y tied. retained_alike ttls (later m retention) x y (tied_stamps x y tied)) (reports_kept_of ttls retention xs)
    ∙ ap (sorted report_cmp) (sym (kept_after ttls m retention xs))

pub node_after : (ttls : Ttls) (m : ℤ) (retention : Option ℤ) (certname : List ℕ) (xs : List Applied) →
    with_retained ttls (later m retention) (node_with ttls retention certname xs) ≡ node_with ttls (later m retention) certname xs
node_after ttls m retention certname xs = λ i. record (node_with ttls retention certname xs) { reports = reports_after ttls m retention xs i }
