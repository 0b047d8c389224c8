-- The commands of a checkpoint rise by certname, kind and rank.
use Rattle.std.proofs.Common.{◌≡◌, ◌∙◌, inl, inr, ℕ, suc, ◌<◌, ◌≤◌, List, [], ◌∷◌, ◌++◌, arith, refl, sym, ap, true, ◌&&◌, not, Option, Some, None}
use Rattle.std.proofs.lemmas.Cmp.{on_total, tied_back, tied_itself}
use Rattle.std.specs.Cmp.{IsTotalOrder, nat_cmp_is}
use Rattle.std.specs.List.{filter, list_any}
use Rattle.std.specs.List.Sorted.{IsStrictlySortedBy}
use Rattle.std.specs.Ordering.{is_lt, nat_cmp}
use Rattle.std.specs.declared.cmp.Ordering.TheVariants.{Less, Equal}
use Rattle.checkpoint_spec.proofs.of_plain_laws.Members.{Among, Among-append_cases}
use Rattle.checkpoint_spec.proofs.of_plain_laws.StrictlySorted.{sorted-nil, sorted-cons, sorted-below, sorted-rest}
use Rattle.checkpoint_spec.specs.text_spec.Compact.{text_cmp}
use Rattle.checkpoint_spec.specs.fleet_rows.Change.{change_certname, change_kind}
use Rattle.checkpoint_spec.specs.fleet_rows.declared.applied.Applied.{Applied}
use Rattle.checkpoint_spec.specs.fleet_rows.declared.command.Kind.{Kind}
use Rattle.checkpoint_spec.specs.fleet_rows.declared.command.Kind.TheVariants as kind
use Rattle.checkpoint_spec.specs.fleet_rows.declared.settings.Ttls.{Ttls}
use Rattle.checkpoint_spec.specs.history_spec.Life.{life, nodes, kept_reports, greatest_retention}
use Rattle.checkpoint_spec.specs.history_spec.Node.{newest}
use Rattle.checkpoint_spec.specs.history_spec.Report.{is_retained, retained, is_outranked_by, distinct}
use Rattle.checkpoint_spec.specs.history_spec.Trace.{is_kind, rank_of, Trace, IsTrace}
use Rattle.checkpoint_spec.specs.table_spec.Sorted.{sorted_by}
use Rattle.checkpoint_spec.proofs.of_history_laws.Ranks.{rank_cmp_total, kind_from_is_kind}
use Rattle.checkpoint_spec.proofs.of_history_laws.SortedTexts.{text_cmp_total}
use Rattle.checkpoint_spec.proofs.of_history_laws.TraceLemmas.{nodes_are_strictly_sorted}
use Rattle.checkpoint_spec.proofs.of_table_machine.KeptReports.{HaveDistinctReceipts, distinct-filter, one_receipt}
use Rattle.checkpoint_spec.proofs.of_table_machine.ReportStamps.{life_is_distinct}
use Rattle.checkpoint_spec.proofs.of_table_laws.SortedLists.{Apart, sorted_by-sorted}
use Rattle.checkpoint_spec.proofs.of_table_laws.SortedRows.{sorted-blocks}
use Rattle.checkpoint_spec.specs.Histories.{commands_in}
use Rattle.checkpoint_spec.specs.Lists.{if_kept}
use Rattle.checkpoint_spec.proofs.ListLaws.{distinct_greatest}
use Rattle.checkpoint_laws.specs.Laws as laws
use Rattle.checkpoint_laws.specs.Order.{place_of, rank_order, command_cmp}
use Rattle.checkpoint_laws.proofs.NodeCommands.{IsOf, newest_is, reports_are}

-- ---- reports by rank

rank_order_total : IsTotalOrder rank_order
rank_order_total = on_total rank_of rank_cmp_total

equal_ranks : (x y : Applied) → rank_order x y ≡ Equal → x.receipt ≡ y.receipt
equal_ranks x y e = one_receipt x y (ap is_lt e) (ap is_lt (tied_back rank_order_total x y e))

apart_receipts : (xs : List Applied) → HaveDistinctReceipts xs → Apart rank_order rank_order_total xs
apart_receipts [] h = tt
apart_receipts (x ∷ xs) h = (λ y a tied. h.0 y a (sym (equal_ranks x y tied)), apart_receipts xs h.1)

kept_are_distinct : (ttls : Ttls) (certname : List ℕ) (history : Trace) → IsTrace history → HaveDistinctReceipts (kept_reports ttls certname history)
kept_are_distinct ttls certname history is =
    let xs = life ttls certname history in
    let retention = greatest_retention history in
    distinct_greatest ttls.report_count (distinct (retained ttls retention xs))
    (distinct-filter (λ x. not (list_any (is_outranked_by x) (retained ttls retention xs))) (retained ttls retention xs)
    (distinct-filter (λ x. is_kind kind.Report x && is_retained ttls retention x) xs (life_is_distinct ttls certname history is)))

-- ---- one command before another

-- of one node, by their kinds
by_kind : (x y : Applied) → change_certname x.change ≡ change_certname y.change → place_of (change_kind x.change) < place_of (change_kind y.change) → command_cmp x y ≡ Less
by_kind x y same less =
    let tied : text_cmp (change_certname x.change) (change_certname y.change) ≡ Equal = ap (text_cmp (change_certname x.change)) (sym same) ∙ tied_itself text_cmp_total (change_certname x.change) in
    let below : nat_cmp (place_of (change_kind x.change)) (place_of (change_kind y.change)) ≡ Less = sym (nat_cmp_is (place_of (change_kind x.change)) (place_of (change_kind y.change)) Less less) in
    rw (tied, below) refl

-- of one node's reports, by their ranks
by_ranks : (x y : Applied) → change_certname x.change ≡ change_certname y.change → is_kind kind.Report x ≡ true → is_kind kind.Report y ≡ true → rank_order x y ≡ Less → command_cmp x y ≡ Less
by_ranks x y same one other below =
    let tied : text_cmp (change_certname x.change) (change_certname y.change) ≡ Equal = ap (text_cmp (change_certname x.change)) (sym same) ∙ tied_itself text_cmp_total (change_certname x.change) in
    let kinds : nat_cmp (place_of (change_kind x.change)) (place_of (change_kind y.change)) ≡ Equal = rw (kind_from_is_kind kind.Report x one, kind_from_is_kind kind.Report y other) refl in
    rw (tied, kinds, one) below

-- ---- the commands of one node

-- they are of the node, and of kinds from a place on
abbrev From : List ℕ → ℕ → List Applied → Type 0
From certname place xs = (x : Applied) → Among x xs → (change_certname x.change ≡ certname) × (place ≤ place_of (change_kind x.change))

-- the one of a kind stands in front of those of later kinds
in_front : (certname : List ℕ) (k : Kind) (o : Option Applied) (zs : List Applied) → IsOf certname k (if_kept o) → From certname (suc (place_of k)) zs → IsStrictlySortedBy command_cmp zs
    → IsStrictlySortedBy command_cmp (if_kept o ++ zs)
in_front certname k None zs of from s = s
in_front certname k (Some x) zs of from s =
    let here = of x (inl refl) in
    sorted-cons command_cmp x zs
    (λ y a.
    let there = from y a in
    let place : place_of (change_kind x.change) ≡ place_of k = ap place_of here.1 in
    by_kind x y (here.0 ∙ sym there.0) (omega (arith, place, there.1)))
    s

from_both : (certname : List ℕ) (k : Kind) (o : Option Applied) (zs : List Applied) → IsOf certname k (if_kept o) → From certname (suc (place_of k)) zs → From certname (place_of k) (if_kept o ++ zs)
from_both certname k o zs of from x a = elim (Among-append_cases (if_kept o) zs x a) [
  | inl b ↦ let here = of x b in let place : place_of (change_kind x.change) ≡ place_of k = ap place_of here.1 in (here.0, omega (arith, place))
  | inr b ↦ let there = from x b in (there.0, omega (arith, there.1))
]

-- reports that rise by rank rise so among all
reports_between : (certname : List ℕ) (xs : List Applied) → IsOf certname kind.Report xs → IsStrictlySortedBy rank_order xs → IsStrictlySortedBy command_cmp xs
reports_between certname [] of s = sorted-nil command_cmp
reports_between certname (x ∷ xs) of s =
    sorted-cons command_cmp x xs
    (λ y a.
    let here = of x (inl refl) in
    let there = of y (inr a) in
    by_ranks x y (here.0 ∙ sym there.0) (report x here.1) (report y there.1) (sorted-below rank_order x xs s y a))
    (reports_between certname xs (λ y a. of y (inr a)) (sorted-rest rank_order x xs s))
  where
    report : (x : Applied) → change_kind x.change ≡ kind.Report → is_kind kind.Report x ≡ true
    report x k = rw k refl

module _ (ttls : Ttls) (history : Trace) (is : IsTrace history) (certname : List ℕ) where
  abbrev xs : List Applied
  xs = life ttls certname history

  abbrev reports : List Applied
  reports = sorted_by rank_order (kept_reports ttls certname history)

  reports_rise : IsStrictlySortedBy command_cmp reports
  reports_rise =
      reports_between certname reports (reports_are rank_order ttls history certname)
      (sorted_by-sorted rank_order rank_order_total (kept_reports ttls certname history) (apart_receipts (kept_reports ttls certname history) (kept_are_distinct ttls certname history is)))

  -- a node's commands rise, and are its own
  record Rises (place : ℕ) (zs : List Applied) : Type 0 where
    sorted : IsStrictlySortedBy command_cmp zs
    from : From certname place zs

  with_newest : (k : Kind) (zs : List Applied) → Rises (suc (place_of k)) zs → Rises (place_of k) (if_kept (newest k xs) ++ zs)
  with_newest k zs rises =
      let of = newest_is ttls history certname k (newest k xs) refl in
      record { sorted = in_front certname k (newest k xs) zs of rises.from rises.sorted; from = from_both certname k (newest k xs) zs of rises.from }

  with_reports : Rises 4 reports
  with_reports = record { sorted = reports_rise; from = λ x a. let it = reports_are rank_order ttls history certname x a in let place : place_of (change_kind x.change) ≡ 4 = ap place_of it.1 in (it.0, omega (arith, place)) }

  node_rises : Rises 0 (commands_in ttls history certname)
  node_rises = with_newest kind.Facts _ (with_newest kind.Catalog _ (with_newest kind.Deactivate _ (with_newest kind.Expiration _ with_reports)))

-- ---- one node after the other

pub commands_rise : laws.CommandsRise
commands_rise ttls history is =
    sorted-blocks text_cmp command_cmp (commands_in ttls history) (nodes ttls history) (nodes_are_strictly_sorted ttls history)
    (λ n a. (node_rises ttls history is n).sorted)
    (λ n m x y a b below u v.
    let one = ((node_rises ttls history is n).from x u).0 in
    let other = ((node_rises ttls history is m).from y v).0 in
    let less : text_cmp (change_certname x.change) (change_certname y.change) ≡ Less = (λ i. text_cmp (one i) (other i)) ∙ below in
    rw less refl)
