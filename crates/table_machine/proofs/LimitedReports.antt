-- The reports that are kept of a node, in order, are what is left where each report in turn is put into its place, and then
-- the one of the least rank leaves where they are more than the limit.
use Rattle.std.proofs.Common.{◌≡◌, ◌∙◌, ℕ, suc, ◌≤◌, ℤ, List, [], ◌∷◌, length, refl, sym, ap, arith, Bool, true, false, ◌&&◌, Option, Some, None, cond, if◌then◌else◌, inl, inr}
use Rattle.std.specs.Prelude.{nat_lt}
use Rattle.std.specs.Cmp.{IsTotalOrder}
use Rattle.std.specs.List.{filter, list_any}
use Rattle.std.specs.List.Sorted.{IsStrictlySortedBy}
use Rattle.std.specs.Ordering.{is_lt}
use Rattle.std.specs.declared.cmp.Ordering.{Ordering}
use Rattle.std.specs.declared.cmp.Ordering.TheVariants.{Equal}
use Rattle.std.proofs.lemmas.Cmp.{back_total, on_total, tied_back}
use Rattle.std.proofs.lemmas.List.Kept.{IsStrictlySortedBy-filter}
use Rattle.table_spec.specs.fleet_rows.Rank.{rank_cmp}
use Rattle.table_spec.specs.fleet_rows.declared.command.Kind.TheVariants as kind
use Rattle.table_spec.specs.fleet_rows.declared.settings.Ttls.{Ttls}
use Rattle.table_spec.specs.fleet_rows.declared.applied.Applied.{Applied}
use Rattle.table_spec.specs.history_spec.Trace.{is_kind, rank_of}
use Rattle.table_spec.specs.history_spec.Report.{is_retained, retained, is_below, distinct, greatest, reports_kept_of}
use Rattle.table_spec.proofs.of_plain_laws.Members.{Among, Among-filter, Among-from_filter}
use Rattle.history_laws.proofs.Ranks.{rank_cmp_total}
use Rattle.table_spec.proofs.of_plain_laws.StrictlySorted.{sorted-unique}
use Rattle.table_spec.specs.Sorted.{report_cmp}
use Rattle.table_machine.specs.Steps.{put_report, without_least, limited, with_report}
use Rattle.table_machine.specs.Places.{sorted}
use Rattle.table_machine.proofs.Risen.{KeysTell, sorted-sorted, among-sorted, among-from_sorted}
use Rattle.table_machine.proofs.Unbeaten.{best, sorted-best, best_is_unbeaten}
use Rattle.table_machine.proofs.Ranked.{Apart, apart-tells, count-sorted, top-at_most, apart-risen}
use Rattle.table_machine.proofs.RankedPuts.{IsFresh, few_are_apart, top-put}
use Rattle.table_machine.proofs.Least as least
use Rattle.table_machine.proofs.ReportOrder.{report_cmp_total}
use Rattle.table_machine.proofs.KeptReports.{AreReports, HaveDistinctReceipts, SameStamps, receipts_tell, distinct-filter, is_below_beats, one_receipt, kept_are_apart, sorted_kept_is_best, retained_are_reports, retained_among}

-- ---- by rank, the greatest first

abbrev pub by_rank : Applied → Applied → Ordering
by_rank x y = rank_cmp (rank_of y) (rank_of x)

pub by_rank_total : IsTotalOrder by_rank
by_rank_total = back_total (on_total rank_of rank_cmp_total)

pub equal_ranks : (x y : Applied) → by_rank x y ≡ Equal → x.receipt ≡ y.receipt
equal_ranks x y e = one_receipt x y (ap is_lt (tied_back by_rank_total x y e)) (ap is_lt e)

-- ---- a limit, and one report more

same_least : (xs : List Applied) → without_least xs ≡ least.without_least by_rank by_rank_total xs
same_least [] = refl
same_least (x ∷ xs) = ap (λ ys. if list_any (λ y. is_below y x) xs then x ∷ ys else xs) (same_least xs)

limited_is_greatest : (n : ℕ) (xs : List Applied) → Apart by_rank by_rank_total xs → length xs ≤ suc n → limited (Some n) xs ≡ greatest (Some n) xs
limited_is_greatest n xs apart h =
    ap (λ ys. if nat_lt n (length xs) then ys else xs) (same_least xs) ∙ least.limited-top by_rank by_rank_total n xs apart h

limited-put : (count : Option ℕ) (x : Applied) (ys : List Applied) → IsStrictlySortedBy report_cmp ys → KeysTell by_rank by_rank_total (x ∷ ys) → IsFresh report_cmp by_rank report_cmp_total by_rank_total x ys →
    limited count (put_report x (greatest count ys)) ≡ greatest count (put_report x ys)
limited-put None x ys s tell fresh = refl
limited-put (Some n) x ys s tell fresh =
    let few = top-at_most by_rank by_rank_total n ys (apart-risen by_rank by_rank_total report_cmp report_cmp_total ys s (λ y z a b. tell y z (inr a) (inr b))) in
    let longer = least.put-longer (report_cmp x) x (λ y. if is_below x y then y else x) (greatest (Some n) ys) in
    limited_is_greatest n (put_report x (greatest (Some n) ys)) (few_are_apart report_cmp by_rank report_cmp_total by_rank_total n x ys s tell fresh) (omega (arith, few, longer))
    ∙ top-put report_cmp by_rank report_cmp_total by_rank_total n x ys s tell fresh

-- ---- the greatest, in order

pub greatest_among : (count : Option ℕ) (xs : List Applied) (x : Applied) → Among x (greatest count xs) → Among x xs
greatest_among None xs x a = a
greatest_among (Some n) xs x a = (Among-from_filter (λ y. nat_lt (length (filter (is_below y) xs)) n) xs x a).0

pub sorted-greatest : (count : Option ℕ) (xs : List Applied) → Apart report_cmp report_cmp_total xs → sorted report_cmp (greatest count xs) ≡ greatest count (sorted report_cmp xs)
sorted-greatest None xs apart = refl
sorted-greatest (Some n) xs apart =
    let tell = apart-tells report_cmp report_cmp_total xs apart in
    let same : (w : Applied) → nat_lt (length (filter (is_below w) (sorted report_cmp xs))) n ≡ nat_lt (length (filter (is_below w) xs)) n = λ w. ap (λ m. nat_lt m n) (count-sorted report_cmp report_cmp_total (is_below w) xs apart) in
    sorted-unique report_cmp report_cmp_total (sorted report_cmp (greatest (Some n) xs)) (greatest (Some n) (sorted report_cmp xs))
    (sorted-sorted report_cmp report_cmp_total (greatest (Some n) xs))
    (IsStrictlySortedBy-filter report_cmp (λ y. nat_lt (length (filter (is_below y) (sorted report_cmp xs))) n) (sorted report_cmp xs) (sorted-sorted report_cmp report_cmp_total xs))
    (λ w a.
    let f = Among-from_filter (λ y. nat_lt (length (filter (is_below y) xs)) n) xs w (among-from_sorted report_cmp report_cmp_total w (greatest (Some n) xs) a) in
    Among-filter (λ y. nat_lt (length (filter (is_below y) (sorted report_cmp xs))) n) (sorted report_cmp xs) w (among-sorted report_cmp report_cmp_total w xs tell f.0) (same w ∙ f.1))
    (λ w a.
    let f = Among-from_filter (λ y. nat_lt (length (filter (is_below y) (sorted report_cmp xs))) n) (sorted report_cmp xs) w a in
    among-sorted report_cmp report_cmp_total w (greatest (Some n) xs) (λ x y b d. tell x y (greatest_among (Some n) xs x b) (greatest_among (Some n) xs y d))
    (Among-filter (λ y. nat_lt (length (filter (is_below y) xs)) n) xs w (among-from_sorted report_cmp report_cmp_total w xs f.0) (sym (same w) ∙ f.1)))

-- ---- what is kept of a list

abbrev best_of : List Applied → List Applied
best_of xs = best report_cmp report_cmp_total is_below is_below_beats xs

kept_is_greatest : (count : Option ℕ) (xs : List Applied) → AreReports xs → HaveDistinctReceipts xs → SameStamps xs → sorted report_cmp (greatest count (distinct xs)) ≡ greatest count (best_of xs)
kept_is_greatest count xs all d same =
    sorted-greatest count (distinct xs) (kept_are_apart xs all d) ∙ ap (greatest count) (sorted_kept_is_best xs all (receipts_tell xs d) same)

best_among : (x : Applied) (xs : List Applied) → Among x (best_of xs) → Among x xs
best_among x xs a = (best_is_unbeaten report_cmp report_cmp_total is_below is_below_beats x xs a).among

with_best : (x y : Applied) (xs : List Applied) → Among y (x ∷ best_of xs) → Among y (x ∷ xs)
with_best x y xs (inl e) = inl e
with_best x y xs (inr a) = inr (best_among y xs a)

kept_step : (b : Bool) (count : Option ℕ) (x : Applied) (xs : List Applied) → AreReports (cond b (x ∷ xs) xs) → HaveDistinctReceipts (cond b (x ∷ xs) xs) → SameStamps (cond b (x ∷ xs) xs) →
    (if b then limited count (put_report x (sorted report_cmp (greatest count (distinct xs)))) else sorted report_cmp (greatest count (distinct xs))) ≡ sorted report_cmp (greatest count (distinct (cond b (x ∷ xs) xs)))
kept_step true count x xs all d same =
    ap (λ ys. limited count (put_report x ys)) (kept_is_greatest count xs (λ y a. all y (inr a)) d.1 (λ y z a b e. same y z (inr a) (inr b) e))
    ∙ limited-put count x (best_of xs) (sorted-best report_cmp report_cmp_total is_below is_below_beats xs)
    (λ y z a b tied. receipts_tell (x ∷ xs) d y z (with_best x y xs a) (with_best x z xs b) (equal_ranks y z tied))
    (λ y a tied. d.0 y (best_among y xs a) (sym (equal_ranks x y tied)))
    ∙ sym (kept_is_greatest count (x ∷ xs) all d same)
kept_step false count x xs all d same = refl

-- ---- one command more

-- a report that is applied comes to its place among those that are kept, and where they are too many then, one leaves
pub report_applied : (ttls : Ttls) (retention : Option ℤ) (x : Applied) (xs : List Applied) → HaveDistinctReceipts (x ∷ xs) → SameStamps (x ∷ xs) →
    with_report ttls retention x (sorted report_cmp (reports_kept_of ttls retention xs)) ≡ sorted report_cmp (reports_kept_of ttls retention (x ∷ xs))
report_applied ttls retention x xs d same =
    kept_step (is_kind kind.Report x && is_retained ttls retention x) ttls.report_count x (retained ttls retention xs)
    (retained_are_reports ttls retention (x ∷ xs))
    (distinct-filter (λ y. is_kind kind.Report y && is_retained ttls retention y) (x ∷ xs) d)
    (λ y z a b e. same y z (retained_among ttls retention (x ∷ xs) y a) (retained_among ttls retention (x ∷ xs) z b) e)
