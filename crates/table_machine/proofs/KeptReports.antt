-- Of reports that are one the one of the greatest rank, in order, is what is left where each report in turn is put into its place.
use Rattle.std.proofs.Common.{◌≡◌, ◌≢◌, ◌∙◌, ℕ, ℤ, List, [], ◌∷◌, refl, sym, ap, Bool, true, false, not, ◌&&◌, Option, cond, inl, inr}
use Rattle.std.specs.List.{filter, list_any}
use Rattle.std.specs.declared.cmp.Ordering.{Ordering}
use Rattle.std.specs.declared.cmp.Ordering.TheVariants.{Less, Equal, Greater}
use Rattle.std.specs.Ordering.{is_lt, is_gt, int_cmp, nat_cmp, ordering_then}
use Rattle.std.proofs.lemmas.Cmp.{int_cmp_total, ranked, tied_back, tied_itself}
use Rattle.std.proofs.lemmas.Slice.Eq.{bytes_eq-Decides}
use Rattle.table_spec.specs.text_spec.Compact.{text_cmp}
use Rattle.table_spec.proofs.of_plain_laws.Booleans.{both_true, true_both, not_true}
use Rattle.table_spec.specs.fleet_rows.declared.change.Change.{Change}
use Rattle.table_spec.specs.fleet_rows.declared.change.Change.TheVariants.{Facts, Catalog, Report, Deactivate, Expiration}
use Rattle.table_spec.specs.fleet_rows.declared.command.Kind.TheVariants as kind
use Rattle.table_spec.specs.fleet_rows.declared.settings.Ttls.{Ttls}
use Rattle.table_spec.specs.fleet_rows.Change.{change_stamp, change_kind}
use Rattle.table_spec.specs.fleet_rows.declared.applied.Applied.{Applied}
use Rattle.table_spec.specs.history_spec.Trace.{is_kind, rank_of}
use Rattle.table_spec.specs.history_spec.Report.{report_text, is_retained, retained, is_below, is_outranked_by, is_same_report, distinct}
use Rattle.table_spec.proofs.of_plain_laws.Members.{Among, Among-filter, Among-from_filter}
use Rattle.history_laws.proofs.Ranks.{kind_from_is_kind, not_below_itself, not_below_back, not_below_further, turned_round}
use Rattle.history_laws.proofs.SameMembers.{passes_from_any, any_from_passes}
use Rattle.history_laws.proofs.SortedTexts.{text_cmp_total}
use Rattle.table_spec.proofs.of_plain_laws.StrictlySorted.{sorted-unique}
use Rattle.table_spec.specs.Sorted.{text_of_report, report_cmp}
use Rattle.table_machine.specs.Places.{sorted}
use Rattle.table_machine.proofs.Risen.{KeysTell, sorted-sorted, among-sorted, among-from_sorted}
use Rattle.table_machine.proofs.Ranked.{Apart}
use Rattle.table_machine.proofs.Unbeaten.{IsBeating, best, sorted-best, IsUnbeaten, best_is_unbeaten, unbeaten_is_best, BeatingTells}
use Rattle.table_machine.proofs.ReportOrder.{report_cmp_total, tied_texts}

-- ---- reports that are one

one_text : (a b : Change) → is_same_report a b ≡ true → text_of_report a ≡ text_of_report b
one_text (Report r) (Report q) h = (bytes_eq-Decides (report_text r) (report_text q)).0 h
one_text (Report r) (Facts d) h = absurd (let apart : false ≡ true = h in cc)
one_text (Report r) (Catalog d) h = absurd (let apart : false ≡ true = h in cc)
one_text (Report r) (Deactivate d) h = absurd (let apart : false ≡ true = h in cc)
one_text (Report r) (Expiration d) h = absurd (let apart : false ≡ true = h in cc)
one_text (Facts c) b h = absurd (let apart : false ≡ true = h in cc)
one_text (Catalog c) b h = absurd (let apart : false ≡ true = h in cc)
one_text (Deactivate c) b h = absurd (let apart : false ≡ true = h in cc)
one_text (Expiration c) b h = absurd (let apart : false ≡ true = h in cc)

both_reports : (a b : Change) → change_kind a ≡ kind.Report → change_kind b ≡ kind.Report → text_of_report a ≡ text_of_report b → is_same_report a b ≡ true
both_reports (Report r) (Report q) e f h = (bytes_eq-Decides (report_text r) (report_text q)).1 h
both_reports (Report r) (Facts d) e f h = cc
both_reports (Report r) (Catalog d) e f h = cc
both_reports (Report r) (Deactivate d) e f h = cc
both_reports (Report r) (Expiration d) e f h = cc
both_reports (Facts c) b e f h = cc
both_reports (Catalog c) b e f h = cc
both_reports (Deactivate c) b e f h = cc
both_reports (Expiration c) b e f h = cc

-- reports of one key are one
pub same_from_tied : (x y : Applied) → is_kind kind.Report x ≡ true → is_kind kind.Report y ≡ true → report_cmp x y ≡ Equal → is_same_report x.change y.change ≡ true
same_from_tied x y e f h = both_reports x.change y.change (kind_from_is_kind kind.Report x e) (kind_from_is_kind kind.Report y f) (tied_texts x y h)

tied : (a b : ℤ) (s t : List ℕ) → a ≡ b → s ≡ t → ordering_then (int_cmp a b) (text_cmp s t) ≡ Equal
tied a b s t e f = (λ i. ordering_then (int_cmp (e i) b) (text_cmp (f i) t)) ∙ (λ i. ordering_then (tied_itself int_cmp_total b i) (tied_itself text_cmp_total t i))

-- reports that are one and have one timestamp are of one key
pub tied_from_same : (x y : Applied) → change_stamp x.change ≡ change_stamp y.change → is_same_report x.change y.change ≡ true → report_cmp x y ≡ Equal
tied_from_same x y e h = tied (change_stamp x.change) (change_stamp y.change) (text_of_report x.change) (text_of_report y.change) e (one_text x.change y.change h)

-- ---- ranks

pub is_below_beats : IsBeating is_below
is_below_beats = record {
  itself = λ x. not_below_itself (rank_of x);
  back = λ x y h. not_below_back (rank_of x) (rank_of y) h;
  further = λ x y z h k. not_below_further (rank_of x) (rank_of y) (rank_of z) h k;
}

tie : (o p : Ordering) → is_lt (ordering_then o p) ≡ false → is_gt (ordering_then o p) ≡ false → p ≡ Equal
tie Less p h k = cc
tie Equal Less h k = cc
tie Equal Equal h k = refl
tie Equal Greater h k = cc
tie Greater p h k = cc

-- commands of which none outranks the other have one receipt
pub one_receipt : (x y : Applied) → is_below x y ≡ false → is_below y x ≡ false → x.receipt ≡ y.receipt
one_receipt x y h k =
    ranked x.receipt y.receipt Equal (sym (tie (int_cmp (change_stamp x.change) (change_stamp y.change)) (nat_cmp x.receipt y.receipt) h (sym (turned_round (rank_of y) (rank_of x)) ∙ k)))

-- ---- what is kept of a list

-- no two of these have one receipt
abbrev pub HaveDistinctReceipts : List Applied → Type 0
HaveDistinctReceipts [] = Unit {0}
HaveDistinctReceipts (x ∷ xs) = ((y : Applied) → Among y xs → y.receipt ≢ x.receipt) × HaveDistinctReceipts xs

-- those of one receipt are one
abbrev pub ReceiptsTell : List Applied → Type 0
ReceiptsTell xs = (x y : Applied) → Among x xs → Among y xs → x.receipt ≡ y.receipt → x ≡ y

pub receipts_tell : (xs : List Applied) → HaveDistinctReceipts xs → ReceiptsTell xs
receipts_tell [] h x y a d e = absurd a
receipts_tell (z ∷ xs) h x y (inl s) (inl t) e = s ∙ sym t
receipts_tell (z ∷ xs) h x y (inl s) (inr d) e = absurd (h.0 y d (sym e ∙ ap (λ (w : Applied). w.receipt) s))
receipts_tell (z ∷ xs) h x y (inr a) (inl t) e = absurd (h.0 x a (e ∙ ap (λ (w : Applied). w.receipt) t))
receipts_tell (z ∷ xs) h x y (inr a) (inr d) e = receipts_tell xs h.1 x y a d e

distinct_step : (b : Bool) (p : Applied → Bool) (x : Applied) (xs : List Applied) → ((y : Applied) → Among y xs → y.receipt ≢ x.receipt) → HaveDistinctReceipts (filter p xs) → HaveDistinctReceipts (cond b (x ∷ filter p xs) (filter p xs))
distinct_step true p x xs h next = ((λ y a. h y (Among-from_filter p xs y a).0), next)
distinct_step false p x xs h next = next

pub distinct-filter : (p : Applied → Bool) (xs : List Applied) → HaveDistinctReceipts xs → HaveDistinctReceipts (filter p xs)
distinct-filter p [] h = tt
distinct-filter p (x ∷ xs) h = distinct_step (p x) p x xs h.0 (distinct-filter p xs h.1)

-- those that are one have one timestamp
abbrev pub SameStamps : List Applied → Type 0
SameStamps xs = (x y : Applied) → Among x xs → Among y xs → is_same_report x.change y.change ≡ true → change_stamp x.change ≡ change_stamp y.change

abbrev pub AreReports : List Applied → Type 0
AreReports xs = (x : Applied) → Among x xs → is_kind kind.Report x ≡ true

not_found : (b : Bool) → not b ≡ true → b ≡ true → ⊥
not_found true h k = let apart : false ≡ true = h in cc
not_found false h k = let apart : false ≡ true = k in cc

is_false : (b : Bool) → (b ≡ true → ⊥) → b ≡ false
is_false true h = absurd (h refl)
is_false false h = refl

pub kept_is_unbeaten : (xs : List Applied) → AreReports xs → (w : Applied) → Among w (distinct xs) → IsUnbeaten report_cmp report_cmp_total is_below is_below_beats w xs
kept_is_unbeaten xs all w a =
    let from = Among-from_filter (λ x. not (list_any (is_outranked_by x) xs)) xs w a in
    record {
      among = from.0;
      unbeaten = λ v d tied. is_false (is_below w v) (λ below. not_found (list_any (is_outranked_by w) xs) from.1
          (any_from_passes (is_outranked_by w) xs v d (true_both (is_below w v) (is_same_report w.change v.change) below (same_from_tied w v (all w from.0) (all v d) tied))));
    }

outranked_is_beaten : (xs : List Applied) → SameStamps xs → (w : Applied) → IsUnbeaten report_cmp report_cmp_total is_below is_below_beats w xs → list_any (is_outranked_by w) xs ≡ true → ⊥
outranked_is_beaten xs same w h any =
    let one = passes_from_any (is_outranked_by w) xs any in
    let parts = both_true (is_below w one.0) (is_same_report w.change one.0.change) one.2 in
    let tied = tied_from_same w one.0 (same w one.0 h.among one.1 parts.1) parts.1 in
    let not_below : is_below w one.0 ≡ false = h.unbeaten one.0 one.1 tied in
    let apart : true ≡ false = sym parts.0 ∙ not_below in
    cc

pub unbeaten_is_kept : (xs : List Applied) → SameStamps xs → (w : Applied) → IsUnbeaten report_cmp report_cmp_total is_below is_below_beats w xs → Among w (distinct xs)
unbeaten_is_kept xs same w h =
    Among-filter (λ x. not (list_any (is_outranked_by x) xs)) xs w h.among (not_true (list_any (is_outranked_by w) xs) (outranked_is_beaten xs same w h))

beating_tells : (xs : List Applied) → ReceiptsTell xs → BeatingTells report_cmp report_cmp_total is_below is_below_beats xs
beating_tells xs tell x y a d tied h k = tell x y a d (one_receipt x y h k)

-- of those that are kept no two have one key
pub kept_keys_tell : (xs : List Applied) → AreReports xs → ReceiptsTell xs → KeysTell report_cmp report_cmp_total (distinct xs)
kept_keys_tell xs all tell x y a d tied =
    let u = kept_is_unbeaten xs all x a in
    let v = kept_is_unbeaten xs all y d in
    tell x y u.among v.among (one_receipt x y (u.unbeaten y v.among tied) (v.unbeaten x u.among (tied_back report_cmp_total x y tied)))

apart_step : (xs : List Applied) → HaveDistinctReceipts xs → ((x y : Applied) → Among x xs → Among y xs → report_cmp x y ≡ Equal → x.receipt ≡ y.receipt) → Apart report_cmp report_cmp_total xs
apart_step [] d h = tt
apart_step (x ∷ xs) d h = (λ y a tied. d.0 y a (sym (h x y (inl refl) (inr a) tied)), apart_step xs d.1 (λ y z a b tied. h y z (inr a) (inr b) tied))

pub kept_are_apart : (xs : List Applied) → AreReports xs → HaveDistinctReceipts xs → Apart report_cmp report_cmp_total (distinct xs)
kept_are_apart xs all d =
    apart_step (distinct xs) (distinct-filter (λ x. not (list_any (is_outranked_by x) xs)) xs d)
    (λ x y a b tied. ap (λ (z : Applied). z.receipt) (kept_keys_tell xs all (receipts_tell xs d) x y a b tied))

pub sorted_kept_is_best : (xs : List Applied) → AreReports xs → ReceiptsTell xs → SameStamps xs → sorted report_cmp (distinct xs) ≡ best report_cmp report_cmp_total is_below is_below_beats xs
sorted_kept_is_best xs all tell same =
    sorted-unique report_cmp report_cmp_total (sorted report_cmp (distinct xs)) (best report_cmp report_cmp_total is_below is_below_beats xs)
    (sorted-sorted report_cmp report_cmp_total (distinct xs)) (sorted-best report_cmp report_cmp_total is_below is_below_beats xs)
    (λ w a. unbeaten_is_best report_cmp report_cmp_total is_below is_below_beats w xs (beating_tells xs tell)
    (kept_is_unbeaten xs all w (among-from_sorted report_cmp report_cmp_total w (distinct xs) a)))
    (λ w a. among-sorted report_cmp report_cmp_total w (distinct xs) (kept_keys_tell xs all tell)
    (unbeaten_is_kept xs same w (best_is_unbeaten report_cmp report_cmp_total is_below is_below_beats w xs a)))

-- ---- those that stay

pub retained_are_reports : (ttls : Ttls) (retention : Option ℤ) (xs : List Applied) → AreReports (retained ttls retention xs)
retained_are_reports ttls retention xs x a =
    (both_true (is_kind kind.Report x) (is_retained ttls retention x) (Among-from_filter (λ y. is_kind kind.Report y && is_retained ttls retention y) xs x a).1).0

pub retained_among : (ttls : Ttls) (retention : Option ℤ) (xs : List Applied) (x : Applied) → Among x (retained ttls retention xs) → Among x xs
retained_among ttls retention xs x a = (Among-from_filter (λ y. is_kind kind.Report y && is_retained ttls retention y) xs x a).0
