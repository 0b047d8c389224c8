-- Reports of which all are kept stay as they are, in whatever order they stand.
use Rattle.std.proofs.Common.{◌≡◌, ◌∙◌, inl, inr, ℕ, suc, ◌<◌, ◌≤◌, ℤ, List, [], ◌∷◌, length, map, arith, refl, sym, ap, true, false, not, Option, Some, None}
use Rattle.std.specs.Prelude.{nat_lt}
use Rattle.std.specs.List.{filter, list_any, AllByRecursion}
use Rattle.std.specs.Str.{bytes_eq}
use Rattle.checkpoint_spec.specs.fleet_rows.Change.{change_stamp}
use Rattle.checkpoint_spec.specs.fleet_rows.declared.applied.Applied.{Applied}
use Rattle.checkpoint_spec.specs.fleet_rows.declared.change.Change.{Change}
use Rattle.checkpoint_spec.specs.fleet_rows.declared.change.Change.TheVariants.{Facts, Catalog, Report, Deactivate, Expiration}
use Rattle.checkpoint_spec.specs.fleet_rows.declared.command.Kind.TheVariants as kind
use Rattle.checkpoint_spec.specs.fleet_rows.declared.settings.Ttls.{Ttls}
use Rattle.checkpoint_spec.specs.history_spec.Report.{report_text, is_same_report, is_retained, is_below, is_outranked_by, distinct, greatest}
use Rattle.checkpoint_spec.specs.history_spec.Trace.{is_kind, rank_of}
use Rattle.checkpoint_spec.specs.table_spec.Sorted.{report_cmp}
use Rattle.checkpoint_spec.specs.table_machine.Places.{sorted}
use Rattle.checkpoint_spec.proofs.of_plain_laws.Booleans.{both_true, no_truth, not_true, never}
use Rattle.checkpoint_spec.proofs.of_plain_laws.Lists.{bytes_eq-itself, one_text}
use Rattle.checkpoint_spec.proofs.of_plain_laws.Members.{Among, All-Among, Among-map}
use Rattle.checkpoint_spec.proofs.of_plain_laws.StrictlySorted.{sorted-unique}
use Rattle.checkpoint_spec.proofs.of_history_laws.Counts.{count-fewer}
use Rattle.checkpoint_spec.proofs.of_history_laws.Ranks.{is_kind_from_kind, not_below_itself}
use Rattle.checkpoint_spec.proofs.of_history_laws.SameMembers.{passes_from_any}
use Rattle.checkpoint_spec.proofs.of_table_machine.KeptReports.{same_from_tied}
use Rattle.checkpoint_spec.proofs.of_table_machine.Ranked.{filter-every}
use Rattle.checkpoint_spec.proofs.of_table_machine.ReportOrder.{report_cmp_total}
use Rattle.checkpoint_spec.proofs.of_table_machine.Risen.{KeysTell, sorted-sorted, among-sorted, among-from_sorted}
use Rattle.list_again.specs.Rules.{is_old, IsLeft, AreDifferent, IsWithin, AreKept}
use Rattle.list_again.specs.Told.{change_in}
use Rattle.list_again.proofs.Turned.{turned, turned_length, among_turned, among_from_all_turned}

-- ---- two reports

same_back : (c d : Change) → is_same_report c d ≡ true → is_same_report d c ≡ true
same_back (Report r) (Report q) h = ap (λ s. bytes_eq s (report_text r)) (sym (one_text (report_text r) (report_text q) h)) ∙ bytes_eq-itself (report_text r)
same_back (Report r) (Facts d) h = no_truth h
same_back (Report r) (Catalog d) h = no_truth h
same_back (Report r) (Deactivate d) h = no_truth h
same_back (Report r) (Expiration d) h = no_truth h
same_back (Facts c) d h = no_truth h
same_back (Catalog c) d h = no_truth h
same_back (Deactivate c) d h = no_truth h
same_back (Expiration c) d h = no_truth h

-- what holds of each change holds of the change of each command
pub change_has : (P : Change → Type 0) (xs : List Applied) → AllByRecursion P (map change_in xs) → (x : Applied) → Among x xs → P x.change
change_has P xs all x a = All-Among P (map change_in xs) x.change all (Among-map change_in xs x a)

-- of different reports two that are the same are one
pub same_is_one : (xs : List Applied) → AreDifferent (map change_in xs) → (x y : Applied) → Among x xs → Among y xs → is_same_report x.change y.change ≡ true → x ≡ y
same_is_one [] d x y a b h = absurd a
same_is_one (z ∷ xs) d x y (inl e) (inl f) h = e ∙ sym f
same_is_one (z ∷ xs) d x y (inl e) (inr b) h =
    never (is_same_report z.change y.change) (ap (λ (w : Applied). is_same_report w.change y.change) (sym e) ∙ h) (change_has (λ c. is_same_report z.change c ≡ false) xs d.0 y b)
same_is_one (z ∷ xs) d x y (inr a) (inl f) h =
    never (is_same_report z.change x.change) (same_back x.change z.change (ap (λ (w : Applied). is_same_report x.change w.change) (sym f) ∙ h)) (change_has (λ c. is_same_report z.change c ≡ false) xs d.0 x a)
same_is_one (z ∷ xs) d x y (inr a) (inr b) h = same_is_one xs d.1 x y a b h

pub mapped_length : (xs : List Applied) → length (map change_in xs) ≡ length xs
mapped_length [] = refl
mapped_length (x ∷ xs) = ap suc (mapped_length xs)

-- ---- a sweep of reports leaves what isn't old

pub retained_is : (ttls : Ttls) (retention : Option ℤ) (x : Applied) → is_retained ttls retention x ≡ not (is_old ttls retention (change_stamp x.change))
retained_is ttls None x = refl
retained_is ttls (Some sweep) x = refl

module _ (ttls : Ttls) (retention : Option ℤ) (certname : List ℕ) (rs : List Applied) (kept : AreKept ttls retention certname (map change_in rs)) where
  pub left : (x : Applied) → Among x rs → IsLeft ttls retention certname x.change
  left x a = change_has (IsLeft ttls retention certname) rs kept.each x a

  pub is_report : (x : Applied) → Among x rs → is_kind kind.Report x ≡ true
  is_report x a = is_kind_from_kind kind.Report x (left x a).is_of.kind_is

  -- they have different keys
  pub keys_tell : KeysTell report_cmp report_cmp_total rs
  keys_tell x y a b tied = same_is_one rs kept.different x y a b (same_from_tied x y (is_report x a) (is_report y b) tied)

  -- ---- all are kept

  outranks_none : (x y : Applied) → Among x rs → Among y rs → is_outranked_by x y ≡ true → ⊥
  outranks_none x y a b h =
      let both = both_true (is_below x y) (is_same_report x.change y.change) h in
      let one = same_is_one rs kept.different x y a b both.1 in
      never (is_below x x) (ap (is_below x) one ∙ both.0) (not_below_itself (rank_of x))

  distinct_again : distinct (turned rs []) ≡ turned rs []
  distinct_again =
      filter-every (λ x. not (list_any (is_outranked_by x) (turned rs []))) (turned rs [])
      (λ x a. not_true (list_any (is_outranked_by x) (turned rs [])) (λ any.
      let one = passes_from_any (is_outranked_by x) (turned rs []) any in
      outranks_none x one.0 (among_from_all_turned x rs a) (among_from_all_turned one.0 rs one.1) one.2))

  fewer : (m n k : ℕ) → m < n → n ≤ k → nat_lt m k ≡ true
  fewer m n k h g = grind arith

  greatest_again : (count : Option ℕ) → IsWithin count (length (map change_in rs)) → greatest count (turned rs []) ≡ turned rs []
  greatest_again None h = refl
  greatest_again (Some n) h =
      let long = turned_length rs [] in
      let same = mapped_length rs in
      let most : length (turned rs []) ≤ n = omega (arith, long, same, h) in
      filter-every (λ x. nat_lt (length (filter (is_below x) (turned rs []))) n) (turned rs [])
      (λ x a. fewer (length (filter (is_below x) (turned rs []))) (length (turned rs [])) n (count-fewer (is_below x) (turned rs []) x a (not_below_itself (rank_of x))) most)

  pub kept_again : greatest ttls.report_count (distinct (turned rs [])) ≡ turned rs []
  kept_again = ap (greatest ttls.report_count) distinct_again ∙ greatest_again ttls.report_count kept.few

  -- ---- their order

  turned_tell : KeysTell report_cmp report_cmp_total (turned rs [])
  turned_tell x y a b tied = keys_tell x y (among_from_all_turned x rs a) (among_from_all_turned y rs b) tied

  pub sorted_again : sorted report_cmp (turned rs []) ≡ sorted report_cmp rs
  sorted_again =
      sorted-unique report_cmp report_cmp_total (sorted report_cmp (turned rs [])) (sorted report_cmp rs)
      (sorted-sorted report_cmp report_cmp_total (turned rs [])) (sorted-sorted report_cmp report_cmp_total rs)
      (λ w a. among-sorted report_cmp report_cmp_total w rs keys_tell (among_from_all_turned w rs (among-from_sorted report_cmp report_cmp_total w (turned rs []) a)))
      (λ w a. among-sorted report_cmp report_cmp_total w (turned rs []) turned_tell (among_turned w rs [] (inl (among-from_sorted report_cmp report_cmp_total w rs a))))
