-- Which reports of a node are kept, in the words of reports.
use Rattle.std.proofs.Common.{◌≡◌, ◌≢◌, ◌∙◌, inl, inr, ℕ, ◌≤◌, ℤ, List, [], ◌∷◌, length, refl, sym, ap, subst, Bool, true, false, not, ◌&&◌, if◌then◌else◌, Option, Some, None, arith}
use Rattle.std.specs.Prelude.{◌≤ℤ◌, ◌-ℤ◌}
use Rattle.std.specs.List.{Contains, filter, list_any, AllByRecursion}
use Rattle.std.specs.Str.{bytes_eq}
use Rattle.std.proofs.lemmas.Int.{ints}
use Rattle.std.proofs.lemmas.Slice.Eq.{bytes_eq-Decides}
use Rattle.spool_spec.proofs.of_plain_laws.Booleans.{both_true, true_both, not_true, no_truth}
use Rattle.spool_spec.proofs.of_plain_laws.Options.{none_some}
use Rattle.spool_spec.proofs.of_plain_laws.Lists.{bytes_eq-itself}
use Rattle.spool_spec.specs.fleet_rows.declared.change.Change.{Change}
use Rattle.spool_spec.specs.fleet_rows.declared.change.Change.TheVariants.{Facts, Catalog, Report, Deactivate, Expiration}
use Rattle.spool_spec.specs.fleet_rows.declared.change.ReportChange.{ReportChange}
use Rattle.spool_spec.specs.fleet_rows.declared.command.Kind.TheVariants as kind
use Rattle.spool_spec.specs.fleet_rows.declared.settings.Ttls.{Ttls}
use Rattle.spool_spec.specs.fleet_rows.declared.applied.Applied.{Applied}
use Rattle.spool_spec.specs.fleet_rows.Change.{change_certname, change_kind, change_stamp}
use Rattle.spool_spec.specs.history_spec.Trace.{Trace, applied, swept, rank_of, is_kind, receipts}
use Rattle.spool_spec.specs.history_spec.Node.{days, is_purged}
use Rattle.spool_spec.specs.history_spec.Report.{report_text, is_same_report, is_retained, retained, is_below, is_outranked_by, distinct, greatest}
use Rattle.spool_spec.specs.history_spec.Life.{life, greatest_expiry, greatest_retention, kept_reports}
use Rattle.history_laws.specs.OrderLaws.{AreDistinct}
use Rattle.history_laws.specs.ReportLaws.{IsOneReport, IsRetained, IsFirstOfItsText, WithoutALimitTheFirstAreKept, WithoutALimitEachTextIsKept, OnlyTheFirstAreKept, TheLimitIsKept, WhatIsNotKeptIsOutranked}
use Rattle.history_laws.proofs.Members.{Among, Among-from_Contains, Contains-from_Among, Among-filter, Among-from_filter, All-Among, All-from_Among}
use Rattle.history_laws.proofs.SameMembers.{passes_from_any, any_from_passes}
use Rattle.history_laws.proofs.Ranks.{kind_from_is_kind, is_kind_from_kind, not_below_itself, not_below_back, not_below_further}
use Rattle.history_laws.proofs.RankWords.{is_lt_in_words, is_lt_from_words}
use Rattle.history_laws.proofs.Limits.{AreApart, apart-filter, is_kept, no_more_are_kept, not_kept_is_outranked}

-- ---- one report

same_changes : (c d : Change) → is_same_report c d ≡ true → (r q : ReportChange) × (c ≡ Report r) × (d ≡ Report q) × (report_text r ≡ report_text q)
same_changes (Report r) (Report q) h = (r, q, refl, refl, (bytes_eq-Decides (report_text r) (report_text q)).0 h)
same_changes (Report r) d h = no_truth h
same_changes (Facts c) d h = no_truth h
same_changes (Catalog c) d h = no_truth h
same_changes (Deactivate c) d h = no_truth h
same_changes (Expiration c) d h = no_truth h

one_report_in_words : (x y : Applied) → is_same_report x.change y.change ≡ true → IsOneReport x y
one_report_in_words x y h = same_changes x.change y.change h

is_one_report : (x y : Applied) → IsOneReport x y → is_same_report x.change y.change ≡ true
is_one_report x y h = (λ i. is_same_report (h.2 i) (h.3 i)) ∙ (bytes_eq-Decides (report_text h.0) (report_text h.1)).1 h.4

itself : (c : Change) → change_kind c ≡ kind.Report → is_same_report c c ≡ true
itself (Report r) h = bytes_eq-itself (report_text r)
itself (Facts c) h = absurd (let apart : kind.Facts ≡ kind.Report = h in cc)
itself (Catalog c) h = absurd (let apart : kind.Catalog ≡ kind.Report = h in cc)
itself (Deactivate c) h = absurd (let apart : kind.Deactivate ≡ kind.Report = h in cc)
itself (Expiration c) h = absurd (let apart : kind.Expiration ≡ kind.Report = h in cc)

through : (c d e : Change) → is_same_report c d ≡ true → is_same_report d e ≡ true → is_same_report c e ≡ true
through c d e h k =
    let one = same_changes c d h in
    let two = same_changes d e k in
    let between : report_text one.1 ≡ report_text two.0 = (let same : Report one.1 ≡ Report two.0 = sym one.3 ∙ two.2 in ap text_of same) in
    (λ i. is_same_report (one.2 i) (two.3 i)) ∙ (bytes_eq-Decides (report_text one.0) (report_text two.1)).1 (one.4 ∙ between ∙ two.4)
  where
    text_of : Change → List ℕ
    text_of (Report r) = report_text r
    text_of (Facts c) = []
    text_of (Catalog c) = []
    text_of (Deactivate c) = []
    text_of (Expiration c) = []

-- ---- retained

not_older : (ttls : Ttls) (o : Option ℤ) (x : Applied) → is_retained ttls o x ≡ true → (sweep : ℤ) → o ≡ Some sweep → (sweep -ℤ days ttls.report_days) ≤ℤ change_stamp x.change
not_older ttls None x h sweep e = none_some sweep e
not_older ttls (Some m) x h sweep e = let same : m ≡ sweep = cc in subst (λ z. (z -ℤ days ttls.report_days) ≤ℤ change_stamp x.change) same (grind (arith, ints))

retained_if : (ttls : Ttls) (o : Option ℤ) (x : Applied) → ((sweep : ℤ) → o ≡ Some sweep → (sweep -ℤ days ttls.report_days) ≤ℤ change_stamp x.change) → is_retained ttls o x ≡ true
retained_if ttls None x h = refl
retained_if ttls (Some m) x h = let below : (m -ℤ days ttls.report_days) ≤ℤ change_stamp x.change = h m refl in grind (arith, ints)

-- ---- the greatest of some

record Best (x : Applied) (xs : List Applied) : Type 0 where
  best : Applied
  among : Among best (x ∷ xs)
  not_below : (y : Applied) → Among y (x ∷ xs) → is_below best y ≡ false

best_step : (b : Bool) (x y : Applied) (ys : List Applied) (h : Best x ys) → is_below h.best y ≡ b → Best x (y ∷ ys)
best_step true x y ys h e = record {
  best = y;
  among = inr (inl refl);
  not_below = λ z a.
      let others : Among z (x ∷ ys) → is_below y z ≡ false = λ b. not_below_further (rank_of y) (rank_of h.best) (rank_of z) (not_below_back (rank_of h.best) (rank_of y) e) (h.not_below z b) in
      elim a [
        | inl same ↦ others (inl same)
        | inr (inl same) ↦ rw same (not_below_itself (rank_of y))
        | inr (inr b) ↦ others (inr b)
      ];
}
best_step false x y ys h e = record {
  best = h.best;
  among = elim h.among [ inl same ↦ inl same | inr b ↦ inr (inr b) ];
  not_below = λ z a. elim a [
    | inl same ↦ h.not_below z (inl same)
    | inr (inl same) ↦ rw same e
    | inr (inr b) ↦ h.not_below z (inr b)
  ];
}

the_best : (x : Applied) (xs : List Applied) → Best x xs
the_best x [] = record { best = x; among = inl refl; not_below = λ y a. elim a [ inl same ↦ rw same (not_below_itself (rank_of x)) | inr b ↦ absurd b ] }
the_best x (y ∷ ys) = let h = the_best x ys in best_step (is_below h.best y) x y ys h refl

-- ---- receipts

module _ (ttls : Ttls) (node : List ℕ) where
  of_command : (b : Bool) (x y : Applied) (earlier : Trace) → Among y (if b then x ∷ life ttls node earlier else life ttls node earlier) → (Among y (life ttls node earlier) → Among y.receipt (receipts earlier)) → Among y.receipt (receipts (applied x ∷ earlier))
  of_command true x y earlier (inl same) h = inl (ap (λ (z : Applied). z.receipt) same)
  of_command true x y earlier (inr a) h = inr (h a)
  of_command false x y earlier a h = inr (h a)

  of_sweep : (b : Bool) (y : Applied) (earlier : Trace) → Among y (if b then [] else life ttls node earlier) → Among y (life ttls node earlier)
  of_sweep true y earlier a = absurd a
  of_sweep false y earlier a = a

  has_receipt : (history : Trace) (x : Applied) → Among x (life ttls node history) → Among x.receipt (receipts history)
  has_receipt [] x a = absurd a
  has_receipt (applied y ∷ earlier) x a = of_command (bytes_eq node (change_certname y.change)) y x earlier a (has_receipt earlier x)
  has_receipt (swept kinds m ∷ earlier) x a = has_receipt earlier x (of_sweep (kinds.purge && is_purged ttls m (greatest_expiry (swept kinds m ∷ earlier)) (life ttls node earlier)) x earlier a)

  apart_command : (b : Bool) (x : Applied) (xs : List Applied) → AllByRecursion (λ (y : Applied). y.receipt ≢ x.receipt) xs → AreApart xs → AreApart (if b then x ∷ xs else xs)
  apart_command true x xs h d = (h, d)
  apart_command false x xs h d = d

  apart_sweep : (b : Bool) (xs : List Applied) → AreApart xs → AreApart (if b then [] else xs)
  apart_sweep true xs d = tt
  apart_sweep false xs d = d

  -- the commands of a life have distinct receipts
  pub life_is_apart : (history : Trace) → AreDistinct (receipts history) → AreApart (life ttls node history)
  life_is_apart [] d = tt
  life_is_apart (applied x ∷ earlier) d =
      apart_command (bytes_eq node (change_certname x.change)) x (life ttls node earlier)
      (All-from_Among (λ (y : Applied). y.receipt ≢ x.receipt) (life ttls node earlier) (λ y a. All-Among (λ r. r ≢ x.receipt) (receipts earlier) y.receipt d.0 (has_receipt earlier y a)))
      (life_is_apart earlier d.1)
  life_is_apart (swept kinds m ∷ earlier) d =
      apart_sweep (kinds.purge && is_purged ttls m (greatest_expiry (swept kinds m ∷ earlier)) (life ttls node earlier)) (life ttls node earlier) (life_is_apart earlier d)

-- ---- what is kept

module _ (ttls : Ttls) (node : List ℕ) (history : Trace) where
  abbrev sweep : Option ℤ
  sweep = greatest_retention history

  abbrev all_retained : List Applied
  all_retained = retained ttls sweep (life ttls node history)

  abbrev stays : Applied → Bool
  stays x = is_kind kind.Report x && is_retained ttls sweep x

  abbrev stands : Applied → Bool
  stands x = not (list_any (is_outranked_by x) all_retained)

  retained_in_words : (x : Applied) → Among x all_retained → IsRetained ttls node history x
  retained_in_words x a =
      let from = Among-from_filter stays (life ttls node history) x a in
      let both = both_true (is_kind kind.Report x) (is_retained ttls sweep x) from.1 in
      record { of_node = Contains-from_Among (life ttls node history) x from.0; is_report = kind_from_is_kind kind.Report x both.0; not_older = not_older ttls sweep x both.1 }

  is_retained_by_words : (x : Applied) → IsRetained ttls node history x → Among x all_retained
  is_retained_by_words x h =
      Among-filter stays (life ttls node history) x (Among-from_Contains (life ttls node history) x h.of_node)
      (true_both (is_kind kind.Report x) (is_retained ttls sweep x) (is_kind_from_kind kind.Report x h.is_report) (retained_if ttls sweep x h.not_older))

  not_any : (x y : Applied) → list_any (is_outranked_by x) all_retained ≡ false → Among y all_retained → is_outranked_by x y ≡ true → ⊥
  not_any x y h a e = no_truth (sym h ∙ any_from_passes (is_outranked_by x) all_retained y a e)

  is_false : (b : Bool) → not b ≡ true → b ≡ false
  is_false true h = no_truth h
  is_false false h = refl

  first_in_words : (x : Applied) → Among x (distinct all_retained) → IsFirstOfItsText ttls node history x
  first_in_words x a =
      let from = Among-from_filter stands all_retained x a in
      record {
        retained = retained_in_words x from.0;
        not_outranked = λ y h one below.
            not_any x y (is_false (list_any (is_outranked_by x) all_retained) from.1) (is_retained_by_words y h)
            (true_both (is_below x y) (is_same_report x.change y.change) (is_lt_from_words (rank_of x) (rank_of y) below) (is_one_report x y one));
      }

  is_first_by_words : (x : Applied) → IsFirstOfItsText ttls node history x → Among x (distinct all_retained)
  is_first_by_words x h =
      Among-filter stands all_retained x (is_retained_by_words x h.retained)
      (not_true (list_any (is_outranked_by x) all_retained) (λ any.
      let one = passes_from_any (is_outranked_by x) all_retained any in
      let both = both_true (is_below x one.0) (is_same_report x.change one.0.change) one.2 in
      h.not_outranked one.0 (retained_in_words one.0 one.1) (one_report_in_words x one.0 both.1) (is_lt_in_words (rank_of x) (rank_of one.0) both.0)))

  -- of the text of one that is retained the one of the greatest rank
  first_of_text : (x : Applied) → Among x all_retained → change_kind x.change ≡ kind.Report → (y : Applied) × Among y (distinct all_retained) × (is_same_report x.change y.change ≡ true)
  first_of_text x a of =
      let alike : Applied → Bool = λ y. is_same_report x.change y.change in
      let all : List Applied = filter alike all_retained in
      let h = the_best x all in
      let same : is_same_report x.change h.best.change ≡ true = (elim h.among [
        | inl e ↦ ap (λ (z : Applied). is_same_report x.change z.change) e ∙ itself x.change of
        | inr b ↦ (Among-from_filter alike all_retained h.best b).1
      ]) in
      let there : Among h.best all_retained = (elim h.among [
        | inl e ↦ subst (λ z. Among z all_retained) (sym e) a
        | inr b ↦ (Among-from_filter alike all_retained h.best b).0
      ]) in (
        h.best,
        Among-filter stands all_retained h.best there (not_true (list_any (is_outranked_by h.best) all_retained) (λ any.
            let one = passes_from_any (is_outranked_by h.best) all_retained any in
            let both = both_true (is_below h.best one.0) (is_same_report h.best.change one.0.change) one.2 in
            no_truth (sym (h.not_below one.0 (inr (Among-filter alike all_retained one.0 one.1 (through x.change h.best.change one.0.change same both.1)))) ∙ both.0))),
        same,
      )

  -- ---- with a limit, or none

  within : (limit : Option ℕ) (x : Applied) → Among x (greatest limit (distinct all_retained)) → Among x (distinct all_retained)
  within None x a = a
  within (Some count) x a = (Among-from_filter (is_kept count (distinct all_retained)) (distinct all_retained) x a).0

  only_first : (x : Applied) → Contains (kept_reports ttls node history) x → IsFirstOfItsText ttls node history x
  only_first x c = first_in_words x (within ttls.report_count x (Among-from_Contains (kept_reports ttls node history) x c))

  are_apart : AreDistinct (receipts history) → AreApart (distinct all_retained)
  are_apart d = apart-filter stands all_retained (apart-filter stays (life ttls node history) (life_is_apart ttls node history d))

  all_kept : (limit : Option ℕ) (x : Applied) → limit ≡ None → Among x (distinct all_retained) → Among x (greatest limit (distinct all_retained))
  all_kept limit x e a = subst (λ o. Among x (greatest o (distinct all_retained))) (sym e) a

  is_not_kept : (limit : ℕ) (x : Applied) (b : Bool) → is_kept limit (distinct all_retained) x ≡ b → Among x (distinct all_retained) → (Contains (greatest (Some limit) (distinct all_retained)) x → ⊥) → is_kept limit (distinct all_retained) x ≡ false
  is_not_kept limit x true e a absent = absurd (absent (Contains-from_Among (greatest (Some limit) (distinct all_retained)) x (Among-filter (is_kept limit (distinct all_retained)) (distinct all_retained) x a e)))
  is_not_kept limit x false e a absent = e

pub only_the_first_are_kept : OnlyTheFirstAreKept
only_the_first_are_kept = only_first

pub without_a_limit_the_first_are_kept : WithoutALimitTheFirstAreKept
without_a_limit_the_first_are_kept ttls node history x none = (
  only_first ttls node history x,
  λ h. Contains-from_Among (kept_reports ttls node history) x (all_kept ttls node history ttls.report_count x none (is_first_by_words ttls node history x h)),
)

pub without_a_limit_each_text_is_kept : WithoutALimitEachTextIsKept
without_a_limit_each_text_is_kept ttls node history x none h =
    let first = first_of_text ttls node history x (is_retained_by_words ttls node history x h) h.is_report in
    (first.0, Contains-from_Among (kept_reports ttls node history) first.0 (all_kept ttls node history ttls.report_count first.0 none first.1), one_report_in_words x first.0 first.2)

pub the_limit_is_kept : TheLimitIsKept
the_limit_is_kept ttls node history limit e d =
    subst (λ o. length (greatest o (distinct (all_retained ttls node history))) ≤ limit) (sym e) (no_more_are_kept limit (distinct (all_retained ttls node history)) (are_apart ttls node history d))

pub what_is_not_kept_is_outranked : WhatIsNotKeptIsOutranked
what_is_not_kept_is_outranked ttls node history limit x e d first absent =
    let all = distinct (all_retained ttls node history) in
    let a = is_first_by_words ttls node history x first in
    let left : is_kept limit all x ≡ false = is_not_kept ttls node history limit x (is_kept limit all x) refl a (λ c. absent (subst (λ o. Contains (greatest o all) x) (sym e) c)) in
    subst (λ o. limit ≤ length (filter (is_below x) (greatest o all))) (sym e) (not_kept_is_outranked limit all x (are_apart ttls node history d) left)
