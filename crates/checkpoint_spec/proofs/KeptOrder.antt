-- Reports that are put one after the other, in whatever order, stand as those that are kept do.
use Rattle.std.proofs.Common.{◌≡◌, ◌∙◌, inl, inr, ℕ, suc, ◌+◌, ◌<◌, ◌≤◌, ℤ, List, [], ◌∷◌, length, arith, refl, sym, ap, subst, Bool, true, false, ◌&&◌, not, if◌then◌else◌, Option, Some, None}
use Rattle.std.specs.Prelude.{nat_lt}
use Rattle.std.specs.List.{list_any}
use Rattle.std.specs.Ordering.{is_gt, match_ordering}
use Rattle.std.specs.declared.cmp.Ordering.{Ordering}
use Rattle.std.specs.declared.cmp.Ordering.TheVariants.{Less, Equal, Greater}
use Rattle.table_laws.proofs.of_plain_laws.Members.{Among, Among-from_filter}
use Rattle.table_laws.proofs.of_plain_laws.StrictlySorted.{sorted-unique}
use Rattle.table_laws.specs.fleet_rows.declared.applied.Applied.{Applied}
use Rattle.table_laws.specs.fleet_rows.declared.command.Kind.TheVariants as kind
use Rattle.table_laws.specs.fleet_rows.declared.settings.Ttls.{Ttls}
use Rattle.table_laws.specs.history_spec.Life.{life, kept_reports, greatest_retention}
use Rattle.table_laws.specs.history_spec.Report.{is_retained, retained, is_below, distinct, is_outranked_by, greatest}
use Rattle.table_laws.specs.history_spec.Trace.{is_kind, Trace, IsTrace}
use Rattle.table_laws.proofs.of_history_laws.Limits.{AreApart, apart-filter, no_more_are_kept}
use Rattle.table_laws.proofs.of_history_laws.ReportChoice.{life_is_apart}
use Rattle.table_laws.proofs.of_history_laws.TraceLemmas.{traces_have_distinct_receipts}
use Rattle.table_laws.specs.table_spec.Sorted.{report_cmp, insert_by, sorted_by}
use Rattle.table_laws.specs.table_machine.Places.{put, sorted}
use Rattle.table_laws.specs.table_machine.Steps.{of_greater_rank, put_report, limited, with_report}
use Rattle.table_laws.proofs.of_table_machine.Least.{put-longer}
use Rattle.table_laws.proofs.of_table_machine.ReportOrder.{report_cmp_total}
use Rattle.table_laws.proofs.of_table_machine.Risen.{sorted-sorted, among-from_sorted, among-sorted, KeysTell}
use Rattle.table_laws.proofs.of_table_machine.TableLaws.{kept_among_stay, kept_tell}
use Rattle.table_laws.proofs.SortedLists.{among-from_sorted_by, among-sorted_by}
use Rattle.checkpoint_spec.specs.Lists.{by_rank}

-- ---- one report

its_own : (b : Bool) (x y : Applied) → y ≡ x → (if b then y else x) ≡ y
its_own true x y e = refl
its_own false x y e = sym e

put_step : (x y : Applied) (ys : List Applied) (p : Ordering) → report_cmp x y ≡ p → (report_cmp x y ≡ Equal → y ≡ x) → put (report_cmp x) x (of_greater_rank x) ys ≡ put (report_cmp x) x (λ z. z) ys
    → match_ordering p (x ∷ y ∷ ys) (of_greater_rank x y ∷ ys) (y ∷ put (report_cmp x) x (of_greater_rank x) ys) ≡ match_ordering p (x ∷ y ∷ ys) (y ∷ ys) (y ∷ put (report_cmp x) x (λ z. z) ys)
put_step x y ys Less e tell next = refl
put_step x y ys Equal e tell next = ap (λ z. z ∷ ys) (its_own (is_below x y) x y (tell e))
put_step x y ys Greater e tell next = ap (λ zs. y ∷ zs) next

put_same : (x : Applied) (ys : List Applied) → ((y : Applied) → Among y ys → report_cmp x y ≡ Equal → y ≡ x) → put_report x ys ≡ put (report_cmp x) x (λ z. z) ys
put_same x [] tell = refl
put_same x (y ∷ ys) tell = put_step x y ys (report_cmp x y) refl (tell y (inl refl)) (put_same x ys (λ z a. tell z (inr a)))

sorted_length : (xs : List Applied) → length (sorted report_cmp xs) ≤ length xs
sorted_length [] = omega arith
sorted_length (x ∷ xs) = omega (arith, put-longer (report_cmp x) x (λ z. z) (sorted report_cmp xs), sorted_length xs)

limit_leaves : (count : Option ℕ) (xs ys : List Applied) → AreApart xs → length ys ≤ length (greatest count xs) → limited count ys ≡ ys
limit_leaves None xs ys d h = refl
limit_leaves (Some n) xs ys d h =
    let few = no_more_are_kept n xs d in
    let not_more : nat_lt n (length ys) ≡ false = grind (arith, few, h) in
    rw not_more refl

-- ---- one after the other

abbrev pub reports_all : Ttls → Option ℤ → List Applied → List Applied → List Applied
reports_all ttls retention [] reports = reports
reports_all ttls retention (x ∷ xs) reports = reports_all ttls retention xs (with_report ttls retention x reports)

-- these, and then the others, the last first
abbrev behind : List Applied → List Applied → List Applied
behind [] zs = zs
behind (x ∷ xs) zs = behind xs (x ∷ zs)

behind_among : (w : Applied) (xs zs : List Applied) → Among w zs → Among w (behind xs zs)
behind_among w [] zs a = a
behind_among w (x ∷ xs) zs a = behind_among w xs (x ∷ zs) (inr a)

among_behind : (w : Applied) (xs zs : List Applied) → Among w xs → Among w (behind xs zs)
among_behind w [] zs a = absurd a
among_behind w (x ∷ xs) zs (inl e) = behind_among w xs (x ∷ zs) (inl e)
among_behind w (x ∷ xs) zs (inr a) = among_behind w xs (x ∷ zs) a

abbrev AllIn : List Applied → List Applied → Type 0
AllIn xs kept = (w : Applied) → Among w xs → Among w kept

from_behind : (kept xs zs : List Applied) → AllIn xs kept → AllIn zs kept → AllIn (behind xs zs) kept
from_behind kept [] zs h g = g
from_behind kept (x ∷ xs) zs h g = from_behind kept xs (x ∷ zs) (λ w a. h w (inr a)) (more kept x zs (h x (inl refl)) g)
  where
    more : (kept : List Applied) (x : Applied) (zs : List Applied) → Among x kept → AllIn zs kept → AllIn (x ∷ zs) kept
    more kept x zs a g w (inl e) = subst (λ v. Among v kept) (sym e) a
    more kept x zs a g w (inr b) = g w b

inserted_length : (x : Applied) (ys : List Applied) → length (insert_by by_rank x ys) ≡ suc (length ys)
inserted_length x [] = refl
inserted_length x (y ∷ ys) = by (is_gt (by_rank x y)) (inserted_length x ys)
  where
    by : (b : Bool) → length (insert_by by_rank x ys) ≡ suc (length ys) → length (if b then y ∷ insert_by by_rank x ys else x ∷ y ∷ ys) ≡ suc (suc (length ys))
    by true h = ap suc h
    by false h = refl

ranked_length : (xs : List Applied) → length (sorted_by by_rank xs) ≡ length xs
ranked_length [] = refl
ranked_length (x ∷ xs) = inserted_length x (sorted_by by_rank xs) ∙ ap suc (ranked_length xs)

module _ (ttls : Ttls) (trace : Trace) (node : List ℕ) (is : IsTrace trace) where
  abbrev retention : Option ℤ
  retention = greatest_retention trace

  abbrev kept : List Applied
  kept = kept_reports ttls node trace

  abbrev stay : List Applied
  stay = distinct (retained ttls retention (life ttls node trace))

  apart : AreApart stay
  apart =
      apart-filter (λ x. not (list_any (is_outranked_by x) (retained ttls retention (life ttls node trace)))) (retained ttls retention (life ttls node trace))
      (apart-filter (λ x. is_kind kind.Report x && is_retained ttls retention x) (life ttls node trace)
      (life_is_apart ttls node trace (traces_have_distinct_receipts trace is)))

  -- a report that is kept comes among others that are
  one_kept : (x : Applied) (zs : List Applied) → Among x kept → AllIn zs kept → length zs < length kept → with_report ttls retention x (sorted report_cmp zs) ≡ sorted report_cmp (x ∷ zs)
  one_kept x zs a h few =
      let stays : (is_kind kind.Report x && is_retained ttls retention x) ≡ true = (Among-from_filter (λ x. is_kind kind.Report x && is_retained ttls retention x) (life ttls node trace) x (kept_among_stay ttls trace node x a)).1 in
      let is_put = put_same x (sorted report_cmp zs) (λ y b tied. sym (kept_tell ttls trace node is x y a (h y (among-from_sorted report_cmp report_cmp_total y zs b)) tied)) in
      let long = sorted_length (x ∷ zs) in
      rw stays (ap (limited ttls.report_count) is_put ∙ limit_leaves ttls.report_count stay (sorted report_cmp (x ∷ zs)) apart (omega (arith, long, few)))

  all_kept : (xs zs : List Applied) → AllIn xs kept → AllIn zs kept → length xs + length zs ≤ length kept → reports_all ttls retention xs (sorted report_cmp zs) ≡ sorted report_cmp (behind xs zs)
  all_kept [] zs h g few = refl
  all_kept (x ∷ xs) zs h g few =
      ap (reports_all ttls retention xs) (one_kept x zs (h x (inl refl)) g (omega (arith, few)))
      ∙ all_kept xs (x ∷ zs) (λ w a. h w (inr a)) more (omega (arith, few))
    where
      more : AllIn (x ∷ zs) kept
      more w (inl e) = subst (λ v. Among v kept) (sym e) (h x (inl refl))
      more w (inr b) = g w b

  -- in the order of a checkpoint
  pub reports_again : reports_all ttls retention (sorted_by by_rank kept) [] ≡ sorted report_cmp kept
  reports_again =
      let ranked = sorted_by by_rank kept in
      let within : AllIn ranked kept = (λ w a. among-from_sorted_by by_rank w kept a) in
      let tell : KeysTell report_cmp report_cmp_total kept = kept_tell ttls trace node is in
      let all : AllIn (behind ranked []) kept = from_behind kept ranked [] within (λ w a. absurd a) in
      let of : KeysTell report_cmp report_cmp_total (behind ranked []) = (λ x y a b tied. tell x y (all x a) (all y b) tied) in
      all_kept ranked [] within (λ w a. absurd a) (omega (arith, ranked_length kept))
      ∙ sorted-unique report_cmp report_cmp_total (sorted report_cmp (behind ranked [])) (sorted report_cmp kept)
      (sorted-sorted report_cmp report_cmp_total (behind ranked [])) (sorted-sorted report_cmp report_cmp_total kept)
      (λ w a. among-sorted report_cmp report_cmp_total w kept tell (all w (among-from_sorted report_cmp report_cmp_total w (behind ranked []) a)))
      (λ w a. among-sorted report_cmp report_cmp_total w (behind ranked []) of (among_behind w ranked [] (among-sorted_by by_rank w kept (among-from_sorted report_cmp report_cmp_total w kept a))))
