-- The greatest activity of a node is the stamp of its newest facts, its newest catalog or a kept report, or such a stamp is too
-- old for reports.
use Rattle.std.proofs.Common.{◌≡◌, ◌∙◌, ◌⊎◌, inl, inr, ℕ, ◌≤◌, ℤ, List, ◌++◌, length, arith, refl, sym, ap, subst, Bool, true, false, not, ◌&&◌, if◌then◌else◌, Option, Some, None}
use Rattle.std.proofs.lemmas.Int.{ints}
use Rattle.std.specs.List.{filter, list_any}
use Rattle.std.specs.Ordering.{is_lt}
use Rattle.std.specs.Prelude.{◌≤ℤ◌, ◌<ℤ◌, int_lt, nat_lt, IfSome}
use Rattle.checkpoint_spec.specs.fleet_rows.Change.{change_kind, change_stamp}
use Rattle.checkpoint_spec.specs.fleet_rows.Lifetime.{IsReportCount}
use Rattle.checkpoint_spec.specs.fleet_rows.Rank.{rank_cmp}
use Rattle.checkpoint_spec.specs.fleet_rows.declared.applied.Applied.{Applied}
use Rattle.checkpoint_spec.specs.fleet_rows.declared.command.Kind.{Kind}
use Rattle.checkpoint_spec.specs.fleet_rows.declared.command.Kind.TheVariants as kind
use Rattle.checkpoint_spec.specs.fleet_rows.declared.rank.Rank.{Rank}
use Rattle.checkpoint_spec.specs.fleet_rows.declared.settings.Ttls.{Ttls}
use Rattle.checkpoint_spec.specs.history_laws.GreatestLaws as great
use Rattle.checkpoint_spec.specs.history_spec.Node.{later, newest, greatest_activity}
use Rattle.checkpoint_spec.specs.history_spec.Report.{is_retained, retained, is_same_report, is_below, is_outranked_by, distinct, greatest, reports_kept_of}
use Rattle.checkpoint_spec.specs.history_spec.Trace.{is_kind, rank_of}
use Rattle.checkpoint_spec.proofs.of_plain_laws.Booleans.{both_true, true_both, no_truth, not_true, never}
use Rattle.checkpoint_spec.proofs.of_plain_laws.Members.{Among, Among-append_left, Among-append_right, Among-append_cases, Among-filter, Among-from_filter, Among-from_Contains, Contains-from_Among}
use Rattle.checkpoint_spec.proofs.of_history_laws.GreatestMoments.{activity_is_the_greatest}
use Rattle.checkpoint_spec.proofs.of_history_laws.NewestIsGreatest.{IsGreatest, newest_is_greatest, none_of_kind}
use Rattle.checkpoint_spec.proofs.of_history_laws.RankWords.{is_lt_from_words}
use Rattle.checkpoint_spec.proofs.of_history_laws.Ranks.{kind_from_is_kind, is_kind_from_kind}
use Rattle.checkpoint_spec.proofs.of_history_laws.SameMembers.{passes_from_any}
use Rattle.checkpoint_spec.proofs.of_table_machine.KeptReports.{retained_are_reports}
use Rattle.checkpoint_spec.proofs.of_table_machine.Ranked.{filter-none}
use Rattle.list_again.specs.Rules.{is_old}
use Rattle.list_again.specs.Told.{if_there}
use Rattle.list_again.specs.Whole.{IsActivity}
use Rattle.list_again.proofs.Reports.{retained_is}

-- ---- stamps of ranks

stamp_step : (b : Bool) (r q : Rank) → int_lt r.stamp q.stamp ≡ b → is_lt (rank_cmp r q) ≡ false → q.stamp ≤ℤ r.stamp
stamp_step true r q e h = never (is_lt (rank_cmp r q)) (is_lt_from_words r q (inl (let below : r.stamp <ℤ q.stamp = grind (arith, ints) in below))) h
stamp_step false r q e h = grind (arith, ints)

-- what isn't below has no lesser stamp
stamp_of_above : (r q : Rank) → is_lt (rank_cmp r q) ≡ false → q.stamp ≤ℤ r.stamp
stamp_of_above r q h = stamp_step (int_lt r.stamp q.stamp) r q refl h

-- ---- the newest of a kind

-- where there is one of the kind, the newest has no lesser stamp
record HasNewest (k : Kind) (xs : List Applied) (x : Applied) : Type 0 where
  one : Applied
  is : newest k xs ≡ Some one
  greatest : IsGreatest k xs one
  stamp : change_stamp x.change ≤ℤ change_stamp one.change

newest_step : (k : Kind) (xs : List Applied) (x : Applied) (o : Option Applied) → newest k xs ≡ o → Among x xs → is_kind k x ≡ true → HasNewest k xs x
newest_step k xs x None e a h = never (is_kind k x) h (none_of_kind k xs e x a)
newest_step k xs x (Some z) e a h =
    let g = newest_is_greatest k xs z e in
    record { one = z; is = e; greatest = g; stamp = stamp_of_above (rank_of z) (rank_of x) (g.greatest x a h) }

has_newest : (k : Kind) (xs : List Applied) (x : Applied) → Among x xs → is_kind k x ≡ true → HasNewest k xs x
has_newest k xs x a h = newest_step k xs x (newest k xs) refl a h

-- ---- of the reports that stay the newest is kept

fewer : (n count : ℕ) → n ≡ 0 → 1 ≤ count → nat_lt n count ≡ true
fewer n count e h = grind arith

module _ (ttls : Ttls) (retention : Option ℤ) (xs : List Applied) where
  abbrev stay : List Applied
  stay = retained ttls retention xs

  module _ (z : Applied) (g : IsGreatest kind.Report stay z) where
    above_none : (y : Applied) → Among y stay → is_below z y ≡ false
    above_none y a = g.greatest y a (retained_are_reports ttls retention xs y a)

    first_of_all : Among z (distinct stay)
    first_of_all =
        Among-filter (λ x. not (list_any (is_outranked_by x) stay)) stay z g.among
        (not_true (list_any (is_outranked_by z) stay) (λ any.
        let one = passes_from_any (is_outranked_by z) stay any in
        never (is_below z one.0) (both_true (is_below z one.0) (is_same_report z.change one.0.change) one.2).0 (above_none one.0 one.1)))

    among_greatest : (count : Option ℕ) → IfSome count IsReportCount → Among z (greatest count (distinct stay))
    among_greatest None h = first_of_all
    among_greatest (Some n) h =
        Among-filter (λ x. nat_lt (length (filter (is_below x) (distinct stay))) n) (distinct stay) z first_of_all
        (fewer (length (filter (is_below z) (distinct stay))) n
        (ap length (filter-none (is_below z) (distinct stay) (λ y a. above_none y (Among-from_distinct y a)))) h.0)
      where
        Among-from_distinct : (y : Applied) → Among y (distinct stay) → Among y stay
        Among-from_distinct y a = (Among-from_filter (λ x. not (list_any (is_outranked_by x) stay)) stay y a).0

  pub newest_is_kept : (z : Applied) → IsGreatest kind.Report stay z → Among z (reports_kept_of ttls retention xs)
  newest_is_kept z g = among_greatest z g ttls.report_count ttls.count

-- ---- the greatest activity

later_is : (a b : ℤ) → b ≤ℤ a → later a (Some b) ≡ Some a
later_is a b h = ap (λ m. Some m) (by (int_lt a b) refl)
  where
    by : (t : Bool) → int_lt a b ≡ t → (if t then b else a) ≡ a
    by true e = (let below : a <ℤ b = grind (arith, ints) in grind (arith, ints))
    by false e = refl

one_moment : (a b m : ℤ) → a ≤ℤ m → m ≤ℤ b → b ≤ℤ a → Some a ≡ Some b
one_moment a b m h k l = ap (λ n. Some n) (let same : a ≡ b = grind (arith, ints) in same)

module _ (ttls : Ttls) (retention : Option ℤ) (xs rs : List Applied) (all : (y : Applied) → Among y rs → Among y xs) (kept : (z : Applied) → Among z (reports_kept_of ttls retention xs) → Among z rs) where
  abbrev f : List Applied
  f = if_there (newest kind.Facts xs)

  abbrev c : List Applied
  c = if_there (newest kind.Catalog xs)

  -- what is there
  abbrev ys : List Applied
  ys = f ++ (c ++ rs)

  of_newest : (k : Kind) (o : Option Applied) → newest k xs ≡ o → (y : Applied) → Among y (if_there o) → Among y xs
  of_newest k None e y a = absurd a
  of_newest k (Some z) e y (inl same) = subst (λ w. Among w xs) (sym same) (newest_is_greatest k xs z e).among
  of_newest k (Some z) e y (inr a) = absurd a

  within : (y : Applied) → Among y ys → Among y xs
  within y a = elim (Among-append_cases f (c ++ rs) y a) [
    | inl b ↦ of_newest kind.Facts (newest kind.Facts xs) refl y b
    | inr g ↦ elim (Among-append_cases c rs y g) [ inl b ↦ of_newest kind.Catalog (newest kind.Catalog xs) refl y b | inr b ↦ all y b ]
  ]

  -- something there has no lesser stamp
  record IsReached (x : Applied) : Type 0 where
    one : Applied
    among : Among one ys
    activity : great.IsActivity one
    stamp : change_stamp x.change ≤ℤ change_stamp one.change

  there_of : (o : Option Applied) (z : Applied) → o ≡ Some z → Among z (if_there o)
  there_of None z e = absurd (let apart : ◌≡◌ {A = Option Applied} None (Some z) = e in cc)
  there_of (Some w) z e = inl (let same : w ≡ z = cc in sym same)

  by_facts : (x : Applied) → Among x xs → change_kind x.change ≡ kind.Facts → IsReached x
  by_facts x a k =
      let h = has_newest kind.Facts xs x a (is_kind_from_kind kind.Facts x k) in
      record {
        one = h.one;
        among = Among-append_left f (c ++ rs) h.one (there_of (newest kind.Facts xs) h.one h.is);
        activity = inl (kind_from_is_kind kind.Facts h.one h.greatest.kind);
        stamp = h.stamp;
      }

  by_catalog : (x : Applied) → Among x xs → change_kind x.change ≡ kind.Catalog → IsReached x
  by_catalog x a k =
      let h = has_newest kind.Catalog xs x a (is_kind_from_kind kind.Catalog x k) in
      record {
        one = h.one;
        among = Among-append_right f (c ++ rs) h.one (Among-append_left c rs h.one (there_of (newest kind.Catalog xs) h.one h.is));
        activity = inr (inl (kind_from_is_kind kind.Catalog h.one h.greatest.kind));
        stamp = h.stamp;
      }

  by_report : (x : Applied) → Among x xs → change_kind x.change ≡ kind.Report → is_retained ttls retention x ≡ true → IsReached x
  by_report x a k stays =
      let is = is_kind_from_kind kind.Report x k in
      let there = Among-filter (λ y. is_kind kind.Report y && is_retained ttls retention y) xs x a (true_both (is_kind kind.Report x) (is_retained ttls retention x) is stays) in
      let h = has_newest kind.Report (retained ttls retention xs) x there is in
      record {
        one = h.one;
        among = Among-append_right f (c ++ rs) h.one (Among-append_right c rs h.one (kept h.one (newest_is_kept ttls retention xs h.one h.greatest)));
        activity = inr (inr (kind_from_is_kind kind.Report h.one h.greatest.kind));
        stamp = h.stamp;
      }

  report_step : (b : Bool) (x : Applied) → Among x xs → change_kind x.change ≡ kind.Report → is_retained ttls retention x ≡ b → IsReached x ⊎ (is_old ttls retention (change_stamp x.change) ≡ true)
  report_step true x a k e = inl (by_report x a k e)
  report_step false x a k e = inr (turned (is_old ttls retention (change_stamp x.change)) (sym (retained_is ttls retention x) ∙ e))
    where
      turned : (t : Bool) → not t ≡ false → t ≡ true
      turned true h = refl
      turned false h = no_truth (sym h)

  reached : (x : Applied) → Among x xs → great.IsActivity x → IsReached x ⊎ (is_old ttls retention (change_stamp x.change) ≡ true)
  reached x a (inl k) = inl (by_facts x a k)
  reached x a (inr (inl k)) = inl (by_catalog x a k)
  reached x a (inr (inr k)) = report_step (is_retained ttls retention x) x a k refl

  abbrev Stamped : List Applied → ℤ → Type 0
  Stamped zs m = great.HasStamped great.IsActivity zs m

  further : (m : ℤ) → Stamped ys m → Stamped xs m
  further m h = (h.0, Contains-from_Among xs h.0 (within h.0 (Among-from_Contains ys h.0 h.1)), h.2, h.3)

  activity_step : (o p : Option ℤ) → great.IsGreatestOf (Stamped xs) o → great.IsGreatestOf (Stamped ys) p → IsActivity ttls retention o p
  activity_step None None h k = inl refl
  activity_step None (Some b) h k = absurd (h b (further b k.0))
  activity_step (Some a) None h k =
      let x = h.0 in
      elim (reached x.0 (Among-from_Contains xs x.0 x.1) x.2) [
        | inl r ↦ absurd (k (change_stamp r.one.change) (r.one, Contains-from_Among ys r.one r.among, r.activity, refl))
        | inr old ↦ inr (a, refl, refl, subst (λ m. is_old ttls retention m ≡ true) x.3 old)
      ]
  activity_step (Some a) (Some b) h k =
      let x = h.0 in
      let most : b ≤ℤ a = h.1 b (further b k.0) in
      elim (reached x.0 (Among-from_Contains xs x.0 x.1) x.2) [
        | inl r ↦ inl (one_moment a b (change_stamp r.one.change) (subst (λ m. m ≤ℤ change_stamp r.one.change) x.3 r.stamp) (k.1 (change_stamp r.one.change) (r.one, Contains-from_Among ys r.one r.among, r.activity, refl)) most)
        | inr old ↦ inr (a, refl, later_is a b most, subst (λ m. is_old ttls retention m ≡ true) x.3 old)
      ]

  pub activity_there : IsActivity ttls retention (greatest_activity xs) (greatest_activity ys)
  activity_there = activity_step (greatest_activity xs) (greatest_activity ys) (activity_is_the_greatest xs) (activity_is_the_greatest ys)
