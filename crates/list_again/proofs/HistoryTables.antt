-- The table of each history meets the rules of tables that can be told again.
use Rattle.std.proofs.Common.{◌≡◌, ◌≢◌, ◌∙◌, ◌⊎◌, inl, inr, ℕ, ◌≤◌, ℤ, List, [], ◌∷◌, ◌++◌, length, map, arith, refl, sym, ap, subst, Bool, true, false, not, ◌&&◌, if◌then◌else◌, Option, Some, None}
use Rattle.std.proofs.lemmas.Cmp.{on_total, tied_itself}
use Rattle.std.specs.Cmp.{IsTotalOrder}
use Rattle.std.specs.List.Sorted.{IsStrictlySortedBy}
use Rattle.std.specs.Option.{option_map}
use Rattle.std.specs.Prelude.{is_some}
use Rattle.std.specs.Str.{bytes_eq}
use Rattle.std.specs.declared.cmp.Ordering.{Ordering}
use Rattle.std.specs.declared.cmp.Ordering.TheVariants.{Less, Equal}
use Rattle.checkpoint_spec.specs.fleet_rows.Change.{change_certname, change_kind, change_stamp}
use Rattle.checkpoint_spec.specs.fleet_rows.declared.applied.Applied.{Applied}
use Rattle.checkpoint_spec.specs.fleet_rows.declared.change.Change.{Change}
use Rattle.checkpoint_spec.specs.fleet_rows.declared.change.Change.TheVariants.{Facts, Catalog, Report, Deactivate, Expiration}
use Rattle.checkpoint_spec.specs.fleet_rows.declared.command.Kind.{Kind}
use Rattle.checkpoint_spec.specs.fleet_rows.declared.command.Kind.TheVariants as kind
use Rattle.checkpoint_spec.specs.fleet_rows.declared.settings.Ttls.{Ttls}
use Rattle.checkpoint_spec.specs.history_laws.GreatestLaws as great
use Rattle.checkpoint_spec.specs.history_spec.Lawful.{IsChange}
use Rattle.checkpoint_spec.specs.history_spec.Life.{life, nodes, kept_reports, greatest_retention}
use Rattle.checkpoint_spec.specs.history_spec.Node.{newest, greatest_activity}
use Rattle.checkpoint_spec.specs.history_spec.Report.{is_same_report, is_retained}
use Rattle.checkpoint_spec.specs.history_spec.Trace.{Trace, IsTrace, applied, applied_as, is_kind, rank_of}
use Rattle.checkpoint_spec.specs.table_spec.Sorted.{report_cmp, sorted_by}
use Rattle.checkpoint_spec.specs.table_machine.Places.{sorted}
use Rattle.checkpoint_spec.specs.table_machine.Table.{node_of}
use Rattle.checkpoint_spec.specs.Lists.{by_rank}
use Rattle.checkpoint_spec.proofs.of_plain_laws.Booleans.{both_true, no_truth, not_so}
use Rattle.checkpoint_spec.proofs.of_plain_laws.Lists.{bytes_eq-itself}
use Rattle.checkpoint_spec.proofs.of_plain_laws.Members.{Among, All-from_Among, Among-from_filter, Among-from_map, Contains-from_Among}
use Rattle.checkpoint_spec.proofs.of_plain_laws.StrictlySorted.{sorted-below, sorted-rest, sorted-unique}
use Rattle.checkpoint_spec.proofs.of_history_laws.GreatestMoments.{activity_is_the_greatest}
use Rattle.checkpoint_spec.proofs.of_history_laws.Lives.{comes_from}
use Rattle.checkpoint_spec.proofs.of_history_laws.NewestIsGreatest.{newest_is_greatest, none_of_kind}
use Rattle.checkpoint_spec.proofs.of_history_laws.Ranks.{rank_cmp_total, kind_from_is_kind, is_kind_from_kind}
use Rattle.checkpoint_spec.proofs.of_history_laws.ReportChoice.{the_limit_is_kept}
use Rattle.checkpoint_spec.proofs.of_history_laws.TraceLemmas.{traces_have_distinct_receipts, nodes_have_a_life}
use Rattle.checkpoint_spec.proofs.of_table_laws.RowNodes.{life_is_lawful}
use Rattle.checkpoint_spec.proofs.of_table_laws.SortedLists.{Apart, among-sorted_by, among-from_sorted_by, sorted_by-sorted}
use Rattle.checkpoint_spec.proofs.of_table_machine.KeptReports.{tied_from_same}
use Rattle.checkpoint_spec.proofs.of_table_machine.Least.{put-longer}
use Rattle.checkpoint_spec.proofs.of_table_machine.LimitedReports.{equal_ranks}
use Rattle.checkpoint_spec.proofs.of_table_machine.Ranked as ranked
use Rattle.checkpoint_spec.proofs.of_table_machine.ReportOrder.{report_cmp_total}
use Rattle.checkpoint_spec.proofs.of_table_machine.ReportStamps.{life_has_one_stamp}
use Rattle.checkpoint_spec.proofs.of_table_machine.Risen.{KeysTell, sorted-sorted, among-sorted, among-from_sorted}
use Rattle.checkpoint_spec.proofs.of_table_machine.TableLaws.{table_nodes_are_sorted, life_told, kept_among_life, kept_among_stay, kept_tell}
use Rattle.list_again.specs.Laws.{TablesAreWhole}
use Rattle.list_again.specs.Rules.{IfOf, IsLeft, AreDifferent, IsWithin, AreKept, is_old}
use Rattle.list_again.specs.Told.{if_there, change_in}
use Rattle.list_again.specs.Whole.{IsWholeNode}
use Rattle.list_again.proofs.ActivityThere.{activity_there}
use Rattle.list_again.proofs.Reports.{retained_is, mapped_length}

-- ---- ranks

pub by_rank_total : IsTotalOrder by_rank
by_rank_total = on_total rank_of rank_cmp_total

pub apart_by : {X : Type 0} (r : X → X → Ordering) (o : IsTotalOrder r) (xs : List X) → ranked.Apart r o xs → Apart r o xs
apart_by r o [] h = tt
apart_by r o (x ∷ xs) h = (h.0, apart_by r o xs h.1)

-- of a list that rises by rank, in which reports that are the same are one, no two are the same
different_from : (xs : List Applied) → IsStrictlySortedBy by_rank xs → ((x y : Applied) → Among x xs → Among y xs → is_same_report x.change y.change ≡ true → x ≡ y) → AreDifferent (map change_in xs)
different_from [] s tell = tt
different_from (x ∷ xs) s tell = (
  All-from_Among (λ c. is_same_report x.change c ≡ false) (map change_in xs) (λ c a.
      let y = Among-from_map change_in xs c a in
      subst (λ d. is_same_report x.change d ≡ false) (sym y.2) (not_so (is_same_report x.change y.0.change) (λ same. apart y.0 y.1 (tell x y.0 (inl refl) (inr y.1) same)))),
  different_from xs (sorted-rest by_rank x xs s) (λ y z a b. tell y z (inr a) (inr b)),
)
  where
    apart : (y : Applied) → Among y xs → x ≡ y → ⊥
    apart y a same = (let e : Less ≡ Equal = sym (sorted-below by_rank x xs s y a) ∙ ap (by_rank x) (sym same) ∙ tied_itself by_rank_total x in cc)

-- ---- two reports that are the same have one stamp

pub one_stamp_of : (ttls : Ttls) (a b : Change) → IsChange a → IsChange b → is_same_report a b ≡ true → change_stamp a ≡ change_stamp b
one_stamp_of ttls a b h k same =
    let x = applied_as 1 None a in
    let y = applied_as 2 None b in
    let trace : IsTrace (applied x ∷ applied y ∷ []) = (h, tt, omega arith, ((λ e. two_is_one e), tt), (k, tt, omega arith, tt, tt)) in
    life_has_one_stamp ttls (change_certname b) x (applied y ∷ []) trace x y (inl refl) (inr (here y (bytes_eq (change_certname b) (change_certname b)) (bytes_eq-itself (change_certname b)))) same
  where
    two_is_one : ◌≡◌ {A = ℕ} 2 1 → ⊥
    two_is_one e = omega (arith, e)

    here : (y : Applied) (t : Bool) → t ≡ true → Among y (if t then y ∷ [] else [])
    here y true e = inl refl
    here y false e = no_truth e

-- ---- lengths

-- sorting makes no list longer, whatever the order
sorted_most : {X : Type 0} (r : X → X → Ordering) (xs : List X) → length (sorted r xs) ≤ length xs
sorted_most r [] = omega arith
sorted_most r (x ∷ xs) = omega (arith, put-longer (r x) x (λ z. z) (sorted r xs), sorted_most r xs)

-- ---- one node

module _ (ttls : Ttls) (history : Trace) (is : IsTrace history) (n : List ℕ) where
  abbrev xs : List Applied
  xs = life ttls n history

  abbrev retention : Option ℤ
  retention = greatest_retention history

  abbrev kept : List Applied
  kept = kept_reports ttls n history

  abbrev rs : List Applied
  rs = sorted report_cmp kept

  abbrev by_ranks : List Applied
  by_ranks = sorted_by by_rank rs

  newest_of : (k : Kind) (o : Option Applied) → newest k xs ≡ o → IfOf n k (option_map change_in o)
  newest_of k None e = tt
  newest_of k (Some z) e =
      let g = newest_is_greatest k xs z e in
      record { certname_is = sym (comes_from ttls n history z g.among).certname; kind_is = kind_from_is_kind k z g.kind }

  -- ---- its reports

  ranks_tell : KeysTell by_rank by_rank_total rs
  ranks_tell x y a b tied =
      life_told ttls history n is x y
      (kept_among_life ttls history n x (among-from_sorted report_cmp report_cmp_total x kept a))
      (kept_among_life ttls history n y (among-from_sorted report_cmp report_cmp_total y kept b))
      (sym (equal_ranks y x tied))

  rise_by_rank : IsStrictlySortedBy by_rank by_ranks
  rise_by_rank =
      sorted_by-sorted by_rank by_rank_total rs
      (apart_by by_rank by_rank_total rs (ranked.apart-risen by_rank by_rank_total report_cmp report_cmp_total rs (sorted-sorted report_cmp report_cmp_total kept) ranks_tell))

  ranked_is : by_ranks ≡ sorted by_rank rs
  ranked_is =
      sorted-unique by_rank by_rank_total by_ranks (sorted by_rank rs) rise_by_rank (sorted-sorted by_rank by_rank_total rs)
      (λ w a. among-sorted by_rank by_rank_total w rs ranks_tell (among-from_sorted_by by_rank w rs a))
      (λ w a. among-sorted_by by_rank w rs (among-from_sorted by_rank by_rank_total w rs a))

  is_kept : (x : Applied) → Among x by_ranks → Among x kept
  is_kept x a = among-from_sorted report_cmp report_cmp_total x kept (among-from_sorted_by by_rank x rs a)

  left_of : (x : Applied) → Among x kept → IsLeft ttls retention n x.change
  left_of x a =
      let stays = kept_among_stay ttls history n x a in
      let in_life = kept_among_life ttls history n x a in
      let passes = both_true (is_kind kind.Report x) (is_retained ttls retention x) (Among-from_filter (λ y. is_kind kind.Report y && is_retained ttls retention y) xs x stays).1 in
      record {
        is_of = record { certname_is = sym (comes_from ttls n history x in_life).certname; kind_is = kind_from_is_kind kind.Report x passes.0 };
        not_old = turned (is_old ttls retention (change_stamp x.change)) (sym (retained_is ttls retention x) ∙ passes.1);
      }
    where
      turned : (t : Bool) → not t ≡ true → t ≡ false
      turned true h = no_truth h
      turned false h = refl

  same_is_one : (x y : Applied) → Among x by_ranks → Among y by_ranks → is_same_report x.change y.change ≡ true → x ≡ y
  same_is_one x y a b same =
      let lawful : (z : Applied) → Among z by_ranks → IsChange z.change = λ z d. life_is_lawful ttls n history is z (kept_among_life ttls history n z (is_kept z d)) in
      let stamps = one_stamp_of ttls x.change y.change (lawful x a) (lawful y b) same in
      kept_tell ttls history n is x y (is_kept x a) (is_kept y b) (tied_from_same x y stamps same)

  within : (count : Option ℕ) → ttls.report_count ≡ count → IsWithin count (length (map change_in by_ranks))
  within None e = tt
  within (Some limit) e =
      let most = the_limit_is_kept ttls n history limit e (traces_have_distinct_receipts history is) in
      omega (arith, mapped_length by_ranks, ap length ranked_is, sorted_most by_rank rs, sorted_most report_cmp kept, most)

  are_kept : AreKept ttls retention n (map change_in by_ranks)
  are_kept = record {
    each = All-from_Among (IsLeft ttls retention n) (map change_in by_ranks) (λ c a.
        let x = Among-from_map change_in by_ranks c a in
        subst (IsLeft ttls retention n) (sym x.2) (left_of x.0 (is_kept x.0 x.1)));
    different = different_from by_ranks rise_by_rank same_is_one;
    few = within ttls.report_count refl;
  }

  -- ---- something is there

  -- a command of the life shows an activity, a deactivation or an expiration
  shows : (x : Applied) → Among x xs → (change_kind x.change ≡ kind.Deactivate) ⊎ ((change_kind x.change ≡ kind.Expiration) ⊎ great.IsActivity x)
      → (is_some (greatest_activity xs) ≡ true) ⊎ (if_there (newest kind.Deactivate xs) ++ if_there (newest kind.Expiration xs) ≢ [])
  shows x a (inl k) = inr (deactivation (newest kind.Deactivate xs) refl)
    where
      deactivation : (o : Option Applied) → newest kind.Deactivate xs ≡ o → if_there o ++ if_there (newest kind.Expiration xs) ≢ []
      deactivation None e none = no_truth (sym (none_of_kind kind.Deactivate xs e x a) ∙ is_kind_from_kind kind.Deactivate x k)
      deactivation (Some z) e none = cc
  shows x a (inr (inl k)) = inr (expiration (if_there (newest kind.Deactivate xs)) (newest kind.Expiration xs) refl)
    where
      expiration : (zs : List Applied) (o : Option Applied) → newest kind.Expiration xs ≡ o → zs ++ if_there o ≢ []
      expiration [] None e none = no_truth (sym (none_of_kind kind.Expiration xs e x a) ∙ is_kind_from_kind kind.Expiration x k)
      expiration [] (Some z) e none = cc
      expiration (z ∷ zs) o e none = cc
  shows x a (inr (inr h)) = inl (active (greatest_activity xs) (activity_is_the_greatest xs))
    where
      active : (o : Option ℤ) → great.IsGreatestOf (great.HasStamped great.IsActivity xs) o → is_some o ≡ true
      active None g = absurd (g (change_stamp x.change) (x, Contains-from_Among xs x a, h, refl))
      active (Some m) g = refl

  kind_of : (c : Change) → (change_kind c ≡ kind.Deactivate) ⊎ ((change_kind c ≡ kind.Expiration) ⊎ ((change_kind c ≡ kind.Facts) ⊎ (change_kind c ≡ kind.Catalog) ⊎ (change_kind c ≡ kind.Report)))
  kind_of (Facts d) = inr (inr (inl refl))
  kind_of (Catalog d) = inr (inr (inr (inl refl)))
  kind_of (Report d) = inr (inr (inr (inr refl)))
  kind_of (Deactivate d) = inl refl
  kind_of (Expiration d) = inr (inl refl)

  some_of : (zs : List Applied) → zs ≢ [] → (x : Applied) × Among x zs
  some_of [] h = absurd (h refl)
  some_of (x ∷ zs) h = (x, inl refl)

  node_is_whole : Among n (nodes ttls history) → IsWholeNode ttls retention (node_of ttls history n)
  node_is_whole a =
      let some = some_of xs ((nodes_have_a_life ttls history n).0 (Contains-from_Among (nodes ttls history) n a)) in
      record {
        facts = newest_of kind.Facts (newest kind.Facts xs) refl;
        catalog = newest_of kind.Catalog (newest kind.Catalog xs) refl;
        deactivate = newest_of kind.Deactivate (newest kind.Deactivate xs) refl;
        expiration = newest_of kind.Expiration (newest kind.Expiration xs) refl;
        rise = sorted-sorted report_cmp report_cmp_total kept;
        rise_by_rank = rise_by_rank;
        kept = are_kept;
        active = activity_there ttls retention xs rs
            (λ y b. kept_among_life ttls history n y (among-from_sorted report_cmp report_cmp_total y kept b))
            (λ z b. among-sorted report_cmp report_cmp_total z kept (kept_tell ttls history n is) b);
        some = shows some.0 some.1 (kind_of some.0.change);
      }

pub tables_are_whole : TablesAreWhole
tables_are_whole ttls history is = record {
  nodes_rise = table_nodes_are_sorted ttls history;
  each = All-from_Among (IsWholeNode ttls (greatest_retention history)) (map (node_of ttls history) (nodes ttls history)) (λ node a.
      let n = Among-from_map (node_of ttls history) (nodes ttls history) node a in
      subst (IsWholeNode ttls (greatest_retention history)) (sym n.2) (node_is_whole ttls history is n.0 n.1));
}
