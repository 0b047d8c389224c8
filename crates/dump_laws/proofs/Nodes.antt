-- The node that a dump leads to is like the one that was dumped.
use Rattle.std.proofs.Common.{◌≡◌, ◌∙◌, inl, inr, ℕ, ℤ, List, [], ◌∷◌, ◌++◌, map, refl, sym, ap, subst, true, false, Option, Some, None, if◌then◌else◌}
use Rattle.std.proofs.lemmas.Cmp.{on_total, tied_back}
use Rattle.std.specs.Cmp.{IsTotalOrder}
use Rattle.std.specs.List.Sorted.{IsStrictlySortedBy}
use Rattle.std.specs.Option.{option_map}
use Rattle.std.specs.Ordering.{is_lt}
use Rattle.std.specs.declared.cmp.Ordering.{Ordering}
use Rattle.std.specs.declared.cmp.Ordering.TheVariants.{Less, Equal}
use Rattle.dump_spec.specs.fleet_rows.Change.{change_stamp}
use Rattle.dump_spec.specs.fleet_rows.declared.applied.Applied.{Applied}
use Rattle.dump_spec.specs.fleet_rows.declared.change.Change.{Change}
use Rattle.dump_spec.specs.fleet_rows.declared.command.Kind.TheVariants as kind
use Rattle.dump_spec.specs.fleet_rows.declared.settings.Ttls.{Ttls}
use Rattle.dump_spec.specs.history_spec.Node.{later, newest, is_activity, greatest_activity}
use Rattle.dump_spec.specs.history_spec.Trace.{is_kind, applied_as}
use Rattle.dump_spec.specs.table_spec.Rows.{change_of}
use Rattle.dump_spec.specs.table_spec.Sorted.{report_cmp, sorted_by}
use Rattle.dump_spec.specs.table_machine.Places.{sorted}
use Rattle.dump_spec.specs.table_machine.Table.{Node}
use Rattle.dump_spec.specs.checkpoint_spec.Lists.{by_rank}
use Rattle.dump_spec.specs.list_again.Rules.{AreKept, IsTold}
use Rattle.dump_spec.specs.list_again.Told.{Told, if_there, all_told, change_in, changes_told, node_told}
use Rattle.dump_spec.specs.list_again.Whole.{IsWholeNode, greatest_there, lacking, told_again}
use Rattle.dump_spec.specs.Dumps.{node_changes}
use Rattle.dump_spec.proofs.of_plain_laws.Booleans.{never}
use Rattle.dump_spec.proofs.of_plain_laws.Lists.{map_both}
use Rattle.dump_spec.proofs.of_plain_laws.Members.{Among, Among-from_map, Among-map}
use Rattle.dump_spec.proofs.of_plain_laws.StrictlySorted.{sorted-map, sorted-below, sorted-rest, sorted-unique}
use Rattle.dump_spec.proofs.of_history_laws.NewestIsGreatest.{newest_is_greatest, none_of_kind}
use Rattle.dump_spec.proofs.of_table_laws.SortedLists.{among-sorted_by, among-from_sorted_by, sorted_by-sorted}
use Rattle.dump_spec.proofs.of_table_machine.Ranked.{apart-risen}
use Rattle.dump_spec.proofs.of_table_machine.ReportOrder.{report_cmp_total}
use Rattle.dump_spec.proofs.of_table_machine.Risen.{KeysTell, sorted-sorted, among-sorted, among-from_sorted}
use Rattle.dump_spec.proofs.of_list_again.Again.{given, is_told, active_is}
use Rattle.dump_spec.proofs.of_list_again.HistoryTables.{by_rank_total, apart_by}
use Rattle.dump_spec.proofs.of_list_again.Reports.{is_report, keys_tell}
use Rattle.dump_spec.proofs.of_list_again.ToldNodes.{all_map}
use Rattle.dump_laws.proofs.Alike.{AreAlike}
use Rattle.dump_laws.proofs.Numbered.{told_numbered, told_has_changes, at_reports, numbered_changes, ranks_rise}

-- ---- the greatest activity, by changes

abbrev G : List Applied → Option ℤ
G xs = greatest_activity xs

abbrev bare : Change → Applied
bare c = applied_as 0 None c

activity_by_change : (xs : List Applied) → G xs ≡ G (map bare (map change_in xs))
activity_by_change [] = refl
activity_by_change (x ∷ xs) = ap (λ o. if is_activity x then later (change_stamp x.change) o else o) (activity_by_change xs)

pub same_activity : (xs ys : List Applied) → map change_in xs ≡ map change_in ys → G xs ≡ G ys
same_activity xs ys e = activity_by_change xs ∙ ap (λ cs. G (map bare cs)) e ∙ sym (activity_by_change ys)

-- ---- the newest of reports that stand by rank is the last

pub last_of : {A : Type 0} → List A → Option A
last_of [] = None
last_of (x ∷ []) = Some x
last_of (x ∷ y ∷ xs) = last_of (y ∷ xs)

last_map : {A B : Type 0} (f : A → B) (xs : List A) → last_of (map f xs) ≡ option_map f (last_of xs)
unfolding last_of
last_map f [] = refl
last_map f (x ∷ []) = refl
last_map f (x ∷ y ∷ xs) = last_map f (y ∷ xs)

is_last : (xs : List Applied) → IsStrictlySortedBy by_rank xs → (z : Applied) → Among z xs → ((y : Applied) → Among y xs → is_lt (by_rank z y) ≡ false) → last_of xs ≡ Some z
unfolding last_of
is_last [] s z a h = absurd a
is_last (x ∷ []) s z (inl e) h = ap (λ w. Some w) (sym e)
is_last (x ∷ []) s z (inr a) h = absurd a
is_last (x ∷ y ∷ xs) s z (inl e) h =
    never (is_lt (by_rank z y)) (ap is_lt (ap (λ w. by_rank w y) e ∙ sorted-below by_rank x (y ∷ xs) s y (inl refl))) (h y (inr (inl refl)))
is_last (x ∷ y ∷ xs) s z (inr a) h = is_last (y ∷ xs) (sorted-rest by_rank x (y ∷ xs) s) z a (λ w b. h w (inr b))

none_last : (xs : List Applied) → ((x : Applied) → Among x xs → ⊥) → last_of xs ≡ None
unfolding last_of
none_last [] h = refl
none_last (x ∷ xs) h = absurd (h x (inl refl))

module _ (xs ys : List Applied) (s : IsStrictlySortedBy by_rank xs) (there : (x : Applied) → Among x xs → Among x ys) (back : (y : Applied) → Among y ys → Among y xs) (all : (x : Applied) → Among x xs → is_kind kind.Report x ≡ true) where
  newest_step : (o : Option Applied) → newest kind.Report ys ≡ o → o ≡ last_of xs
  newest_step None e = sym (none_last xs (λ x a. never (is_kind kind.Report x) (all x a) (none_of_kind kind.Report ys e x (there x a))))
  newest_step (Some z) e =
      let g = newest_is_greatest kind.Report ys z e in
      sym (is_last xs s z (back z g.among) (λ y a. g.greatest y (there y a) (all y a)))

  pub newest_is_last : newest kind.Report ys ≡ last_of xs
  newest_is_last = newest_step (newest kind.Report ys) refl

-- ---- reports by their changes

change_cmp : Change → Change → Ordering
change_cmp c d = report_cmp (bare c) (bare d)

change_cmp_total : IsTotalOrder change_cmp
unfolding change_cmp
change_cmp_total = on_total bare report_cmp_total

changes_rise : (xs : List Applied) → IsStrictlySortedBy report_cmp xs → IsStrictlySortedBy change_cmp (map change_in xs)
unfolding change_cmp
changes_rise xs s = sorted-map report_cmp change_cmp change_in (λ x y h. h) xs s

-- of two lists with the same members
one_way : (xs ys : List Applied) → ((x : Applied) → Among x xs → Among x ys) → (c : Change) → Among c (map change_in xs) → Among c (map change_in ys)
one_way xs ys h c a =
    let x = Among-from_map change_in xs c a in
    subst (λ d. Among d (map change_in ys)) (sym x.2) (Among-map change_in ys x.0 (h x.0 x.1))

-- ---- what is told of a node

abbrev pub none_spare : List ℕ → ℕ
none_spare n = 0

abbrev pub said_of : Node → Told Change
said_of node = changes_told (told_again none_spare node)

-- the changes of a dump are those that are told again
pub changes_are : (node : Node) → all_told (said_of node) ≡ node_changes node
changes_are node =
    λ i. if_there (change_of node.facts) ++ (if_there (change_of node.catalog) ++ (if_there (change_of node.expiration) ++ (if_there (change_of node.deactivate)
    ++ (if_there (given 0 (lacking node.certname node.active (greatest_there node)) i) ++ map change_in (sorted_by by_rank node.reports)))))

there_map : (o : Option Applied) → map change_in (if_there o) ≡ if_there (change_of o)
there_map None = refl
there_map (Some x) = refl

-- the changes of what is there
three_changes : (o p : Option Applied) (rs : List Applied) → map change_in (if_there o ++ (if_there p ++ rs)) ≡ if_there (change_of o) ++ (if_there (change_of p) ++ map change_in rs)
three_changes o p rs =
    map_both change_in (if_there o) (if_there p ++ rs) ∙ ap (λ l. map change_in (if_there o) ++ l) (map_both change_in (if_there p) rs)
    ∙ (λ i. there_map o i ++ (there_map p i ++ map change_in rs))

-- ---- ranks tell in a list that rises by them

rank_apart : (x y : Applied) (xs : List Applied) → IsStrictlySortedBy by_rank (x ∷ xs) → Among y xs → by_rank x y ≡ Equal → ⊥
rank_apart x y xs s a e = (let apart : Less ≡ Equal = sym (sorted-below by_rank x xs s y a) ∙ e in cc)

ranks_tell : (xs : List Applied) → IsStrictlySortedBy by_rank xs → KeysTell by_rank by_rank_total xs
ranks_tell [] s x y a b e = absurd a
ranks_tell (z ∷ xs) s x y (inl f) (inl g) e = f ∙ sym g
ranks_tell (z ∷ xs) s x y (inl f) (inr b) e = absurd (rank_apart z y xs s b (ap (λ w. by_rank w y) (sym f) ∙ e))
ranks_tell (z ∷ xs) s x y (inr a) (inl g) e = absurd (rank_apart z x xs s a (tied_back by_rank_total x z (ap (by_rank x) (sym g) ∙ e)))
ranks_tell (z ∷ xs) s x y (inr a) (inr b) e = ranks_tell xs (sorted-rest by_rank z xs s) x y a b e

-- ---- the node

module _ (ttls : Ttls) (retention : Option ℤ) (received : ℤ) (receipt : ℕ) (node : Node) (is : IsWholeNode ttls retention node) where
  abbrev before : Told Applied
  before = told_again none_spare node

  abbrev said : Told Change
  said = said_of node

  abbrev after : Told Applied
  after = told_numbered received receipt said

  same_changes : changes_told after ≡ said
  same_changes = told_has_changes received receipt said

  pub after_is_told : IsTold ttls retention (changes_told after)
  after_is_told = subst (IsTold ttls retention) (sym same_changes) (is_told ttls retention none_spare node is)

  abbrev L : List Applied
  L = sorted_by by_rank node.reports

  abbrev M : List Applied
  M = after.reports

  M_changes : map change_in M ≡ map change_in L
  M_changes = numbered_changes received (at_reports received receipt said) (map change_in L)

  M_kept : AreKept ttls retention node.certname (map change_in M)
  M_kept = subst (AreKept ttls retention node.certname) (sym M_changes) is.kept

  M_tell : KeysTell report_cmp report_cmp_total M
  M_tell = keys_tell ttls retention node.certname M M_kept

  M_rise : IsStrictlySortedBy by_rank M
  M_rise = ranks_rise received (at_reports received receipt said) L is.rise_by_rank

  activity : greatest_activity (all_told after) ≡ node.active
  activity =
      same_activity (all_told after) (all_told before) (sym (all_map change_in after) ∙ ap all_told same_changes ∙ all_map change_in before)
      ∙ active_is ttls retention none_spare node is

  to_sorted : (x : Applied) → Among x M → Among x (sorted report_cmp M)
  to_sorted x a = among-sorted report_cmp report_cmp_total x M M_tell a

  from_sorted : (x : Applied) → Among x (sorted report_cmp M) → Among x M
  from_sorted x a = among-from_sorted report_cmp report_cmp_total x M a

  pub reports_alike : map change_in (sorted report_cmp M) ≡ map change_in node.reports
  reports_alike =
      sorted-unique change_cmp change_cmp_total (map change_in (sorted report_cmp M)) (map change_in node.reports)
      (changes_rise (sorted report_cmp M) (sorted-sorted report_cmp report_cmp_total M)) (changes_rise node.reports is.rise)
      (λ c a. one_way L node.reports (λ x b. among-from_sorted_by by_rank x node.reports b) c (subst (Among c) M_changes (one_way (sorted report_cmp M) M from_sorted c a)))
      (λ c a. one_way M (sorted report_cmp M) to_sorted c (subst (Among c) (sym M_changes) (one_way node.reports L (λ x b. among-sorted_by by_rank x node.reports b) c a)))

  latest_alike : change_of (newest kind.Report (sorted report_cmp M)) ≡ change_of (newest kind.Report node.reports)
  latest_alike =
      ap change_of (newest_is_last M (sorted report_cmp M) M_rise to_sorted from_sorted (is_report ttls retention node.certname M M_kept))
      ∙ sym (last_map change_in M) ∙ ap last_of M_changes ∙ last_map change_in L
      ∙ ap change_of (sym (newest_is_last L node.reports is.rise_by_rank (λ x a. among-from_sorted_by by_rank x node.reports a) (λ x a. among-sorted_by by_rank x node.reports a)
      (is_report ttls retention node.certname L is.kept)))

  pub are_alike : AreAlike (node_told after) node
  are_alike = record {
    certname = refl;
    active = activity;
    facts = ap (λ (t : Told Change). t.facts) same_changes;
    catalog = ap (λ (t : Told Change). t.catalog) same_changes;
    deactivate = ap (λ (t : Told Change). t.deactivate) same_changes;
    expiration = ap (λ (t : Told Change). t.expiration) same_changes;
    reports = reports_alike;
    latest = latest_alike;
  }

  -- ---- dumped again

  ranked_again : sorted_by by_rank (sorted report_cmp M) ≡ M
  ranked_again =
      sorted-unique by_rank by_rank_total (sorted_by by_rank (sorted report_cmp M)) M
      (sorted_by-sorted by_rank by_rank_total (sorted report_cmp M)
      (apart_by by_rank by_rank_total (sorted report_cmp M) (apart-risen by_rank by_rank_total report_cmp report_cmp_total (sorted report_cmp M) (sorted-sorted report_cmp report_cmp_total M) (λ x y a b tied. ranks_tell M M_rise x y (from_sorted x a) (from_sorted y b) tied)))) M_rise
      (λ w a. from_sorted w (among-from_sorted_by by_rank w (sorted report_cmp M) a))
      (λ w a. among-sorted_by by_rank w (sorted report_cmp M) (to_sorted w a))

  there_alike : greatest_there (node_told after) ≡ greatest_there node
  there_alike =
      let same = are_alike in
      same_activity (if_there after.facts ++ (if_there after.catalog ++ sorted report_cmp M)) (if_there node.facts ++ (if_there node.catalog ++ node.reports))
      (three_changes after.facts after.catalog (sorted report_cmp M)
      ∙ (λ i. if_there (same.facts i) ++ (if_there (same.catalog i) ++ same.reports i))
      ∙ sym (three_changes node.facts node.catalog node.reports))

  pub changes_again : node_changes (node_told after) ≡ node_changes node
  changes_again =
      let same = are_alike in
      let ranked = ap (map change_in) ranked_again ∙ M_changes in
      λ i. if_there (same.facts i) ++ (if_there (same.catalog i) ++ (if_there (same.expiration i) ++ (if_there (same.deactivate i)
      ++ (if_there (lacking node.certname (same.active i) (there_alike i)) ++ ranked i))))
