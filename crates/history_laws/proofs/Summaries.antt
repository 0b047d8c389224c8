-- What is said of a node depends on its commands' newest of each kind, and on the last moments of activity and deactivation,
-- and these don't depend on the order of the commands.
use Rattle.std.proofs.Common.{◌≡◌, ◌≢◌, ◌∙◌, ℕ, ℤ, List, ◌∷◌, length, refl, sym, ap, subst, Bool, true, false, not, ◌&&◌, ◌||◌, Option, Some, None, if◌then◌else◌}
use Rattle.std.specs.List.{filter, list_any}
use Rattle.std.specs.declared.cmp.Ordering.{Ordering}
use Rattle.std.specs.declared.cmp.Ordering.TheVariants.{Less, Equal, Greater}
use Rattle.std.specs.Prelude.{◌-ℤ◌, is_some, nat_lt}
use Rattle.std.specs.Ordering.{is_lt, is_gt, nat_cmp, int_cmp, ordering_then}
use Rattle.std.proofs.lemmas.Cmp.{ranked}
use Rattle.spool_spec.specs.fleet_rows.Rank.{rank_cmp}
use Rattle.spool_spec.specs.fleet_rows.declared.rank.Rank.{Rank}
use Rattle.spool_spec.specs.fleet_rows.declared.command.Kind.{Kind}
use Rattle.spool_spec.specs.fleet_rows.declared.command.Kind.TheVariants as kind
use Rattle.spool_spec.specs.fleet_rows.declared.settings.Ttls.{Ttls}
use Rattle.spool_spec.specs.fleet_rows.Change.{change_stamp}
use Rattle.spool_spec.specs.fleet_rows.declared.applied.Applied.{Applied}
use Rattle.spool_spec.specs.history_spec.Trace.{is_kind, rank_of}
use Rattle.spool_spec.specs.history_spec.Node.{later, greater, newest, is_activity, greatest_activity, greatest_deactivation, deactivated, expired, inactive, is_purged, not_before, is_before, newest_lets_expire, expired_at, days}
use Rattle.spool_spec.specs.history_spec.Report.{is_retained, is_below, is_outranked_by, retained, distinct, greatest, reports_kept_of}
use Rattle.spool_spec.specs.history_spec.Life.{is_empty}
use Rattle.history_laws.proofs.SameMembers.{SameMembers, same_members-refl, same_members-through, same_members-cons, same_members-swapped, same_members-filter, same_members-any}
use Rattle.history_laws.proofs.SameCounts.{SameCounts, Rearranged, same_counts-through, same_counts-cons, same_counts-swapped, same_counts-filter}
use Rattle.history_laws.proofs.Moments.{later_comm}
use Rattle.history_laws.proofs.Ranks.{turned_round, not_below_further}

pub record SameSummary (xs ys : List Applied) : Type 0 where
  pub newest_of : (k : Kind) → newest k xs ≡ newest k ys
  pub active : greatest_activity xs ≡ greatest_activity ys
  pub deactivation : greatest_deactivation xs ≡ greatest_deactivation ys
  pub empty : is_empty xs ≡ is_empty ys
  pub members : SameMembers xs ys
  pub counts : SameCounts xs ys

pub same_list : (xs ys : List Applied) → xs ≡ ys → SameSummary xs ys
same_list xs ys e = record {
  newest_of = λ k. ap (newest k) e;
  active = ap greatest_activity e;
  deactivation = ap greatest_deactivation e;
  empty = ap is_empty e;
  members = subst (SameMembers xs) e (same_members-refl xs);
  counts = λ p. ap (λ zs. length (filter p zs)) e;
}

pub same_through : (xs ys zs : List Applied) → SameSummary xs ys → SameSummary ys zs → SameSummary xs zs
same_through xs ys zs h k = record {
  newest_of = λ kind. h.newest_of kind ∙ k.newest_of kind;
  active = h.active ∙ k.active;
  deactivation = h.deactivation ∙ k.deactivation;
  empty = h.empty ∙ k.empty;
  members = same_members-through xs ys zs h.members k.members;
  counts = same_counts-through xs ys zs h.counts k.counts;
}

pub same_behind : (x : Applied) (xs ys : List Applied) → SameSummary xs ys → SameSummary (x ∷ xs) (x ∷ ys)
same_behind x xs ys h = record {
  newest_of = λ k. ap (λ o. if is_kind k x then greater x o else o) (h.newest_of k);
  active = ap (λ o. if is_activity x then later (change_stamp x.change) o else o) h.active;
  deactivation = ap (λ o. if is_kind kind.Deactivate x then later (change_stamp x.change) o else o) h.deactivation;
  empty = refl;
  members = same_members-cons x xs ys h.members;
  counts = same_counts-cons x xs ys h.counts;
}

-- ---- two commands change places

ties : (o : Ordering) (p : Ordering) → ordering_then o p ≡ Equal → p ≡ Equal
ties Less p h = cc
ties Equal p h = h
ties Greater p h = cc

no_tie : (x y : Applied) → x.receipt ≢ y.receipt → rank_cmp (rank_of x) (rank_of y) ≢ Equal
no_tie x y two e =
    two (ranked x.receipt y.receipt Equal (sym (ties (int_cmp (change_stamp x.change) (change_stamp y.change)) (nat_cmp x.receipt y.receipt) e)))

either_way : (o : Ordering) (x y : Applied) → o ≢ Equal → ◌≡◌ {A = Applied} (if is_lt o then y else x) (if is_gt o then x else y)
either_way Less x y h = refl
either_way Equal x y h = absurd (h refl)
either_way Greater x y h = refl

one_of_two : (x y : Applied) → x.receipt ≢ y.receipt → ◌≡◌ {A = Applied} (if is_lt (rank_cmp (rank_of x) (rank_of y)) then y else x) (if is_lt (rank_cmp (rank_of y) (rank_of x)) then x else y)
one_of_two x y two =
    either_way (rank_cmp (rank_of x) (rank_of y)) x y (no_tie x y two) ∙ ap (λ b. if b then x else y) (sym (turned_round (rank_of y) (rank_of x)))

decided : (a b c : Rank) (t : Bool) → is_lt (rank_cmp a c) ≡ t → is_lt (rank_cmp a b) ≡ true → is_lt (rank_cmp c b) ≡ false → is_lt (rank_cmp a c) ≡ true
decided a b c true e h k = e
decided a b c false e h k = let not_below : is_lt (rank_cmp a b) ≡ false = not_below_further a c b e k in cc

-- what is below b is below what isn't below b
below_through : (a b c : Rank) → is_lt (rank_cmp a b) ≡ true → is_lt (rank_cmp c b) ≡ false → is_lt (rank_cmp a c) ≡ true
below_through a b c h k = decided a b c (is_lt (rank_cmp a c)) refl h k

one_of_three : (x y w : Applied) (a b : Bool) → x.receipt ≢ y.receipt → is_lt (rank_cmp (rank_of y) (rank_of w)) ≡ a → is_lt (rank_cmp (rank_of x) (rank_of w)) ≡ b → greater x (Some (if a then w else y)) ≡ greater y (Some (if b then w else x))
one_of_three x y w true true two e f = rw (e, f) refl
one_of_three x y w true false two e f = rw (f, below_through (rank_of y) (rank_of w) (rank_of x) e f) refl
one_of_three x y w false true two e f = rw (e, below_through (rank_of x) (rank_of w) (rank_of y) f e) refl
one_of_three x y w false false two e f = ap (λ z. Some z) (one_of_two x y two)

pub greater_comm : (x y : Applied) (o : Option Applied) → x.receipt ≢ y.receipt → greater x (greater y o) ≡ greater y (greater x o)
greater_comm x y None two = ap (λ z. Some z) (one_of_two x y two)
greater_comm x y (Some w) two = one_of_three x y w (is_lt (rank_cmp (rank_of y) (rank_of w))) (is_lt (rank_cmp (rank_of x) (rank_of w))) two refl refl

both_ways : (b c : Bool) (x y : Applied) (o : Option Applied) → x.receipt ≢ y.receipt → ◌≡◌ {A = Option Applied} (if b then greater x (if c then greater y o else o) else (if c then greater y o else o)) (if c then greater y (if b then greater x o else o) else (if b then greater x o else o))
both_ways true true x y o two = greater_comm x y o two
both_ways true false x y o two = refl
both_ways false true x y o two = refl
both_ways false false x y o two = refl

pub later_either : (b c : Bool) (m n : ℤ) (o : Option ℤ) → ◌≡◌ {A = Option ℤ} (if b then later m (if c then later n o else o) else (if c then later n o else o)) (if c then later n (if b then later m o else o) else (if b then later m o else o))
later_either true true m n o = later_comm m n o
later_either true false m n o = refl
later_either false true m n o = refl
later_either false false m n o = refl

pub same_swapped : (x y : Applied) (xs : List Applied) → x.receipt ≢ y.receipt → SameSummary (x ∷ y ∷ xs) (y ∷ x ∷ xs)
same_swapped x y xs two = record {
  newest_of = λ k. both_ways (is_kind k x) (is_kind k y) x y (newest k xs) two;
  active = later_either (is_activity x) (is_activity y) (change_stamp x.change) (change_stamp y.change) (greatest_activity xs);
  deactivation = later_either (is_kind kind.Deactivate x) (is_kind kind.Deactivate y) (change_stamp x.change) (change_stamp y.change) (greatest_deactivation xs);
  empty = refl;
  members = same_members-swapped x y xs;
  counts = same_counts-swapped x y xs;
}

-- ---- the reports that are kept

same_distinct : (xs ys : List Applied) → SameMembers xs ys → SameCounts xs ys → Rearranged (distinct xs) (distinct ys)
same_distinct xs ys h k =
    let stands : List Applied → Applied → Bool = λ zs x. not (list_any (is_outranked_by x) zs) in
    let same : (x : Applied) → stands xs x ≡ stands ys x = λ x. ap not (same_members-any (is_outranked_by x) xs ys h) in
    record { members = same_members-filter (stands xs) (stands ys) xs ys same h; counts = same_counts-filter (stands xs) (stands ys) xs ys same k }

same_greatest : (limit : Option ℕ) (xs ys : List Applied) → SameMembers xs ys → SameCounts xs ys → SameMembers (greatest limit xs) (greatest limit ys)
same_greatest None xs ys h k = h
same_greatest (Some count) xs ys h k =
    let counts : List Applied → Applied → Bool = λ zs x. nat_lt (length (filter (is_below x) zs)) count in
    same_members-filter (counts xs) (counts ys) xs ys (λ x. ap (λ n. nat_lt n count) (k (is_below x))) h

-- ---- what follows from a summary

module _ (xs ys : List Applied) (h : SameSummary xs ys) where
  pub same_deactivated : deactivated xs ≡ deactivated ys
  same_deactivated = λ i. not_before (h.deactivation i) (h.active i)

  pub same_expired : (ttls : Ttls) (s t : Option ℤ) → s ≡ t → expired ttls s xs ≡ expired ttls t ys
  same_expired ttls s t e = λ i. if newest_lets_expire (h.newest_of kind.Expiration i) then expired_at (days ttls.node_days) (h.active i) (e i) else None

  pub same_inactive : (ttls : Ttls) (s t : Option ℤ) → s ≡ t → inactive ttls s xs ≡ inactive ttls t ys
  same_inactive ttls s t e = λ i. is_some (same_deactivated i) || is_some (same_expired ttls s t e i)

  pub same_purged : (ttls : Ttls) (m : ℤ) (s t : Option ℤ) → s ≡ t → is_purged ttls m s xs ≡ is_purged ttls m t ys
  same_purged ttls m s t e = λ i. is_before (same_deactivated i) (m -ℤ days ttls.purge_days) || is_before (same_expired ttls s t e i) (m -ℤ days ttls.purge_days)

  pub same_reports : (ttls : Ttls) (s t : Option ℤ) → s ≡ t → SameMembers (reports_kept_of ttls s xs) (reports_kept_of ttls t ys)
  same_reports ttls s t e =
      let stays : Applied → Bool = λ x. is_kind kind.Report x && is_retained ttls s x in
      let left = same_members-filter stays stays xs ys (λ x. refl) h.members in
      let once = same_distinct (retained ttls s xs) (retained ttls s ys) left (same_counts-filter stays stays xs ys (λ x. refl) h.counts) in
      subst (λ o. SameMembers (reports_kept_of ttls s xs) (reports_kept_of ttls o ys)) e
      (same_greatest ttls.report_count (distinct (retained ttls s xs)) (distinct (retained ttls s ys)) once.members once.counts)
