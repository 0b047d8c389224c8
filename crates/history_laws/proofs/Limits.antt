-- Commands of distinct receipts, of which so many of the greatest ranks are kept: they are no more than so many, and one that
-- isn't kept has so many above it that are.
use Rattle.std.proofs.Common.{◌≡◌, ◌≢◌, ◌∙◌, ◌⊎◌, inl, inr, ℕ, zero, suc, ◌<◌, ◌≤◌, List, [], ◌∷◌, length, refl, sym, ap, subst, Bool, true, false, ◌&&◌, cond, Some, arith}
use Rattle.std.specs.Prelude.{nat_lt}
use Rattle.std.specs.List.{filter, AllByRecursion}
use Rattle.std.proofs.lemmas.Bool.{cases_lt}
use Rattle.spool_spec.proofs.of_plain_laws.Booleans.{no_truth}
use Rattle.spool_spec.specs.fleet_rows.declared.rank.Rank.{Rank}
use Rattle.spool_spec.specs.fleet_rows.declared.applied.Applied.{Applied}
use Rattle.spool_spec.specs.history_spec.Trace.{rank_of}
use Rattle.spool_spec.specs.history_spec.Report.{is_below, greatest}
use Rattle.history_laws.specs.NewestLaws.{IsBelow}
use Rattle.history_laws.proofs.Members.{Among, All-Among, All-from_Among, Among-from_filter}
use Rattle.history_laws.proofs.SameCounts.{Rearranged, rearranged-refl, rearranged-second}
use Rattle.history_laws.proofs.Counts.{count-more, count-all, count-fewer}
use Rattle.history_laws.proofs.Filters.{filter-filter, filter-among}
use Rattle.history_laws.proofs.Ranks.{not_below_itself, not_below_back}
use Rattle.history_laws.proofs.RankWords.{is_lt_in_words, is_lt_from_words, not_lt_in_words, ranks_go_on, ranks_are_in_order}

-- no two have one receipt
abbrev pub AreApart : List Applied → Type 0
AreApart [] = Unit {0}
AreApart (x ∷ xs) = AllByRecursion (λ (y : Applied). y.receipt ≢ x.receipt) xs × AreApart xs

apart_step : (b : Bool) (x : Applied) (xs : List Applied) → AllByRecursion (λ (y : Applied). y.receipt ≢ x.receipt) xs → AreApart xs → AreApart (cond b (x ∷ xs) xs)
apart_step true x xs h d = (h, d)
apart_step false x xs h d = d

pub apart-filter : (p : Applied → Bool) (xs : List Applied) → AreApart xs → AreApart (filter p xs)
apart-filter p [] d = tt
apart-filter p (x ∷ xs) d =
    apart_step (p x) x (filter p xs)
    (All-from_Among (λ (y : Applied). y.receipt ≢ x.receipt) (filter p xs) (λ y a. All-Among (λ (z : Applied). z.receipt ≢ x.receipt) xs y d.0 (Among-from_filter p xs y a).0))
    (apart-filter p xs d.1)

pub below_on : (x y z : Applied) → is_below x y ≡ true → is_below y z ≡ true → is_below x z ≡ true
below_on x y z h k =
    is_lt_from_words (rank_of x) (rank_of z) (ranks_go_on (rank_of x) (rank_of y) (rank_of z) (is_lt_in_words (rank_of x) (rank_of y) h) (is_lt_in_words (rank_of y) (rank_of z) k))

above_if : (x y : Applied) → x.receipt ≢ y.receipt → is_below x y ≡ false → (rank_of x ≡ rank_of y) ⊎ IsBelow (rank_of x) (rank_of y) ⊎ IsBelow (rank_of y) (rank_of x) → is_below y x ≡ true
above_if x y two h (inl same) = absurd (two (ap (λ (r : Rank). r.receipt) same))
above_if x y two h (inr (inl below)) = absurd (not_lt_in_words (rank_of x) (rank_of y) h below)
above_if x y two h (inr (inr above)) = is_lt_from_words (rank_of y) (rank_of x) above

-- of two receipts what isn't below is above
above : (x y : Applied) → x.receipt ≢ y.receipt → is_below x y ≡ false → is_below y x ≡ true
above x y two h = above_if x y two h (ranks_are_in_order (rank_of x) (rank_of y)).0

-- ---- the least

-- the one of the least rank, and the others
record Least (xs : List Applied) : Type 0 where
  least : Applied
  others : List Applied
  same : Rearranged xs (least ∷ others)
  above : AllByRecursion (λ (y : Applied). is_below least y ≡ true) others
  apart : AreApart others
  more : length xs ≡ suc (length others)

least_step : (b : Bool) (x : Applied) (xs : List Applied) (l : Least xs) → is_below x l.least ≡ b → AllByRecursion (λ (y : Applied). y.receipt ≢ x.receipt) xs → AreApart xs → Least (x ∷ xs)
least_step true x xs l e h d = record {
  least = x;
  others = xs;
  same = rearranged-refl (x ∷ xs);
  above = All-from_Among (λ (y : Applied). is_below x y ≡ true) xs (λ y a. elim (l.same.members.there y a) [
    | inl same ↦ rw same e
    | inr b ↦ below_on x l.least y e (All-Among (λ (z : Applied). is_below l.least z ≡ true) l.others y l.above b)
  ]);
  apart = d;
  more = refl;
}
least_step false x xs l e h d = record {
  least = l.least;
  others = x ∷ l.others;
  same = rearranged-second x l.least xs l.others l.same;
  above = (above x l.least (λ one. All-Among (λ (y : Applied). y.receipt ≢ x.receipt) xs l.least h (l.same.members.back l.least (inl refl)) (sym one)) e, l.above);
  apart = (All-from_Among (λ (y : Applied). y.receipt ≢ x.receipt) l.others (λ y a. All-Among (λ (z : Applied). z.receipt ≢ x.receipt) xs y h (l.same.members.back y (inr a))), l.apart);
  more = ap suc l.more;
}

the_least : (x : Applied) (xs : List Applied) → AreApart (x ∷ xs) → Least (x ∷ xs)
the_least x [] d = record { least = x; others = []; same = rearranged-refl (x ∷ []); above = tt; apart = tt; more = refl }
the_least x (y ∷ ys) d = let l = the_least y ys d.1 in least_step (is_below x l.least) x (y ∷ ys) l refl d.0 d.1

-- ---- no more than so many

counts_less : (m n : ℕ) → nat_lt m n ≡ true → m < n
counts_less m n h = grind arith

count_of_others : (b : Bool) (x : Applied) (xs : List Applied) (n : ℕ) → b ≡ false → length xs ≡ n → length (cond b (x ∷ xs) xs) ≡ n
count_of_others true x xs n e h = no_truth (sym e)
count_of_others false x xs n e h = h

-- all others are above the least, and no other is
above_least : (xs : List Applied) (l : Least xs) → length (filter (is_below l.least) xs) ≡ length l.others
above_least xs l =
    l.same.counts (is_below l.least)
    ∙ count_of_others (is_below l.least l.least) l.least (filter (is_below l.least) l.others) (length l.others) (not_below_itself (rank_of l.least)) (count-all (is_below l.least) l.others l.above)

module _ (limit : ℕ) where
  -- fewer than so many of these are above
  abbrev pub is_kept : List Applied → Applied → Bool
  is_kept xs x = nat_lt (length (filter (is_below x) xs)) limit

  filtered_less : (xs : List Applied) (p q : Applied → Bool) → length (filter p (filter q xs)) ≤ length (filter p xs)
  filtered_less xs p q = rw (filter-filter p q xs) (count-more (λ x. q x && p x) p (λ x h. second (q x) (p x) h) xs)
    where
      second : (b c : Bool) → (b && c) ≡ true → c ≡ true
      second true c h = h
      second false c h = no_truth h

  at_most : (xs kept : List Applied) → filter (is_kept xs) xs ≡ kept → AreApart kept → length kept ≤ limit
  at_most xs [] e d = omega arith
  at_most xs (k ∷ ks) e d =
      let l = the_least k ks d in
      let is = (Among-from_filter (is_kept xs) xs l.least (subst (Among l.least) (sym e) (l.same.members.back l.least (inl refl)))).1 in
      let few : length (filter (is_below l.least) (k ∷ ks)) ≤ length (filter (is_below l.least) xs) =
      subst (λ ys. length (filter (is_below l.least) ys) ≤ length (filter (is_below l.least) xs)) e (filtered_less xs (is_below l.least) (is_kept xs)) in
      omega (arith, few, above_least (k ∷ ks) l, l.more, counts_less (length (filter (is_below l.least) xs)) limit is)

  pub no_more_are_kept : (xs : List Applied) → AreApart xs → length (greatest (Some limit) xs) ≤ limit
  no_more_are_kept xs d = at_most xs (filter (is_kept xs) xs) refl (apart-filter (is_kept xs) xs d)

  -- ---- and so many, where there are so many

  in_front : (b : Bool) (x : Applied) (xs : List Applied) → length xs ≤ length (cond b (x ∷ xs) xs)
  in_front true x xs = omega arith
  in_front false x xs = omega arith

  -- without the least the others count as before
  others_count : (xs : List Applied) (l : Least xs) (y : Applied) → Among y l.others → is_kept xs y ≡ is_kept l.others y
  others_count xs l y a =
      ap (λ n. nat_lt n limit)
      (l.same.counts (is_below y)
      ∙ count_of_others (is_below y l.least) l.least (filter (is_below y) l.others) (length (filter (is_below y) l.others)) (not_below_back (rank_of l.least) (rank_of y) (All-Among (λ (z : Applied). is_below l.least z ≡ true) l.others y l.above a)) refl)

  with_least : (xs : List Applied) (l : Least xs) → limit ≤ length (filter (is_kept l.others) l.others) → limit ≤ length (filter (is_kept xs) xs)
  with_least xs l h =
      let same : length (filter (is_kept xs) l.others) ≡ length (filter (is_kept l.others) l.others) = ap length (filter-among (is_kept xs) (is_kept l.others) l.others (others_count xs l)) in
      omega (arith, h, same, l.same.counts (is_kept xs), in_front (is_kept xs l.least) l.least (filter (is_kept xs) l.others))

  less_counts : (m n : ℕ) → m < n → nat_lt m n ≡ true
  less_counts m n h = grind arith

  -- as many as the limit: all are kept
  all_are_kept : (xs : List Applied) → length xs ≤ limit → length (filter (is_kept xs) xs) ≡ length xs
  all_are_kept xs few =
      count-all (is_kept xs) xs
      (All-from_Among (λ x. is_kept xs x ≡ true) xs (λ x a.
      let fewer = count-fewer (is_below x) xs x a (not_below_itself (rank_of x)) in
      less_counts (length (filter (is_below x) xs)) limit (omega (arith, fewer, few))))

  so_many : (n : ℕ) (xs : List Applied) → length xs ≤ n → AreApart xs → limit ≤ length xs → limit ≤ length (filter (is_kept xs) xs)
  so_many n [] few d h = h
  so_many zero (x ∷ xs) few d h = absurd (omega (arith, few))
  so_many (suc n) (x ∷ xs) few d h =
      let l = the_least x xs d in
      elim (cases_lt (length l.others) limit) [
        | inl short ↦ omega (arith, h, all_are_kept (x ∷ xs) (omega (arith, short, l.more)))
        | inr enough ↦ with_least (x ∷ xs) l (so_many n l.others (omega (arith, few, l.more)) l.apart (omega (arith, enough)))
      ]

  pub enough_are_kept : (xs : List Applied) → AreApart xs → limit ≤ length xs → limit ≤ length (greatest (Some limit) xs)
  enough_are_kept xs d h = so_many (length xs) xs (omega arith) d h

  -- ---- what isn't kept

  absorbed : (b c : Bool) → (c ≡ true → b ≡ true) → (b && c) ≡ c
  absorbed true c h = refl
  absorbed false true h = no_truth (h refl)
  absorbed false false h = refl

  -- what is above one that is above x is above x
  above_above : (xs : List Applied) (x y : Applied) → is_below x y ≡ true → is_kept (filter (is_below x) xs) y ≡ is_kept xs y
  above_above xs x y h =
      ap (λ ys. nat_lt (length ys) limit)
      (filter-filter (is_below y) (is_below x) xs ∙ (λ i. filter (λ z. absorbed (is_below x z) (is_below y z) (below_on x y z h) i) xs))

  either_order : (b c d : Bool) → (b ≡ true → d ≡ c) → (b && d) ≡ (c && b)
  either_order true true d h = h refl
  either_order true false d h = h refl
  either_order false true d h = refl
  either_order false false d h = refl

  pub not_kept_is_outranked : (xs : List Applied) (x : Applied) → AreApart xs → is_kept xs x ≡ false → limit ≤ length (filter (is_below x) (greatest (Some limit) xs))
  not_kept_is_outranked xs x d h =
      let up : List Applied = filter (is_below x) xs in
      let many : limit ≤ length up = (let n = length up in not_less n limit h) in
      let kept = enough_are_kept up (apart-filter (is_below x) xs d) many in
      let same : filter (is_kept up) up ≡ filter (is_below x) (filter (is_kept xs) xs) =
      filter-filter (is_kept up) (is_below x) xs
      ∙ (λ i. filter (λ y. either_order (is_below x y) (is_kept xs y) (is_kept up y) (above_above xs x y) i) xs)
      ∙ sym (filter-filter (is_below x) (is_kept xs) xs) in
      omega (arith, kept, ap length same)
    where
      not_less : (m n : ℕ) → nat_lt m n ≡ false → n ≤ m
      not_less m n e = grind arith
