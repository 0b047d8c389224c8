-- Ranks in words: by the stamp, and of equal ones by the receipt.
use Rattle.std.proofs.Common.{◌≡◌, ◌⊎◌, inl, inr, ◌<◌, true, false, arith, refl, sym, ap, ◌∙◌}
use Rattle.std.specs.Prelude.{◌<ℤ◌}
use Rattle.std.proofs.lemmas.Int.{ints}
use Rattle.std.proofs.lemmas.Cmp.{int_ranked, ranked}
use Rattle.std.specs.declared.cmp.Ordering.{Ordering}
use Rattle.std.specs.declared.cmp.Ordering.TheVariants.{Less, Equal, Greater}
use Rattle.std.specs.Ordering.{is_lt, int_cmp, nat_cmp, ordering_then}
use Rattle.spool_spec.proofs.of_plain_laws.Booleans.{no_truth}
use Rattle.spool_spec.proofs.of_plain_laws.Orderings.{less_is}
use Rattle.spool_spec.specs.fleet_rows.Rank.{rank_cmp}
use Rattle.spool_spec.specs.fleet_rows.declared.rank.Rank.{Rank}
use Rattle.history_laws.specs.NewestLaws.{IsBelow, RanksAreByStampAndReceipt, RanksAreInOrder, RanksGoOn}

by_receipt : (a b : Rank) (o : Ordering) → nat_cmp a.receipt b.receipt ≡ o → a.stamp ≡ b.stamp → o ≡ Less → IsBelow a b
by_receipt a b Less e same h = inr (same, ranked a.receipt b.receipt Less (sym e))
by_receipt a b Equal e same h = no_truth (ap is_lt h)
by_receipt a b Greater e same h = no_truth (ap is_lt h)

by_stamp : (a b : Rank) (o : Ordering) → int_cmp a.stamp b.stamp ≡ o → ordering_then o (nat_cmp a.receipt b.receipt) ≡ Less → IsBelow a b
by_stamp a b Less e h = inl (int_ranked a.stamp b.stamp Less (sym e))
by_stamp a b Equal e h = by_receipt a b (nat_cmp a.receipt b.receipt) refl (int_ranked a.stamp b.stamp Equal (sym e)) h
by_stamp a b Greater e h = no_truth (ap is_lt h)

pub below_in_words : (a b : Rank) → rank_cmp a b ≡ Less → IsBelow a b
below_in_words a b h = by_stamp a b (int_cmp a.stamp b.stamp) refl h

less_receipt : (a b : Rank) (o : Ordering) → nat_cmp a.receipt b.receipt ≡ o → a.receipt < b.receipt → o ≡ Less
less_receipt a b Less e h = refl
less_receipt a b Equal e h = absurd (let same : a.receipt ≡ b.receipt = ranked a.receipt b.receipt Equal (sym e) in omega (arith, same, h))
less_receipt a b Greater e h = absurd (let more : b.receipt < a.receipt = ranked a.receipt b.receipt Greater (sym e) in omega (arith, more, h))

less_stamp : (a b : Rank) (o : Ordering) → int_cmp a.stamp b.stamp ≡ o → IsBelow a b → ordering_then o (nat_cmp a.receipt b.receipt) ≡ Less
less_stamp a b Less e h = refl
less_stamp a b Equal e (inl h) = absurd (let same : a.stamp ≡ b.stamp = int_ranked a.stamp b.stamp Equal (sym e) in omega (arith, ints, same, h))
less_stamp a b Equal e (inr h) = less_receipt a b (nat_cmp a.receipt b.receipt) refl h.1
less_stamp a b Greater e (inl h) = absurd (let more : b.stamp <ℤ a.stamp = int_ranked a.stamp b.stamp Greater (sym e) in omega (arith, ints, more, h))
less_stamp a b Greater e (inr h) = absurd (let more : b.stamp <ℤ a.stamp = int_ranked a.stamp b.stamp Greater (sym e) in omega (arith, ints, more, h.0))

pub below_from_words : (a b : Rank) → IsBelow a b → rank_cmp a b ≡ Less
below_from_words a b h = less_stamp a b (int_cmp a.stamp b.stamp) refl h

pub ranks_are_by_stamp_and_receipt : RanksAreByStampAndReceipt
ranks_are_by_stamp_and_receipt a b = (below_in_words a b, below_from_words a b)

-- what the tests of the definitions tell
pub is_lt_in_words : (a b : Rank) → is_lt (rank_cmp a b) ≡ true → IsBelow a b
is_lt_in_words a b h = below_in_words a b (less_is (rank_cmp a b) h)

pub not_lt_in_words : (a b : Rank) → is_lt (rank_cmp a b) ≡ false → ¬ IsBelow a b
not_lt_in_words a b h k = no_truth (sym h ∙ ap is_lt (below_from_words a b k))

pub is_lt_from_words : (a b : Rank) → IsBelow a b → is_lt (rank_cmp a b) ≡ true
is_lt_from_words a b k = ap is_lt (below_from_words a b k)

-- ---- the order

tied_or_not : (a b : Rank) (o : Ordering) → nat_cmp a.receipt b.receipt ≡ o → a.stamp ≡ b.stamp → (a ≡ b) ⊎ IsBelow a b ⊎ IsBelow b a
tied_or_not a b Less e same = inr (inl (inr (same, ranked a.receipt b.receipt Less (sym e))))
tied_or_not a b Equal e same = let tied : a.receipt ≡ b.receipt = ranked a.receipt b.receipt Equal (sym e) in inl (λ i. record { stamp = same i; receipt = tied i })
tied_or_not a b Greater e same = inr (inr (inr (sym same, ranked a.receipt b.receipt Greater (sym e))))

of_two : (a b : Rank) (o : Ordering) → int_cmp a.stamp b.stamp ≡ o → (a ≡ b) ⊎ IsBelow a b ⊎ IsBelow b a
of_two a b Less e = inr (inl (inl (int_ranked a.stamp b.stamp Less (sym e))))
of_two a b Equal e = tied_or_not a b (nat_cmp a.receipt b.receipt) refl (int_ranked a.stamp b.stamp Equal (sym e))
of_two a b Greater e = inr (inr (inl (int_ranked a.stamp b.stamp Greater (sym e))))

not_both : (a b : Rank) → IsBelow a b → ¬ IsBelow b a
not_both a b (inl h) (inl k) = omega (arith, ints, h, k)
not_both a b (inl h) (inr k) = omega (arith, ints, h, k.0)
not_both a b (inr h) (inl k) = omega (arith, ints, h.0, k)
not_both a b (inr h) (inr k) = omega (arith, h.1, k.1)

pub ranks_are_in_order : RanksAreInOrder
ranks_are_in_order a b = (of_two a b (int_cmp a.stamp b.stamp) refl, not_both a b)

pub ranks_go_on : RanksGoOn
ranks_go_on a b c (inl h) (inl k) = inl (omega (arith, ints, h, k))
ranks_go_on a b c (inl h) (inr k) = inl (omega (arith, ints, h, k.0))
ranks_go_on a b c (inr h) (inl k) = inl (omega (arith, ints, h.0, k))
ranks_go_on a b c (inr h) (inr k) = inr (h.0 ∙ k.0, omega (arith, h.1, k.1))
