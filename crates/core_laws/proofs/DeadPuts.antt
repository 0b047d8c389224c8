-- A discarded command comes to its place in a list that goes by receipts.
use Rattle.std.proofs.Common.{◌≡◌, ◌∙◌, ◌⊎◌, inl, inr, ℕ, ◌<◌, ◌==◌, List, [], ◌∷◌, ◌++◌, arith, refl, sym, ap, subst, true, false}
use Rattle.std.specs.Prelude.{nat_lt}
use Rattle.std.specs.List.{AllByRecursion, flat_map}
use Rattle.core_machine.specs.fleet_rows.declared.command.Command.{Command}
use Rattle.core_machine.specs.core_spec.declared.dead.Dead.{Dead}
use Rattle.core_machine.specs.core_spec.Discards.{dead_if, put_dead}
use Rattle.core_machine.specs.core_spec.History.{Standing, unknown, queued, claimed, applied, superseded, discarded}
use Rattle.core_laws.proofs.Entries.{SubmitsRise}
use Rattle.core_laws.proofs.Waiting.{LacksSubmit, OneSubmit}

pub put_first : (x : Dead) (ds : List Dead) → AllByRecursion (λ (d : Dead). x.receipt < d.receipt) ds → put_dead x ds ≡ x ∷ ds
put_first x [] h = refl
put_first x (d ∷ ds) h = let less : nat_lt x.receipt d.receipt ≡ true = grind (arith, h.0) in rw less refl

pub put_last : (x : Dead) (ds : List Dead) → AllByRecursion (λ (d : Dead). d.receipt < x.receipt) ds → put_dead x ds ≡ ds ++ x ∷ []
put_last x [] h = refl
put_last x (d ∷ ds) h = let more : nat_lt x.receipt d.receipt ≡ false = grind (arith, h.0) in rw more (ap (λ es. d ∷ es) (put_last x ds h.1))

-- nothing, or one of this receipt
abbrev pub IsOwn : ℕ → List Dead → Type 0
IsOwn r ds = (ds ≡ []) ⊎ ((d : Dead) × (ds ≡ d ∷ []) × (d.receipt ≡ r))

pub dead_own : (r : ℕ) (c : Command) (s : Standing) → IsOwn r (dead_if r c s)
dead_own r c unknown = inl refl
dead_own r c queued = inl refl
dead_own r c claimed = inl refl
dead_own r c applied = inl refl
dead_own r c (superseded p) = inl refl
dead_own r c (discarded cause) = inr (record { receipt = r; command = c; cause = cause }, refl, refl)

above_more : (n r : ℕ) (own ds : List Dead) → IsOwn r own → n < r → AllByRecursion (λ (d : Dead). n < d.receipt) ds → AllByRecursion (λ (d : Dead). n < d.receipt) (own ++ ds)
above_more n r own ds (inl none) l h = rw none h
above_more n r own ds (inr one) l h = rw one.1 (subst (λ m. n < m) (sym one.2) l, h)

put_behind : (x : Dead) (r : ℕ) (own ds : List Dead) → IsOwn r own → r < x.receipt → put_dead x (own ++ ds) ≡ own ++ put_dead x ds
put_behind x r own ds (inl none) l = rw none refl
put_behind x r own ds (inr one) l = let more : nat_lt x.receipt one.0.receipt ≡ false = grind (arith, l, one.2) in rw (one.1, more) refl

module _ (f : ℕ × Command → List Dead) (own : (s : ℕ × Command) → IsOwn s.0 (f s)) where
  pub above : (n : ℕ) (xs : List (ℕ × Command)) → AllByRecursion (λ (t : ℕ × Command). n < t.0) xs → AllByRecursion (λ (d : Dead). n < d.receipt) (flat_map f xs)
  above n [] h = tt
  above n (y ∷ ys) h = above_more n y.0 (f y) (flat_map f ys) (own y) h.0 (above n ys h.1)

  -- where another list has one more, of this receipt
  module _ (g : ℕ × Command → List Dead) (r : ℕ) (c : Command) (x : Dead) (of : x.receipt ≡ r) (before : f (r, c) ≡ []) (after : g (r, c) ≡ x ∷ [])
      (others : (s : ℕ × Command) → (r == s.0) ≡ false → g s ≡ f s) where
    lacking : (xs : List (ℕ × Command)) → LacksSubmit r xs → flat_map g xs ≡ flat_map f xs
    lacking [] l = refl
    lacking (y ∷ ys) l = λ i. others y l.0 i ++ lacking ys l.1 i

    is_above : (n : ℕ) (xs : List (ℕ × Command)) → AllByRecursion (λ (t : ℕ × Command). n < t.0) xs → OneSubmit r c xs → n < r
    is_above n [] h o = absurd o
    is_above n (y ∷ ys) h (inl k) = omega (arith, h.0, k.0)
    is_above n (y ∷ ys) h (inr k) = is_above n ys h.1 k.1

    named : (y : ℕ × Command) → y.0 ≡ r → y.1 ≡ c → ◌≡◌ {A = ℕ × Command} y (r, c)
    named y h k = λ i. (h i, k i)

    pub one_is_put : (xs : List (ℕ × Command)) → SubmitsRise xs → OneSubmit r c xs → flat_map g xs ≡ put_dead x (flat_map f xs)
    one_is_put [] rise o = absurd o
    one_is_put (y ∷ ys) rise (inl k) =
        let is = named y k.0 k.1 in
        let now : g y ≡ x ∷ [] = ap g is ∙ after in
        let was : f y ≡ [] = ap f is ∙ before in
        (λ i. now i ++ lacking ys k.2 i)
        ∙ sym (put_first x (flat_map f ys) (subst (λ n. AllByRecursion (λ (d : Dead). n < d.receipt) (flat_map f ys)) (k.0 ∙ sym of) (above y.0 ys rise.0)))
        ∙ ap (put_dead x) (ap (λ ds. ds ++ flat_map f ys) (sym was))
    one_is_put (y ∷ ys) rise (inr k) =
        (λ i. others y k.0 i ++ one_is_put ys rise.1 k.1 i)
        ∙ sym (put_behind x y.0 (f y) (flat_map f ys) (own y) (omega (arith, is_above y.0 ys rise.0 k.1, of)))
