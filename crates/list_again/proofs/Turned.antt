-- Lists that stand in front of others the other way round.
use Rattle.std.proofs.Common.{◌≡◌, ◌≢◌, ◌∙◌, ◌⊎◌, inl, inr, ◌+◌, List, [], ◌∷◌, ◌++◌, length, arith, refl, Bool, true, false, cond}
use Rattle.std.specs.List.{filter}
use Rattle.checkpoint_spec.proofs.of_plain_laws.Members.{Among}

module _ {X : Type 0} where
  -- the last first, and then the others
  abbrev pub turned : List X → List X → List X
  turned [] zs = zs
  turned (x ∷ xs) zs = turned xs (x ∷ zs)

  pub turned_both : (xs ys zs : List X) → turned (xs ++ ys) zs ≡ turned ys (turned xs zs)
  turned_both [] ys zs = refl
  turned_both (x ∷ xs) ys zs = turned_both xs ys (x ∷ zs)

  pub turned_length : (xs zs : List X) → length (turned xs zs) ≡ length xs + length zs
  turned_length [] zs = omega arith
  turned_length (x ∷ xs) zs = let rest = turned_length xs (x ∷ zs) in omega (arith, rest)

  -- ---- members

  pub among_turned : (w : X) (xs zs : List X) → Among w xs ⊎ Among w zs → Among w (turned xs zs)
  among_turned w [] zs (inl a) = absurd a
  among_turned w [] zs (inr a) = a
  among_turned w (x ∷ xs) zs (inl (inl e)) = among_turned w xs (x ∷ zs) (inr (inl e))
  among_turned w (x ∷ xs) zs (inl (inr a)) = among_turned w xs (x ∷ zs) (inl a)
  among_turned w (x ∷ xs) zs (inr a) = among_turned w xs (x ∷ zs) (inr (inr a))

  in_front : (w x : X) (xs zs : List X) → Among w xs ⊎ Among w (x ∷ zs) → Among w (x ∷ xs) ⊎ Among w zs
  in_front w x xs zs (inl a) = inl (inr a)
  in_front w x xs zs (inr (inl e)) = inl (inl e)
  in_front w x xs zs (inr (inr a)) = inr a

  pub among_from_turned : (w : X) (xs zs : List X) → Among w (turned xs zs) → Among w xs ⊎ Among w zs
  among_from_turned w [] zs a = inr a
  among_from_turned w (x ∷ xs) zs a = in_front w x xs zs (among_from_turned w xs (x ∷ zs) a)

  pub among_from_all_turned : (w : X) (xs : List X) → Among w (turned xs []) → Among w xs
  among_from_all_turned w xs a = elim (among_from_turned w xs [] a) [ inl b ↦ b | inr b ↦ absurd b ]

  is_some : (xs : List X) (z : X) (zs : List X) → turned xs (z ∷ zs) ≢ []
  is_some [] z zs e = cc
  is_some (x ∷ xs) z zs e = is_some xs x (z ∷ zs) e

  pub turned_some : (xs : List X) → xs ≢ [] → turned xs [] ≢ []
  turned_some [] h e = h e
  turned_some (x ∷ xs) h e = is_some xs x [] e

  -- ---- what a test leaves

  pub turned_step : (b : Bool) (x : X) (xs zs : List X) → turned xs (cond b (x ∷ zs) zs) ≡ turned (cond b (x ∷ xs) xs) zs
  turned_step true x xs zs = refl
  turned_step false x xs zs = refl

  pub filter_turned : (p : X → Bool) (xs zs : List X) → filter p (turned xs zs) ≡ turned (filter p xs) (filter p zs)
  filter_turned p [] zs = refl
  filter_turned p (x ∷ xs) zs = filter_turned p xs (x ∷ zs) ∙ turned_step (p x) x (filter p xs) (filter p zs)
