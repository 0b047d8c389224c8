-- Frames are damaged at one place, and no whole log is damaged.
use Rattle.std.proofs.Common.{◌≡◌, ℕ, suc, ◌+◌, ◌<◌, ◌≤◌, List, [], ◌∷◌, ◌++◌, length, take, drop, reverse, refl, sym, ap, subst, ◌∙◌, append_assoc, arith}
use Rattle.std.proofs.lemmas.List.{append-nil, reverse-append}
use Rattle.core_spec.specs.Damage.{EachIs, EndsThere, IsDamagedFrame}

-- a list, the last first, in front of others
abbrev onto : {A : Type 0} → List A → List A → List A
onto [] earlier = earlier
onto (x ∷ xs) earlier = onto xs (x ∷ earlier)

onto_is : {A : Type 0} (xs earlier : List A) → reverse xs ++ earlier ≡ onto xs earlier
onto_is [] earlier = refl
onto_is {A = A} (x ∷ xs) earlier = ap (λ (l : List A). l ++ earlier) (reverse-append (x ∷ []) xs) ∙ append_assoc (reverse xs) (x ∷ []) earlier ∙ onto_is xs (x ∷ earlier)

reverse_is : {A : Type 0} (xs : List A) → reverse xs ≡ onto xs []
reverse_is xs = sym (append-nil (reverse xs)) ∙ onto_is xs []

onto_length : {A : Type 0} (xs earlier : List A) → length (onto xs earlier) ≡ length xs + length earlier
onto_length [] earlier = omega arith
onto_length (x ∷ xs) earlier = omega (arith, onto_length xs (x ∷ earlier))

module _ {F A : Type 0} (Is : F → A → Type 0) (one : (f : F) (x y : A) → Is f x → Is f y → x ≡ y) (Are : List A → Type 0) (fewer : (x : A) (xs : List A) → Are (x ∷ xs) → Are xs) (least : ℕ) where
  back : (xs earlier : List A) → Are (onto xs earlier) → Are earlier
  back [] earlier are = are
  back (x ∷ xs) earlier are = fewer x earlier (back xs (x ∷ earlier) are)

  -- behind these, the newest first, no frame goes on, or too few stand there
  abbrev Ends : List A → List F → Type 0
  Ends earlier [] = length earlier < least
  Ends earlier (f ∷ rest) = (x : A) → Is f x → Are (x ∷ earlier) → ⊥

  record Stops (fs : List F) (xs earlier : List A) : Type 0 where
    pub reads : EachIs Is (take (length xs) fs) xs
    pub stand : Are (onto xs earlier)
    pub ends : Ends (onto xs earlier) (drop (length xs) fs)

  same : (fs : List F) (xs ys earlier : List A) → Stops fs xs earlier → Stops fs ys earlier → length xs ≡ length ys
  same fs [] [] earlier a b = refl
  same [] [] (y ∷ ys) earlier a b = absurd b.reads
  same (f ∷ fs) [] (y ∷ ys) earlier a b = absurd (a.ends y b.reads.0 (back ys (y ∷ earlier) b.stand))
  same [] (x ∷ xs) ys earlier a b = absurd a.reads
  same (f ∷ fs) (x ∷ xs) [] earlier a b = absurd (b.ends x a.reads.0 (back xs (x ∷ earlier) a.stand))
  same (f ∷ fs) (x ∷ xs) (y ∷ ys) earlier a b =
      let is : y ≡ x = one f y x b.reads.0 a.reads.0 in
      let there : Stops fs ys (y ∷ earlier) = record { reads = b.reads.1; stand = b.stand; ends = b.ends } in
      ap suc (same fs xs ys (x ∷ earlier) (record { reads = a.reads.1; stand = a.stand; ends = a.ends }) (subst (λ (z : A). Stops fs ys (z ∷ earlier)) is there))

  not_whole : (fs : List F) (xs ys earlier : List A) → Stops fs xs earlier → EachIs Is fs ys → Are (onto ys earlier) → least ≤ length (onto ys earlier) → ⊥
  not_whole [] [] [] earlier a reads stand enough = absurd (omega (arith, a.ends, enough))
  not_whole [] [] (y ∷ ys) earlier a reads stand enough = reads
  not_whole [] (x ∷ xs) ys earlier a reads stand enough = a.reads
  not_whole (f ∷ fs) xs [] earlier a reads stand enough = reads
  not_whole (f ∷ fs) [] (y ∷ ys) earlier a reads stand enough = a.ends y reads.0 (back ys (y ∷ earlier) stand)
  not_whole (f ∷ fs) (x ∷ xs) (y ∷ ys) earlier a reads stand enough =
      let is : x ≡ y = one f x y a.reads.0 reads.0 in
      let here : Stops fs xs (x ∷ earlier) = record { reads = a.reads.1; stand = a.stand; ends = a.ends } in
      not_whole fs xs ys (y ∷ earlier) (subst (λ (z : A). Stops fs xs (z ∷ earlier)) is here) reads.1 stand enough

  ends_of : (before : List A) (rest : List F) → EndsThere Is Are least before rest → Ends (onto before []) rest
  ends_of before [] few = omega (arith, few, onto_length before [])
  ends_of before (f ∷ rest) ends = λ x is are. ends x is (subst (λ (l : List A). Are (x ∷ l)) (sym (reverse_is before)) are)

  stops : (fs : List F) (at : ℕ) (d : IsDamagedFrame Is Are least fs at) → Stops fs d.before []
  stops fs at d = record {
    reads = subst (λ (n : ℕ). EachIs Is (take n fs) d.before) d.place d.reads;
    stand = subst Are (reverse_is d.before) d.stand;
    ends = ends_of d.before (drop (length d.before) fs) (subst (λ (n : ℕ). EndsThere Is Are least d.before (drop n fs)) d.place d.ends);
  }

  pub one_damage : (fs : List F) (at place : ℕ) → IsDamagedFrame Is Are least fs at → IsDamagedFrame Is Are least fs place → at ≡ place
  one_damage fs at place a b = omega (arith, a.place, b.place, same fs a.before b.before [] (stops fs at a) (stops fs place b))

  pub no_damage : (fs : List F) (at : ℕ) (xs : List A) → IsDamagedFrame Is Are least fs at → EachIs Is fs xs → Are (reverse xs) → least ≤ length xs → ⊥
  no_damage fs at xs d reads stand enough = not_whole fs d.before xs [] (stops fs at d) reads (subst Are (reverse_is xs) stand) (omega (arith, enough, onto_length xs []))
