-- The links and ends of a list that one entry was put to.
use Rattle.std.proofs.Common.{◌≡◌, ◌∙◌, ℕ, suc, ◌+◌, ◌%◌, ◌^◌, true, false, List, [], ◌∷◌, ◌++◌, length, Option, Some, None, refl, ap, arith, append-nil, length-append}
use Rattle.std.specs.Option.{is_some}
use Rattle.std.proofs.lemmas.List.{map-append}
use Rattle.std.proofs.lemmas.List.Concat.{flat_map-append}
use Rattle.live_front.specs.declared.entry.Passing.{Passing}
use Rattle.live_front.specs.declared.entry.Passing.TheVariants.{Opened, Out, Back, Ended, Failed}
use Rattle.live_front.specs.declared.entry.End.{End}
use Rattle.live_front.specs.Entries.{entries_of, link_out, link_back, end_in, links_out, links_back, ends, listed}
use Rattle.live_front.specs.Courses.{OnlyBack, IsEnd, EndsOnce}

module _ {F L : Type 0} where
  pub noted_more : (noted now : List (Passing F L × ℕ)) (e : Passing F L) (k : ℕ) → now ≡ noted ++ (e, k) ∷ [] → entries_of now ≡ entries_of noted ++ e ∷ []
  noted_more noted now e k is = ap (λ l. entries_of l) is ∙ map-append (λ (note : Passing F L × ℕ). note.0) noted ((e, k) ∷ [])

  pub outs_more : (es : List (Passing F L)) (e : Passing F L) → links_out (es ++ e ∷ []) ≡ links_out es ++ (link_out e ++ [])
  outs_more es e = flat_map-append link_out es (e ∷ [])

  pub outs_same : (es : List (Passing F L)) (e : Passing F L) → link_out e ≡ [] → links_out (es ++ e ∷ []) ≡ links_out es
  outs_same es e none = outs_more es e ∙ (ap (λ l. links_out es ++ (l ++ [])) none ∙ append-nil (links_out es))

  pub backs_more : (es : List (Passing F L)) (e : Passing F L) → links_back (es ++ e ∷ []) ≡ links_back es ++ (link_back e ++ [])
  backs_more es e = flat_map-append link_back es (e ∷ [])

  pub backs_same : (es : List (Passing F L)) (e : Passing F L) → link_back e ≡ [] → links_back (es ++ e ∷ []) ≡ links_back es
  backs_same es e none = backs_more es e ∙ (ap (λ l. links_back es ++ (l ++ [])) none ∙ append-nil (links_back es))

  pub ends_more : (es : List (Passing F L)) (e : Passing F L) → ends (es ++ e ∷ []) ≡ ends es ++ (end_in e ++ [])
  ends_more es e = flat_map-append end_in es (e ∷ [])

  pub ends_same : (es : List (Passing F L)) (e : Passing F L) → end_in e ≡ [] → ends (es ++ e ∷ []) ≡ ends es
  ends_same es e none = ends_more es e ∙ (ap (λ l. ends es ++ (l ++ [])) none ∙ append-nil (ends es))

  -- the first end
  pub ends_first : (es : List (Passing F L)) (e : Passing F L) → ends es ≡ [] → ends (es ++ e ∷ []) ≡ end_in e ++ []
  ends_first es e none = ends_more es e ∙ ap (λ l. l ++ (end_in e ++ [])) none

  -- ---- behind an end, links only come back

  abbrev pub IsBack : Passing F L → Type 0
  IsBack (Opened front limit) = ⊥
  IsBack (Out link) = ⊥
  IsBack (Back link) = Unit {0}
  IsBack Ended = ⊥
  IsBack Failed = ⊥

  only_back_more : (es : List (Passing F L)) (e : Passing F L) → IsBack e → OnlyBack es → OnlyBack (es ++ e ∷ [])
  only_back_more es (Back link) is only = (outs_same es (Back link) refl ∙ only.0, ends_same es (Back link) refl ∙ only.1)
  only_back_more es (Opened front limit) is only = absurd is
  only_back_more es (Out link) is only = absurd is
  only_back_more es Ended is only = absurd is
  only_back_more es Failed is only = absurd is

  no_end : (x : Passing F L) (xs : List (Passing F L)) → ends (x ∷ xs) ≡ [] → (IsEnd x → ⊥) × (ends xs ≡ [])
  no_end (Opened front limit) xs none = (λ is. is, none)
  no_end (Out link) xs none = (λ is. is, none)
  no_end (Back link) xs none = (λ is. is, none)
  no_end Ended xs none = absurd (let e : suc (length (ends xs)) ≡ 0 = ap (λ l. length l) none in omega arith)
  no_end Failed xs none = absurd (let e : suc (length (ends xs)) ≡ 0 = ap (λ l. length l) none in omega arith)

  pub once_free : (es : List (Passing F L)) (e : Passing F L) → EndsOnce es → ends es ≡ [] → EndsOnce (es ++ e ∷ [])
  once_free [] e once none = (λ is. (refl, refl), tt)
  once_free (x ∷ xs) e once none = let rest = no_end x xs none in (λ is. absurd (rest.0 is), once_free xs e once.1 rest.1)

  pub once_back : (es : List (Passing F L)) (e : Passing F L) → EndsOnce es → IsBack e → EndsOnce (es ++ e ∷ [])
  once_back [] e once is = (λ end. (refl, refl), tt)
  once_back (x ∷ xs) e once is = (λ end. only_back_more xs e is (once.0 end), once_back xs e once.1 is)

-- ---- numbers

-- the number of entries, as a word
pub counted_more : {A : Type 0} (n : ℕ) (xs zs : List A) (x : A) → zs ≡ xs ++ x ∷ [] → n ≡ length xs % 2 ^ 64 → (n + 1) % 2 ^ 64 ≡ length zs % 2 ^ 64
counted_more n xs zs x is was = let l : length zs ≡ length xs + 1 = ap (λ l. length l) is ∙ length-append xs (x ∷ []) in omega arith

pub one_longer : {A : Type 0} (xs zs : List A) (x : A) → zs ≡ xs ++ x ∷ [] → length zs ≡ length xs + 1
one_longer xs zs x is = ap (λ l. length l) is ∙ length-append xs (x ∷ [])

-- ---- no end so far

pub none_told : (e : Option End) → is_some e ≡ false → listed e ≡ []
none_told None is = refl
none_told (Some e) is = let apart : true ≡ false = is in cc
