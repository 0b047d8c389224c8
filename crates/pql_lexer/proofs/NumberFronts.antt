-- The longest number that bytes begin with, by the machine of numbers.
use Rattle.std.proofs.Common.{◌≡◌, ◌∙◌, ◌⊎◌, inl, inr, ◌<◌, ◌≤◌, ◌+◌, ℕ, zero, suc, List, [], ◌∷◌, ◌++◌, length, take, Bool, true, false, if◌then◌else◌, Option, Some, None, refl, sym, ap, subst, arith}
use Rattle.std.specs.Option.{option_map_or}
use Rattle.std.proofs.Math.Seq.{take-append_seam}
use Rattle.std.proofs.lemmas.List.{take-append-drop, length-take-le, length-append}
use Rattle.json_machine.proofs.of_plain_laws.Booleans.{no_truth, both_ways}
use Rattle.json_machine.proofs.of_plain_laws.Options.{none_some, some_is}
use Rattle.json_machine.specs.text_spec.Number.{IsNumber}
use Rattle.pql_spec.specs.json_tree.declared.number.NumberState.{NumberState}
use Rattle.pql_spec.specs.json_tree.declared.number.NumberState.TheVariants.{Start}
use Rattle.pql_spec.specs.json_tree.Numbers.{number_step, may_end, completes}
use Rattle.pql_spec.proofs.of_json_tree.NumberLaws.{completes_number, number_completes}
use Rattle.pql_spec.specs.query_spec.declared.parts.Scalar.TheVariants as scalar
use Rattle.pql_spec.specs.Tokens.{literal_token, a_number}
use Rattle.pql_lexer.specs.Fronts.{begins, is_numeric, number_length}
use Rattle.pql_lexer.specs.Next.{IsNext, NoToken}
use Rattle.pql_lexer.proofs.FirstBytes.{number_kind}

-- from the state s on no front, the empty one aside, completes a number
abbrev NoFront : NumberState → List ℕ → Type 0
NoFront s bs = (m : ℕ) → 1 ≤ m → m ≤ length bs → completes s (take m bs) ≡ false

-- behind n bytes the first m complete one, and no more do
record IsBest (s : NumberState) (n : ℕ) (bs : List ℕ) (r : Option ℕ) (m : ℕ) : Type 0 where
  pub answer : r ≡ Some (n + m)
  pub some : 1 ≤ m
  pub within : m ≤ length bs
  pub completes_there : completes s (take m bs) ≡ true
  pub no_further : (k : ℕ) → m < k → k ≤ length bs → completes s (take k bs) ≡ false

abbrev Told : NumberState → ℕ → Option ℕ → List ℕ → Option ℕ → Type 0
Told s n found bs r = ((r ≡ found) × NoFront s bs) ⊎ ((m : ℕ) × IsBest s n bs r m)

-- a byte that the machine refuses
stuck : (s : NumberState) (b : ℕ) (bs : List ℕ) → number_step s b ≡ None → NoFront s (b ∷ bs)
stuck s b bs h zero l k = absurd (omega (arith, l))
stuck s b bs h (suc m) l k = ap (λ o. option_map_or (λ t. completes t (take m bs)) o false) h

module _ (s t : NumberState) (n b : ℕ) (bs : List ℕ) (found : Option ℕ) (h : number_step s b ≡ Some t) where
  step : (m : ℕ) {v : Bool} → completes t (take m bs) ≡ v → completes s (take (suc m) (b ∷ bs)) ≡ v
  step m c = ap (λ o. option_map_or (λ u. completes u (take m bs)) o false) h ∙ c

  -- it goes on to a number further on
  further : (r : Option ℕ) (m : ℕ) → IsBest t (suc n) bs r m → IsBest s n (b ∷ bs) r (suc m)
  further r m i = record {
    answer = i.answer ∙ ap Some (omega arith);
    some = omega arith;
    within = omega (arith, i.within);
    completes_there = step m i.completes_there;
    no_further = more;
  }
    where
      more : (k : ℕ) → suc m < k → k ≤ length (b ∷ bs) → completes s (take k (b ∷ bs)) ≡ false
      more zero l q = absurd (omega (arith, l))
      more (suc k) l q = step k (i.no_further k (omega (arith, l)) (omega (arith, q)))

  -- no number further on, and one here or none
  here : (e : Bool) (r : Option ℕ) → may_end t ≡ e → r ≡ (if e then Some (suc n) else found) → NoFront t bs → Told s n found (b ∷ bs) r
  here true r e a f = inr (1, record { answer = a ∙ ap Some (omega arith); some = omega arith; within = omega arith; completes_there = step 0 e; no_further = more })
    where
      more : (k : ℕ) → 1 < k → k ≤ length (b ∷ bs) → completes s (take k (b ∷ bs)) ≡ false
      more zero l q = absurd (omega (arith, l))
      more (suc k) l q = step k (f k (omega (arith, l)) (omega (arith, q)))
  here false r e a f = inl (a, none)
    where
      none : (m : ℕ) → 1 ≤ m → m ≤ length (b ∷ bs) → completes s (take m (b ∷ bs)) ≡ false
      none zero l q = absurd (omega (arith, l))
      none (suc zero) l q = step 0 e
      none (suc (suc m)) l q = step (suc m) (f (suc m) (omega arith) (omega (arith, q)))

  taken : (r : Option ℕ) → Told t (suc n) (if may_end t then Some (suc n) else found) bs r → Told s n found (b ∷ bs) r
  taken r (inl i) = here (may_end t) r refl i.0 i.1
  taken r (inr i) = inr (suc i.0, further r i.0 i.1)

told : (bs : List ℕ) (s : NumberState) (n : ℕ) (found : Option ℕ) → Told s n found bs (number_length s n found bs)
told [] s n found = inl (refl, none)
  where
    none : (m : ℕ) → 1 ≤ m → m ≤ 0 → completes s (take m []) ≡ false
    none m l q = absurd (omega (arith, l, q))
told (b ∷ bs) s n found = one (number_step s b) refl (λ t. told bs t (suc n) (if may_end t then Some (suc n) else found))
  where
    one : (o : Option NumberState) → number_step s b ≡ o
        → ((t : NumberState) → Told t (suc n) (if may_end t then Some (suc n) else found) bs (number_length t (suc n) (if may_end t then Some (suc n) else found) bs))
        → Told s n found (b ∷ bs) (option_map_or (λ t. number_length t (suc n) (if may_end t then Some (suc n) else found) bs) o found)
    one None h more = inl (refl, stuck s b bs h)
    one (Some t) h more = taken s t n b bs found h _ (more t)

-- ---- the token

-- where a front is a number, the machine completes it
front_completes : (bytes front rest : List ℕ) → bytes ≡ front ++ rest → IsNumber front → completes Start (take (length front) bytes) ≡ true
front_completes bytes front rest e h = ap (completes Start) (ap (take (length front)) e ∙ take-append_seam front rest) ∙ completes_number front h

front_some : (bytes front rest : List ℕ) → bytes ≡ front ++ rest → IsNumber front → 1 ≤ length front
front_some bytes [] rest e h = no_truth (completes_number [] h)
front_some bytes (b ∷ bs) rest e h = omega arith

front_within : (bytes front rest : List ℕ) → bytes ≡ front ++ rest → length front ≤ length bytes
front_within bytes front rest e = omega (arith, ap length e, length-append front rest)

none : (n : ℕ) (bytes : List ℕ) → begins is_numeric bytes ≡ true → Told Start 0 None bytes None → NoToken n bytes
none n bytes l (inl i) front rest t s e =
    let h = number_kind n bytes front rest e t s l in
    both_ways _ (front_completes bytes front rest e h) (i.1 (length front) (front_some bytes front rest e h) (front_within bytes front rest e))
none n bytes l (inr i) front rest t s e = none_some (0 + i.0) i.1.answer

pub no_number : (n : ℕ) (bytes : List ℕ) → begins is_numeric bytes ≡ true → number_length Start 0 None bytes ≡ None → NoToken n bytes
no_number n bytes l e = none n bytes l (subst (Told Start 0 None bytes) e (told bytes Start 0 None))

record IsFront (bytes : List ℕ) (m : ℕ) : Type 0 where
  pub some : 1 ≤ m
  pub within : m ≤ length bytes
  pub number : completes Start (take m bytes) ≡ true
  pub no_further : (k : ℕ) → m < k → k ≤ length bytes → completes Start (take k bytes) ≡ false

front : (bytes : List ℕ) (m : ℕ) → Told Start 0 None bytes (Some m) → IsFront bytes m
front bytes m (inl i) = none_some m (sym i.0)
front bytes m (inr i) =
    let same : i.0 ≡ m = omega (arith, some_is m (0 + i.0) i.1.answer) in
    subst (IsFront bytes) same (record { some = i.1.some; within = i.1.within; number = i.1.completes_there; no_further = i.1.no_further })

front_of : (bytes : List ℕ) (m : ℕ) → number_length Start 0 None bytes ≡ Some m → IsFront bytes m
front_of bytes m e = front bytes m (subst (Told Start 0 None bytes) e (told bytes Start 0 None))

pub is_number : (bytes : List ℕ) (m : ℕ) → number_length Start 0 None bytes ≡ Some m → IsNumber (take m bytes)
is_number bytes m e = number_completes (take m bytes) (front_of bytes m e).number

-- a longer front that is a number would have been found
no_longer : (bytes longer rest : List ℕ) (m : ℕ) → IsFront bytes m → bytes ≡ longer ++ rest → IsNumber longer → m < length longer → ⊥
no_longer bytes longer rest m f e h l =
    both_ways _ (front_completes bytes longer rest e h) (f.no_further (length longer) l (front_within bytes longer rest e))

pub number_next : (n : ℕ) (bytes : List ℕ) (m : ℕ) → begins is_numeric bytes ≡ true → number_length Start 0 None bytes ≡ Some m → IsNext n bytes (literal_token (scalar.Num (take m bytes)) (n ∷ [])) m
number_next n bytes m l e =
    let f = front_of bytes m e in
    record {
      some = omega (arith, f.some);
      within = f.within;
      longest = record {
        spells = a_number (number_completes (take m bytes) f.number) refl;
        longest = λ longer rest u s g.
            let h : bytes ≡ longer ++ rest = sym (take-append-drop m bytes) ∙ g in
            subst (λ k. length longer ≤ k) (sym (length-take-le m bytes f.within))
            (not_above (length longer) m (no_longer bytes longer rest m f h (number_kind n bytes longer rest h u s l)));
      };
    }
  where
    not_above : (a b : ℕ) → (b < a → ⊥) → a ≤ b
    not_above a b h = grind arith

pub number_found : (n m : ℕ) (bytes text place : List ℕ) → begins is_numeric bytes ≡ true → Some m ≡ number_length Start 0 None bytes → text ≡ take m bytes → place ≡ n ∷ [] → IsNext n bytes (literal_token (scalar.Num text) place) m
number_found n m bytes text place l e h p =
    subst (λ x. IsNext n bytes (literal_token (scalar.Num x) place) m) (sym h)
    (subst (λ x. IsNext n bytes (literal_token (scalar.Num (take m bytes)) x) m) (sym p) (number_next n bytes m l (sym e)))
