-- What is read at a place, and what stands there.
use Rattle.std.proofs.Common.{◌≡◌, ◌≢◌, ℕ, zero, suc, ◌+◌, ◌<◌, ◌≤◌, true, false, if◌then◌else◌, ◌==◌, nat_lt, List, [], ◌∷◌, length, take, drop, get_or, refl, sym, ◌∙◌, ap, arith, length-drop}
use Rattle.std.proofs.lemmas.Bool.Decides.{nat_tests}
use Rattle.std.proofs.lemmas.List.{drop_more, drop-drop}
use Rattle.plain_laws.proofs.Booleans.{if_false, if_true}
use Rattle.log_spec.specs.ImageOf.{ends, breaks, behind, stated, walk, found}
use Rattle.log_spec.proofs.Walks.{nat_lt-true, shut_step}

-- more than enough is enough
pub enough : (j k p : ℕ) (r : List ℕ) → length r ≤ j → length r ≤ k → walk j p r ≡ walk k p r
unfolding walk
enough j k p [] a b = refl
enough zero k p (g ∷ rest) a b = absurd (omega arith)
enough (suc j) zero p (g ∷ rest) a b = absurd (omega arith)
enough (suc j) (suc k) p (g ∷ rest) a b =
    ap (λ w. if g == 1 then (if nat_lt (4 + stated rest) (length rest) then behind (take (stated rest) (drop 4 rest)) w else breaks p) else ends [] p)
    (enough j k (p + 5 + stated rest) (drop (4 + stated rest) rest) (omega (arith, length-drop (4 + stated rest) rest)) (omega (arith, length-drop (4 + stated rest) rest)))

nat_lt-false : (m n : ℕ) → n ≤ m → nat_lt m n ≡ false
nat_lt-false m n le = grind (arith, nat_tests)

module _ (file : List ℕ) (at : ℕ) (inside : at < length file) where
  abbrev rest : List ℕ
  rest = drop (at + 1) file

  here : drop at file ≡ get_or file at 0 ∷ rest
  here = drop_more file at 0 inside

  pub found_shut : get_or file at 0 ≢ 1 → found at (drop at file) ≡ ends [] at
  found_shut shut = ap (λ (l : List ℕ). found at l) here ∙ shut_step (length (get_or file at 0 ∷ rest)) at (get_or file at 0) rest shut (omega arith)

  open_here : get_or file at 0 ≡ 1 → drop at file ≡ 1 ∷ rest
  open_here is = here ∙ ap (λ (n : ℕ). n ∷ rest) is

  pub found_cut : get_or file at 0 ≡ 1 → length rest ≤ 4 + stated rest → found at (drop at file) ≡ breaks at
  unfolding walk
  found_cut is short =
      ap (λ (l : List ℕ). found at l) (open_here is)
      ∙ if_false (nat_lt (4 + stated rest) (length rest)) _ (breaks at) (nat_lt-false (4 + stated rest) (length rest) short)

  pub found_whole : (n : ℕ) (frame : List ℕ) → get_or file at 0 ≡ 1 → n ≡ stated rest → 4 + n < length rest → frame ≡ take n (drop (at + 5) file) → found at (drop at file) ≡ behind frame (found (at + 5 + n) (drop (at + 5 + n) file))
  unfolding walk
  found_whole n frame is says fits frame_is =
      let lt : nat_lt (4 + stated rest) (length rest) ≡ true = nat_lt-true (4 + stated rest) (length rest) (omega (arith, says)) in
      let body : take (stated rest) (drop 4 rest) ≡ frame = ap (λ (k : ℕ). take k (drop 4 rest)) (sym says) ∙ ap (λ (l : List ℕ). take n l) (drop-drop 4 (at + 1) file ∙ ap (λ (k : ℕ). drop k file) (omega arith)) ∙ sym frame_is in
      let more : drop (4 + stated rest) rest ≡ drop (at + 5 + n) file = drop-drop (4 + stated rest) (at + 1) file ∙ ap (λ (k : ℕ). drop k file) (omega (arith, says)) in
      let place : at + 5 + stated rest ≡ at + 5 + n = omega (arith, says) in
      ap (λ (l : List ℕ). found at l) (open_here is)
      ∙ if_true (nat_lt (4 + stated rest) (length rest)) _ (breaks at) lt
      ∙ ap (λ (l : List ℕ). behind l (walk (length rest) (at + 5 + stated rest) (drop (4 + stated rest) rest))) body
      ∙ ap (λ (l : List ℕ). behind frame (walk (length rest) (at + 5 + stated rest) l)) more
      ∙ ap (λ (k : ℕ). behind frame (walk (length rest) k (drop (at + 5 + n) file))) place
      ∙ ap (λ w. behind frame w) (enough (length rest) (length (drop (at + 5 + n) file)) (at + 5 + n) (drop (at + 5 + n) file) (omega (arith, length-drop (at + 5 + n) file, length-drop (at + 1) file)) (omega arith))
