-- The spans of holds in turn, put behind one another, are what stands behind the first.
use Rattle.std.proofs.Common.{◌≡◌, ℕ, ◌+◌, ◌-◌, ◌≤◌, List, [], ◌∷◌, ◌++◌, length, take, drop, sym, ap, ◌∙◌, arith, drop_of_length-le}
use Rattle.std.proofs.lemmas.List.{take-append-drop, drop-drop}
use Rattle.turn_lock.specs.declared.held.Hold.{Hold}
use Rattle.turn_lock.specs.Holds.{total, InTurn, AppendAll}
use Rattle.turn_lock.proofs.Totals.{total_append}

-- what a hold appended to a list that goes on behind it
abbrev pub span : {E : Type 0} → Hold → List E → List E
span h xs = take (h.left - h.found) (drop h.found xs)

module _ {E : Type 0} (weight : E → ℕ) where
  -- what stands behind a place is the part up to another place, and what stands behind that
  behind : (i j : ℕ) (xs : List E) → i ≤ j → total weight (drop i xs) ≡ total weight (take (j - i) (drop i xs)) + total weight (drop j xs)
  behind i j xs le =
      let cut : take (j - i) (drop i xs) ++ drop (j - i) (drop i xs) ≡ drop i xs = take-append-drop (j - i) (drop i xs) in
      let rest : drop (j - i) (drop i xs) ≡ drop j xs = drop-drop (j - i) i xs ∙ ap (λ k. drop k xs) (let p : i + (j - i) ≡ j = omega arith in p) in
      ap (total weight) (sym cut) ∙ (total_append weight (take (j - i) (drop i xs)) (drop (j - i) (drop i xs)) ∙ ap (λ l. total weight (take (j - i) (drop i xs)) + total weight l) rest)

  abbrev pub weighed : List E → Hold → ℕ
  weighed xs h = total weight (span h xs)

  line_weighs : (xs : List E) (n at : ℕ) (hs : List Hold) → InTurn n at hs (length xs) → total (weighed xs) hs ≡ total weight (drop at xs)
  line_weighs xs n at [] is = ap (total weight) (sym (drop_of_length-le xs (let e : at ≡ length xs = is in omega arith)))
  line_weighs xs n at (h ∷ hs) is =
      let rest = line_weighs xs (n + 1) h.left hs is.3 in
      let first : weighed xs h ≡ total weight (take (h.left - at) (drop at xs)) = ap (λ k. total weight (take (h.left - k) (drop k xs))) is.1 in
      let cut = behind at h.left xs is.2 in
      omega arith

  -- the holds of a closed lock, in any order
  pub holds_weigh : (xs : List E) (at : ℕ) (holds : List Hold) → AppendAll at holds (length xs) → total (weighed xs) holds ≡ total weight (drop at xs)
  holds_weigh xs at holds all = sym (all.1 (weighed xs)) ∙ line_weighs xs 0 at all.0 all.2
