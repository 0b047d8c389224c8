-- Laws of the levels of what lists of values hold.
use Rattle.std.proofs.Common.{◌≡◌, ℕ, zero, suc, ◌≤◌, ◌<◌, List, [], ◌∷◌, ◌++◌, length, get_or, map, subst, arith}
use Rattle.std.specs.Prelude.{All}
use Rattle.std.specs.Borrow.{Bor}
use Rattle.text_spec.specs.Json.{items_of, members_of, levels, items_levels, members_levels}
use Rattle.json_tree.specs.declared.tree.Json.{Json}
use Rattle.json_tree.specs.Tree.{json_of, jsons, pairs}

-- an item that nests no deeper than n leaves a list that nests no deeper
pub items_levels_push : (js : List Json) (j : Json) (n : ℕ) → items_levels (items_of (jsons js)) ≤ n → levels (json_of j) ≤ n → items_levels (items_of (jsons (js ++ j ∷ []))) ≤ n
items_levels_push [] j n all one = omega arith
items_levels_push (x ∷ js) j n all one = omega (arith, items_levels_push js j n (omega arith) one)

-- no item nests deeper than all of them
pub levels-item : (js : List Json) (i : ℕ) (d : Json) → i < length js → levels (json_of (get_or js i d)) ≤ items_levels (items_of (jsons js))
levels-item [] i d h = absurd (omega arith)
levels-item (x ∷ js) zero d h = omega arith
levels-item (x ∷ js) (suc i) d h = omega (arith, levels-item js i d (omega arith))

pub levels-member : (ms : List (List ℕ × Json)) (i : ℕ) (d : List ℕ × Json) → i < length ms → levels (json_of (get_or ms i d).1) ≤ members_levels (members_of (pairs ms))
levels-member [] i d h = absurd (omega arith)
levels-member (x ∷ ms) zero d h = omega arith
levels-member (x ∷ ms) (suc i) d h = omega (arith, levels-member ms i d (omega arith))

pub items_shallow : (js : List Json) (n : ℕ) → items_levels (items_of (jsons js)) ≤ n → All (λ j. levels (json_of j) ≤ n) js
items_shallow js n h = λ i d lt. omega (arith, levels-item js i d lt)

-- no member of a list of references nests deeper than all of them
pub referents-shallow : (bs : List (Bor (List ℕ × Json))) (list : List (List ℕ × Json)) → map (λ b. b.now) bs ≡ list → All (λ b. levels (json_of b.now.1) ≤ members_levels (members_of (pairs list))) bs
referents-shallow bs list e =
    subst (λ ms. All (λ b. levels (json_of b.now.1) ≤ members_levels (members_of (pairs ms))) bs) e (each bs)
  where
    each : (bs : List (Bor (List ℕ × Json))) (i : ℕ) (d : Bor (List ℕ × Json)) → i < length bs → levels (json_of (get_or bs i d).now.1) ≤ members_levels (members_of (pairs (map (λ b. b.now) bs)))
    each [] i d h = absurd (omega arith)
    each (b ∷ bs) zero d h = omega arith
    each (b ∷ bs) (suc i) d h = omega (arith, each bs i d (omega arith))
