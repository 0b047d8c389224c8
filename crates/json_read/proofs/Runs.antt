-- Runs of members and of items: a key and where a value begins; what stands behind a value; what was appended.
use Rattle.std.proofs.Common.{◌≡◌, ◌∙◌, ℕ, ◌+◌, ◌<◌, List, [], ◌∷◌, ◌++◌, length, drop, get_or, refl, ap, false, arith, ◌==◌}
use Rattle.std.proofs.lemmas.List.{drop_more, map-append}
use Rattle.json_machine.specs.text_spec.Json.{Json, items_of, items_levels, members_of, members_levels, levels}
use Rattle.json_machine.proofs.of_text_spec.JsonLemmas.{items_levels-push, members_levels-push}
use Rattle.json_tree.specs.declared.tree.Json as code
use Rattle.json_tree.specs.Tree.{json_of, pair, pairs}
use Rattle.json_machine.specs.Machine.{Frame, in_array, value, next_key, owed, is_space, not_json, verdict, begins, closes, inside, text_verdict}
use Rattle.json_machine.proofs.Verdicts.{by_key, verdict-key}
use Rattle.json_read.proofs.Stacks.{value_begins, after_closes}

module _ (bytes : List ℕ) (fs : List Frame) (at : ℕ) (lt : at < length bytes) where
  pub value_here : is_space (get_or bytes at 0) ≡ false → verdict 127 fs value at (drop at bytes) ≡ begins 127 fs (get_or bytes at 0) at (drop (at + 1) bytes)
  value_here black = ap (verdict 127 fs value at) (drop_more bytes at 0 lt) ∙ value_begins fs (get_or bytes at 0) at (drop (at + 1) bytes) black

  pub closes_here : (j : Json) → is_space (get_or bytes at 0) ≡ false → verdict 127 fs (owed [] j) at (drop at bytes) ≡ closes 127 fs j (get_or bytes at 0) at (drop (at + 1) bytes)
  closes_here j black = ap (verdict 127 fs (owed [] j) at) (drop_more bytes at 0 lt) ∙ after_closes fs (get_or bytes at 0) at (drop (at + 1) bytes) black j

  pub key_here : (ms : List (List ℕ × Json)) → get_or bytes at 0 ≡ 34 → verdict 127 fs (next_key ms) at (drop at bytes) ≡ by_key 127 fs ms (text_verdict inside [] (at + 1) (drop (at + 1) bytes))
  key_here ms e = ap (verdict 127 fs (next_key ms) at) (drop_more bytes at 0 lt) ∙ rw e (verdict-key 127 fs ms (drop (at + 1) bytes) (at + 1) inside [])

-- neither a comma nor the end stands behind an item
module _ (fs : List Frame) (j : Json) (b at : ℕ) (bs : List ℕ) (comma : ¬ (b ≡ 44)) where
  pub array_other : (js : List Json) → ¬ (b ≡ 93) → closes 127 (in_array js ∷ fs) j b at bs ≡ not_json at
  array_other js bracket =
      let one : (b == 44) ≡ false = grind (arith, comma) in
      let two : (b == 93) ≡ false = grind (arith, bracket) in
      rw (one, two) refl

pub pairs_pushed : (ms all : List (List ℕ × code.Json)) (k : List ℕ) (j : code.Json) → all ≡ ms ++ (k, j) ∷ [] → pairs all ≡ pairs ms ++ (k, json_of j) ∷ []
pairs_pushed ms all k j push = ap pairs push ∙ map-append pair ms ((k, j) ∷ [])

-- a scalar more changes no levels
pub flat_item : (js all : List Json) (j : Json) (n : ℕ) → all ≡ js ++ j ∷ [] → levels j ≡ 0 → items_levels (items_of js) ≡ n → items_levels (items_of all) ≡ n
flat_item js all j n push flat e = ap (λ xs. items_levels (items_of xs)) push ∙ omega (arith, items_levels-push js j, flat, e)

pub flat_member : (ms all : List (List ℕ × code.Json)) (k : List ℕ) (j : code.Json) (n : ℕ) → all ≡ ms ++ (k, j) ∷ [] → levels (json_of j) ≡ 0 → members_levels (members_of (pairs ms)) ≡ n → members_levels (members_of (pairs all)) ≡ n
flat_member ms all k j n push flat e =
    ap (λ xs. members_levels (members_of xs)) (pairs_pushed ms all k j push) ∙ omega (arith, members_levels-push (pairs ms) (k, json_of j), flat, e)
