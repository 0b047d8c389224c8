-- One member more, from the last to the first.
use Rattle.std.proofs.Common.{◌≡◌, ◌∙◌, ℕ, ◌+◌, ◌-◌, ◌<◌, ◌≤◌, List, [], ◌∷◌, ◌++◌, Some, sym, ap, max, get_or, drop, arith}
use Rattle.std.specs.Prelude.{slice_get}
use Rattle.std.proofs.lemmas.List.{drop_more}
use Rattle.std.proofs.lemmas.Option.{get_or_from_slice_get, slice_get_within}
use Rattle.json_tree.specs.text_spec.Json.{Json, members_of, set_member, settled, levels, members_levels}
use Rattle.json_tree.proofs.of_text_spec.JsonLemmas.{members_levels-push}
use Rattle.same_text.specs.Alike.{alike, alike_members}
use Rattle.same_text.proofs.LevelLaws.{levels_alike, settled-push}

pub shallow : (v made : Json) (n : ℕ) → made ≡ alike v → levels v ≤ n → levels made ≤ n
shallow v made n is h = let same : levels made ≡ levels (alike v) = ap levels is in omega (arith, same, levels_alike v)

module _ (ms list new : List (List ℕ × Json)) (k : List ℕ) (v made : Json) (is : made ≡ alike v) (pushed : new ≡ list ++ (k, made) ∷ []) where
  pub set_on : (count i : ℕ) → i < count → slice_get ms ((count - 1) - i) ≡ Some (k, v) → settled [] list ≡ alike_members (members_of (drop (count - i) ms)) → settled [] new ≡ alike_members (members_of (drop (count - (i + 1)) ms))
  set_on count i lt got h =
      let at : ℕ = (count - 1) - i in
      let here : get_or ms at (k, v) ≡ (k, v) = get_or_from_slice_get ms at (k, v) (k, v) got in
      let next : at + 1 ≡ count - i = omega (arith, lt) in
      let this : at ≡ count - (i + 1) = omega (arith, lt) in
      ap (settled []) pushed
      ∙ settled-push [] list k made
      ∙ (λ x. set_member k (is x) (h x))
      ∙ ap (λ n. alike_members (members_of ((k, v) ∷ drop n ms))) (sym next)
      ∙ ap (λ m. alike_members (members_of (m ∷ drop (at + 1) ms))) (sym here)
      ∙ ap (λ l. alike_members (members_of l)) (sym (drop_more ms at (k, v) (slice_get_within ms at (k, v) got)))
      ∙ ap (λ n. alike_members (members_of (drop n ms))) this

  pub levels_on : (n : ℕ) → levels v ≤ n → members_levels (members_of list) ≤ n → members_levels (members_of new) ≤ n
  levels_on n one all =
      let whole : members_levels (members_of new) ≡ max (members_levels (members_of list)) (levels made) = ap (λ l. members_levels (members_of l)) pushed ∙ members_levels-push list (k, made) in
      omega (arith, whole, shallow v made n is one)
