-- What a list of members or items holds: a member by its name from a place on, and the items as a list.
use Rattle.std.proofs.Common.{◌≡◌, ◌∙◌, ℕ, ◌+◌, List, ◌∷◌, drop, ap, true, false, Some, if◌then◌else◌}
use Rattle.std.specs.Prelude.{slice_get}
use Rattle.std.specs.Str.{bytes_eq}
use Rattle.std.proofs.lemmas.List.{drop_more}
use Rattle.std.proofs.lemmas.Option.{slice_get_within, get_or_from_slice_get}
use Rattle.json_machine.specs.text_spec.Json.{Json, find_member}

module _ (name : List ℕ) (ms : List (List ℕ × Json)) (at : ℕ) (m : List ℕ × Json) (is : slice_get ms at ≡ Some m) where
  find_from : find_member name (drop at ms) ≡ (if bytes_eq name m.0 then Some m.1 else find_member name (drop (at + 1) ms))
  find_from =
      ap (find_member name) (drop_more ms at m (slice_get_within ms at m is) ∙ ap (λ x. x ∷ drop (at + 1) ms) (get_or_from_slice_get ms at m m is))

  pub find_here : bytes_eq name m.0 ≡ true → find_member name (drop at ms) ≡ Some m.1
  find_here e = find_from ∙ rw e (λ i. Some m.1)

  pub find_later : bytes_eq name m.0 ≡ false → find_member name (drop at ms) ≡ find_member name (drop (at + 1) ms)
  find_later e = find_from ∙ rw e (λ i. find_member name (drop (at + 1) ms))
