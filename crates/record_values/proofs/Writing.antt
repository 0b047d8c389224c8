-- Fields that are written one behind the other.
use Rattle.std.proofs.Common.{◌≡◌, ◌∙◌, ℕ, ◌+◌, Bool, true, List, [], ◌∷◌, ◌++◌, drop, Some, refl, sym, ap, append_assoc}
use Rattle.std.specs.Prelude.{slice_get}
use Rattle.std.proofs.lemmas.List.{drop_more}
use Rattle.std.proofs.lemmas.Option.{slice_get_within, get_or_from_slice_get}
use Rattle.json_read.specs.text_spec.Json.{Json, members_of}
use Rattle.json_read.specs.text_spec.Compact.{compact, compact_members, comma_if, quoted}

-- one member of an object more
pub member_written : (out : List ℕ) (later : Bool) (ms : List (List ℕ × Json)) (at : ℕ) (key : List ℕ) (value : Json) → slice_get ms at ≡ Some (key, value)
    → ((((out ++ comma_if later) ++ quoted key) ++ 58 ∷ []) ++ compact value) ++ compact_members true (members_of (drop (at + 1) ms)) ≡ out ++ compact_members later (members_of (drop at ms))
member_written out later ms at key value is =
    let here : drop at ms ≡ (key, value) ∷ drop (at + 1) ms =
    drop_more ms at (key, value) (slice_get_within ms at (key, value) is) ∙ ap (λ (p : List ℕ × Json). p ∷ drop (at + 1) ms) (get_or_from_slice_get ms at (key, value) (key, value) is) in
    simp append_assoc refl ∙ ap (λ (l : List (List ℕ × Json)). out ++ compact_members later (members_of l)) (sym here)
