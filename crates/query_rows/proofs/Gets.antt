-- What stands at a place of a mapped list, and the member of a name.
use Rattle.std.proofs.Common.{◌≡◌, ◌∙◌, ℕ, zero, suc, ◌+◌, List, [], ◌∷◌, Bool, true, false, map, drop, refl, sym, ap, arith, Option, Some, if◌then◌else◌}
use Rattle.std.specs.Prelude.{slice_get, option_map}
use Rattle.std.specs.Str.{bytes_eq}
use Rattle.same_text.specs.text_spec.Json.{Json, find_member}
use Rattle.fleet_tables.proofs.of_plain_laws.Lists.{left_at}

pub get_map : {A B : Type 0} (f : A → B) (xs : List A) (i : ℕ) → slice_get (map f xs) i ≡ option_map f (slice_get xs i)
get_map f [] i = refl
get_map f (x ∷ xs) zero = refl
get_map f (x ∷ xs) (suc i) = get_map f xs i

module _ (name : List ℕ) (ms : List (List ℕ × Json)) (i : ℕ) (k : List ℕ) (v : Json) (at : slice_get ms i ≡ Some (k, v)) where
  first_is : (b : Bool) → bytes_eq name k ≡ b → find_member name (drop i ms) ≡ (if b then Some v else find_member name (drop (suc i) ms))
  first_is b e = ap (find_member name) (left_at ms i (k, v) at) ∙ ap (λ c. if c then Some v else find_member name (drop (suc i) ms)) e

  pub member_here : bytes_eq name k ≡ true → find_member name (drop i ms) ≡ Some v
  member_here e = first_is true e

  pub member_on : (whole : Option Json) → bytes_eq name k ≡ false → find_member name (drop i ms) ≡ whole → find_member name (drop (i + 1) ms) ≡ whole
  member_on whole e h = ap (λ n. find_member name (drop n ms)) (let n : i + 1 ≡ suc i = omega arith in n) ∙ sym (first_is false e) ∙ h
