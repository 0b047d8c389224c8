-- The hashes that rows show can be packed.
use Rattle.std.proofs.Common.{◌≡◌, ℕ, List, [], ◌∷◌, map, sym, subst}
use Rattle.std.specs.List.{AllByRecursion}
use Rattle.checkpoint_spec.specs.text_spec.Json.{Json}
use Rattle.checkpoint_spec.specs.text_spec.Compact.{canonical}
use Rattle.checkpoint_spec.specs.table_spec.Cells.{hash}
use Rattle.packed_shown.specs.Hashes.{IsHash}
use Rattle.packed_shown.proofs.HashLaws.{digest_is_hash}

pub is_hash : (digits : List ℕ) (j : Json) → digits ≡ hash j → IsHash digits
is_hash digits j same = subst IsHash (sym same) (digest_is_hash (canonical j))

each_is_hash : {A : Type 0} (f : A → Json) (xs : List A) → AllByRecursion IsHash (map (λ x. hash (f x)) xs)
each_is_hash f [] = tt
each_is_hash f (x ∷ xs) = (digest_is_hash (canonical (f x)), each_is_hash f xs)

pub are_hashes : {A : Type 0} (f : A → Json) (xs : List A) (hashes : List (List ℕ)) → hashes ≡ map (λ x. hash (f x)) xs → AllByRecursion IsHash hashes
are_hashes f xs hashes same = subst (AllByRecursion IsHash) (sym same) (each_is_hash f xs)
