-- Where texts are put in order, the order in which they come doesn't matter.
use Rattle.std.proofs.Common.{◌≡◌, ℕ, List}
use Rattle.std.specs.List.Sorted.{IsPermutation}
use Rattle.std.proofs.lemmas.List.Sorted.{Contains-permutation, IsPermutation-sym}
use Rattle.wire_fields.specs.fleet_rows.Texts.{sorted_texts}
use Rattle.wire_fields.proofs.of_wire_spec.of_plain_laws.Members.{Among, Among-from_Contains, Contains-from_Among}
use Rattle.wire_laws.proofs.SortedTexts.{sorted_texts_by_members}

moved : (xs ys : List (List ℕ)) → IsPermutation xs ys → (t : List ℕ) → Among t xs → Among t ys
moved xs ys p t a = Among-from_Contains ys t (Contains-permutation xs ys t p (Contains-from_Among xs t a))

pub sorted-permutation : (xs ys : List (List ℕ)) → IsPermutation xs ys → sorted_texts ys ≡ sorted_texts xs
sorted-permutation xs ys p = sorted_texts_by_members ys xs (moved ys xs (IsPermutation-sym xs ys p)) (moved xs ys p)
