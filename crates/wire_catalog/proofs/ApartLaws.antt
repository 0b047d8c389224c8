-- Where none stands twice, none stood before.
use Rattle.std.proofs.Common.{◌≡◌, ◌∙◌, ℕ, suc, List, [], ◌∷◌, ◌++◌, length, replicate, Bool, true, false, Some, None, refl, sym, subst, append_assoc}
use Rattle.std.specs.Prelude.{not, ◌&&◌}
use Rattle.std.specs.List.{IsDistinct, AllByRecursion, list_any}
use Rattle.wire_fields.proofs.of_wire_spec.of_plain_laws.Booleans.{or_falses, if_false}
use Rattle.wire_fields.specs.fleet_rows.declared.catalog.Edge.{Edge}
use Rattle.wire_fields.specs.fleet_rows.declared.catalog.Resource.{Resource}
use Rattle.wire_fields.specs.wire_spec.Table.{is_edge, has_name_of}
use Rattle.wire_catalog.specs.Distinct.{news}
use Rattle.wire_catalog.specs.Names.{again_from}
use Rattle.wire_catalog.proofs.KeyLaws.{flip}

module _ {A : Type 0} (meets : A → A → Bool) where
  misses_there : (y x : A) (ys xs : List A) → AllByRecursion (λ z. meets y z ≡ false) (ys ++ x ∷ xs) → meets y x ≡ false
  misses_there y x [] xs h = h.0
  misses_there y x (z ∷ ys) xs h = misses_there y x ys xs h.1

  none_before : (before : List A) (x : A) (xs : List A) → IsDistinct meets (before ++ x ∷ xs) → list_any (λ f. meets f x) before ≡ false
  unfolding IsDistinct
  none_before [] x xs h = refl
  none_before (y ∷ ys) x xs h = or_falses (meets y x) (list_any (λ f. meets f x) ys) (misses_there y x ys xs h.0) (none_before ys x xs h.1)

  one_on : (before : List A) (x : A) (xs : List A) → IsDistinct meets (before ++ x ∷ xs) → IsDistinct meets ((before ++ x ∷ []) ++ xs)
  one_on before x xs h = subst (IsDistinct meets) (sym (append_assoc before (x ∷ []) xs)) h

new_after : (before es : List Edge) → IsDistinct is_edge (before ++ es) → news before es ≡ replicate (length es) true
new_after before [] h = refl
new_after before (e ∷ es) h = λ i. not (none_before is_edge before e es h i) ∷ new_after (before ++ e ∷ []) es (one_on is_edge before e es h) i

pub all_new : (es : List Edge) → IsDistinct is_edge es → news [] es ≡ replicate (length es) true
all_new es h = new_after [] es h

flipped : (r : Resource) (before : List Resource) → list_any (has_name_of r) before ≡ list_any (λ f. has_name_of f r) before
flipped r before = λ i. list_any (λ f. flip r.rtype f.rtype i && flip r.title f.title i) before

none_after : (before : List Resource) (n : ℕ) (rs : List Resource) → IsDistinct has_name_of (before ++ rs) → again_from before n rs ≡ None
none_after before n [] h = refl
none_after before n (r ∷ rs) h =
    if_false (list_any (has_name_of r) before) (Some n) (again_from (before ++ r ∷ []) (suc n) rs) (flipped r before ∙ none_before has_name_of before r rs h)
    ∙ none_after (before ++ r ∷ []) (suc n) rs (one_on has_name_of before r rs h)

pub none_again : (rs : List Resource) → IsDistinct has_name_of rs → again_from [] 0 rs ≡ None
none_again rs h = none_after [] 0 rs h
