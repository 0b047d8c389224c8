-- Tags rise.
use Rattle.std.proofs.Common.{◌≡◌, ℕ, true, List, [], ◌∷◌, refl}
use Rattle.std.specs.Prelude.{◌&&◌}
use Rattle.std.specs.List.{AllByRecursion}
use Rattle.std.specs.List.Sorted.{IsStrictlySortedBy}
use Rattle.std.specs.Ordering.{is_lt}
use Rattle.std.specs.declared.cmp.Ordering.TheVariants.{Less}
use Rattle.std.proofs.lemmas.Cmp.{nat_list_cmp_total}
use Rattle.json_read.proofs.of_plain_laws.Booleans.{both_true}
use Rattle.json_read.proofs.of_plain_laws.Orderings.{less_is}
use Rattle.json_read.specs.text_spec.Compact.{text_cmp}
use Rattle.record_values.specs.Lists.{rise_from, rise}

pub all_map : {A : Type 0} (P Q : A → Type 0) → ((x : A) → P x → Q x) → (xs : List A) → AllByRecursion P xs → AllByRecursion Q xs
all_map P Q f [] h = tt
all_map P Q f (x ∷ xs) h = (f x h.0, all_map P Q f xs h.1)

-- ---- tags rise

rise_from_takes : (t : List ℕ) (us : List (List ℕ)) → rise_from t us ≡ true → AllByRecursion (λ y. text_cmp t y ≡ Less) us × IsStrictlySortedBy text_cmp us
unfolding IsStrictlySortedBy
rise_from_takes t [] e = (tt, tt)
rise_from_takes t (u ∷ us) e =
    let two = both_true (is_lt (text_cmp t u)) (rise_from u us) e in
    let less = less_is (text_cmp t u) two.0 in
    let rest = rise_from_takes u us two.1 in
    ((less, all_map (λ y. text_cmp u y ≡ Less) (λ y. text_cmp t y ≡ Less) (λ y later. nat_list_cmp_total.trans t u y less later) us rest.0), rest)

pub rise_takes : (ts : List (List ℕ)) → rise ts ≡ true → IsStrictlySortedBy text_cmp ts
unfolding IsStrictlySortedBy
rise_takes [] e = tt
rise_takes (t ∷ ts) e = rise_from_takes t ts e

rise_from_again : (t : List ℕ) (us : List (List ℕ)) → AllByRecursion (λ y. text_cmp t y ≡ Less) us → IsStrictlySortedBy text_cmp us → rise_from t us ≡ true
unfolding IsStrictlySortedBy
rise_from_again t [] all sorted = refl
rise_from_again t (u ∷ us) all sorted = λ i. is_lt (all.0 i) && rise_from_again u us sorted.0 sorted.1 i

pub rise_again : (ts : List (List ℕ)) → IsStrictlySortedBy text_cmp ts → rise ts ≡ true
unfolding IsStrictlySortedBy
rise_again [] sorted = refl
rise_again (t ∷ ts) sorted = rise_from_again t ts sorted.0 sorted.1
