-- The elements of a list one after the other, as a loop does.
use Rattle.std.proofs.Common.{◌≡◌, ◌∙◌, ℕ, suc, ◌+◌, List, [], ◌∷◌, ◌++◌, Ok, Err, refl, sym, ap, append_assoc, arith}
use Rattle.wire_fields.specs.wire_spec.Table.{Checked, ◌>>=◌, each_from}

-- what was read, and what is still read
abbrev pub after : {B : Type 0} → List B → Checked (List B) → Checked (List B)
after done rest = rest >>= (λ bs. Ok (done ++ bs))

pub after-nil : {B : Type 0} (rest : Checked (List B)) → after [] rest ≡ rest
after-nil (Ok bs) = refl
after-nil (Err refusal) = refl

regroup : {B : Type 0} (done : List B) (b : B) (rest : Checked (List B)) → after done (rest >>= (λ bs. Ok (b ∷ bs))) ≡ after (done ++ b ∷ []) rest
regroup done b (Ok bs) = ap Ok (sym (append_assoc done (b ∷ []) bs))
regroup done b (Err refusal) = refl

module _ {A B : Type 0} (check : ℕ → A → Checked B) (done : List B) (i : ℕ) (all : Checked (List B)) where
  one_more : (a : A) (as_ : List A) (b : B) → check i a ≡ Ok b → after done (each_from i check (a ∷ as_)) ≡ after (done ++ b ∷ []) (each_from (suc i) check as_)
  one_more a as_ b e = ap (λ c. after done (c >>= (λ x. each_from (suc i) check as_ >>= (λ bs. Ok (x ∷ bs))))) e ∙ regroup done b (each_from (suc i) check as_)

  pub goes_on : (a : A) (as_ : List A) (b : B) → Ok b ≡ check i a → after done (each_from i check (a ∷ as_)) ≡ all → after (done ++ b ∷ []) (each_from (i + 1) check as_) ≡ all
  goes_on a as_ b e so_far =
      let next : i + 1 ≡ suc i = omega arith in
      ap (λ n. after (done ++ b ∷ []) (each_from n check as_)) next ∙ sym (one_more a as_ b (sym e)) ∙ so_far
