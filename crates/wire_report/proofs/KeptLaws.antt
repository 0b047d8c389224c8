-- Lists that are kept as they came: their elements are looked at one after the other, and only the first refusal counts.
use Rattle.std.proofs.Common.{◌≡◌, ◌∙◌, ℕ, suc, ◌+◌, List, [], ◌∷◌, drop, Ok, Err, refl, sym, ap, arith}
use Rattle.wire_fields.specs.text_spec.Json.{Json}
use Rattle.wire_fields.specs.json_tree.Tree.{json_of, jsons}
use Rattle.wire_fields.specs.json_tree.declared.tree.Json.{Json as Tree}
use Rattle.wire_fields.specs.fleet_rows.declared.refusal.Refusal.{Refusal}
use Rattle.wire_fields.specs.wire_spec.Table.{Checked, ◌>>=◌, each_from}
use Rattle.wire_fields.specs.Checks.{checked}
use Rattle.wire_fields.proofs.FieldLaws.{checked-then}

-- only the refusal of what is bound counts, where the rest looks at nothing
pub checked-bind : {A B : Type 0} (c : Checked A) (f : A → Checked B) → checked (c >>= f) ≡ c >>= (λ a. checked (f a))
checked-bind (Ok a) f = refl
checked-bind (Err refusal) f = refl

-- what is bound by a check alone
pub skips : {A B : Type 0} (c : Checked A) (rest : Checked B) {u : Unit {0}} → Ok u ≡ checked c → c >>= (λ a. rest) ≡ rest
skips c rest ok = checked-then c rest ∙ ap (λ (d : Checked (Unit {0})). d >>= (λ u. rest)) (sym ok)

pub stops : {A B : Type 0} (c : Checked A) (rest : Checked B) {refusal : Refusal} → Err refusal ≡ checked c → c >>= (λ a. rest) ≡ Err refusal
stops c rest err = checked-then c rest ∙ ap (λ (d : Checked (Unit {0})). d >>= (λ u. rest)) (sym err)

-- ---- one element after the other

cons_step : {B : Type 0} (first : Checked B) (rest : Checked (List B)) → checked (first >>= (λ b. rest >>= (λ bs. Ok (b ∷ bs)))) ≡ checked first >>= (λ u. checked rest)
cons_step (Ok b) (Ok bs) = refl
cons_step (Ok b) (Err refusal) = refl
cons_step (Err refusal) rest = refl

module _ (check : ℕ → Json → Checked Json) where
  checked-cons : (i : ℕ) (j : Json) (js : List Json) → checked (each_from i check (j ∷ js)) ≡ checked (check i j) >>= (λ u. checked (each_from (suc i) check js))
  checked-cons i j js = cons_step (check i j) (each_from (suc i) check js)

  -- the list from a place on, where a tree stands there
  module _ (xs : List Tree) (at : ℕ) (x : Tree) (rest : drop at xs ≡ x ∷ drop (at + 1) xs) (i : ℕ) where
    from : checked (each_from i check (jsons (drop at xs))) ≡ checked (check i (json_of x)) >>= (λ u. checked (each_from (suc i) check (jsons (drop (at + 1) xs))))
    from = ap (λ ys. checked (each_from i check (jsons ys))) rest ∙ checked-cons i (json_of x) (jsons (drop (at + 1) xs))

    pub passes : {u : Unit {0}} → Ok u ≡ checked (check i (json_of x)) → checked (each_from i check (jsons (drop at xs))) ≡ checked (each_from (i + 1) check (jsons (drop (at + 1) xs)))
    passes ok =
        let next : suc i ≡ i + 1 = omega arith in
        from ∙ ap (λ c. c >>= (λ u. checked (each_from (suc i) check (jsons (drop (at + 1) xs))))) (sym ok) ∙ ap (λ n. checked (each_from n check (jsons (drop (at + 1) xs)))) next

    pub fails : {refusal : Refusal} → Err refusal ≡ checked (check i (json_of x)) → Err refusal ≡ checked (each_from i check (jsons (drop at xs)))
    fails err = ap (λ c. c >>= (λ u. checked (each_from (suc i) check (jsons (drop (at + 1) xs))))) err ∙ sym from

-- ---- what passes is what came

-- an element that passes is given as it came
abbrev pub Keeps : (ℕ → Json → Checked Json) → Type 0
Keeps check = (i : ℕ) (j : Json) → check i j ≡ checked (check i j) >>= (λ u. Ok j)

kept_step : (j : Json) (js : List Json) (first : Checked Json) (rest : Checked (List Json)) → first ≡ checked first >>= (λ u. Ok j) → rest ≡ checked rest >>= (λ u. Ok js) → first >>= (λ b. rest >>= (λ bs. Ok (b ∷ bs))) ≡ checked (first >>= (λ b. rest >>= (λ bs. Ok (b ∷ bs)))) >>= (λ u. Ok (j ∷ js))
kept_step j js (Ok b) (Ok bs) e f = cc
kept_step j js (Ok b) (Err refusal) e f = refl
kept_step j js (Err refusal) rest e f = refl

pub kept : (check : ℕ → Json → Checked Json) → Keeps check → (i : ℕ) (js : List Json) → each_from i check js ≡ checked (each_from i check js) >>= (λ u. Ok js)
kept check keeps i [] = refl
kept check keeps i (j ∷ js) = kept_step j js (check i j) (each_from (suc i) check js) (keeps i j) (kept check keeps (suc i) js)

-- a list is given as it came where none of its elements is refused
pub kept_ok : (check : ℕ → Json → Checked Json) → Keeps check → {u : Unit {0}} (js : List Json) → Ok u ≡ checked (each_from 0 check js) → each_from 0 check js ≡ Ok js
kept_ok check keeps js ok = kept check keeps 0 js ∙ ap (λ c. c >>= (λ u. Ok js)) (sym ok)
