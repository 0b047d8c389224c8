-- Of several conjuncts the least number of rows counts.
use Rattle.std.proofs.Common.{◌≡◌, ◌∙◌, ◌≤◌, ℕ, suc, List, [], ◌∷◌, length, refl, sym, ap, subst, Bool, true, false, ◌&&◌, ◌||◌, Option, Some, if◌then◌else◌, codes, arith}
use Rattle.std.specs.Prelude.{filter}
use Rattle.std.specs.List.{list_any, list_all}
use Rattle.std.specs.Str.{bytes_eq}
use Rattle.ast_tree.proofs.of_plain_laws.Booleans.{both_true, true_both}
use Rattle.ast_tree.proofs.of_plain_laws.Lists.{one_text}
use Rattle.query_plan.specs.table_spec.fleet_rows.declared.row.Entity.{Entity}
use Rattle.query_plan.specs.table_spec.fleet_rows.declared.row.Entity.TheVariants.{Facts, Resources}
use Rattle.query_plan.specs.table_spec.Rows.{Cells}
use Rattle.query_reach.specs.Reach.{demanded, shows, beside, shows_own, entity_rows, is_found}
use Rattle.query_reach.specs.Laws.{is_one_of, ReachIsLeast}

-- ---- a test that passes no more leaves no more

fewer_step : (b c : Bool) (m n : ℕ) → m ≤ n → (b ≡ true → c ≡ true) → (if b then suc m else m) ≤ (if c then suc n else n)
fewer_step true true m n l h = omega (arith, l)
fewer_step true false m n l h = absurd (let apart : false ≡ true = h refl in cc)
fewer_step false true m n l h = omega (arith, l)
fewer_step false false m n l h = l

counted : (b : Bool) (x : Cells) (xs : List Cells) → length (if b then x ∷ xs else xs) ≡ (if b then suc (length xs) else length xs)
counted true x xs = refl
counted false x xs = refl

pub fewer : (p q : Cells → Bool) → ((x : Cells) → p x ≡ true → q x ≡ true) → (xs : List Cells) → length (filter p xs) ≤ length (filter q xs)
fewer p q h [] = omega arith
fewer p q h (x ∷ xs) =
    subst (λ n. n ≤ length (filter q (x ∷ xs))) (sym (counted (p x) x (filter p xs)))
    (subst (λ n. (if p x then suc (length (filter p xs)) else length (filter p xs)) ≤ n) (sym (counted (q x) x (filter q xs)))
    (fewer_step (p x) (q x) (length (filter p xs)) (length (filter q xs)) (fewer p q h xs) (h x)))

at_most : (p : Cells → Bool) (xs : List Cells) → length (filter p xs) ≤ length xs
at_most p [] = omega arith
at_most p (x ∷ xs) =
    subst (λ n. n ≤ suc (length xs)) (sym (counted (p x) x (filter p xs)))
    (fewer_step (p x) true (length (filter p xs)) (length xs) (at_most p xs) (λ h. refl))

-- ---- what shows all texts shows one of them

one_step : (f : List ℕ → Bool) (b : Bool) (x t : List ℕ) (ts : List (List ℕ)) → bytes_eq x t ≡ b → f t ≡ true → (list_any (bytes_eq x) ts ≡ true → f x ≡ true) → (b || list_any (bytes_eq x) ts) ≡ true → f x ≡ true
one_step f true x t ts e h rest any = ap f (one_text x t e) ∙ h
one_step f false x t ts e h rest any = rest any

one_of_all : (f : List ℕ → Bool) (x : List ℕ) (texts : List (List ℕ)) → list_all f texts ≡ true → list_any (bytes_eq x) texts ≡ true → f x ≡ true
one_of_all f x [] all any = absurd (let apart : false ≡ true = any in cc)
one_of_all f x (t ∷ ts) all any =
    let parts = both_true (f t) (list_all f ts) all in
    one_step f (bytes_eq x t) x t ts refl parts.0 (one_of_all f x ts parts.1) any

shows_one : (e : Option Entity) (column x : List ℕ) (texts : List (List ℕ)) (row : Cells) → is_one_of texts x → shows e column texts row ≡ true → shows e column (x ∷ []) row ≡ true
shows_one e column x texts row one h = true_both _ true (one_of_all _ x texts h one) refl

beside_is : (x : List ℕ) (types titles : List (List ℕ)) → is_one_of types x → beside types titles ≡ titles
beside_is x [] titles one = absurd (let apart : false ≡ true = one in cc)
beside_is x (t ∷ ts) titles one = refl

pub reach_is_least : ReachIsLeast
reach_is_least = record {
  all = λ rows e ps. at_most (is_found e ps) (entity_rows rows e);
  certname = λ rows e ps x one.
      fewer (is_found e ps) (shows e (codes "certname") (x ∷ []))
      (λ row h. shows_one e (codes "certname") x (demanded (codes "certname") ps) row one (both_true (shows e (codes "certname") (demanded (codes "certname") ps) row) (shows_own e ps row) h).0)
      (entity_rows rows e);
  name = λ rows ps x one.
      fewer (is_found (Some Facts) ps) (shows (Some Facts) (codes "name") (x ∷ []))
      (λ row h.
      shows_one (Some Facts) (codes "name") x (demanded (codes "name") ps) row one
      (both_true (shows (Some Facts) (codes "certname") (demanded (codes "certname") ps) row) (shows_own (Some Facts) ps row) h).1)
      (rows Facts);
  pair = λ rows ps x y one other.
      let types = demanded (codes "type") ps in
      let titles = demanded (codes "title") ps in
      fewer (is_found (Some Resources) ps) (λ row. shows (Some Resources) (codes "type") (x ∷ []) row && shows (Some Resources) (codes "title") (y ∷ []) row)
      (λ row h.
      let own = (both_true (shows (Some Resources) (codes "certname") (demanded (codes "certname") ps) row) (shows_own (Some Resources) ps row) h).1 in
      let parts = both_true (shows (Some Resources) (codes "type") types row) (shows (Some Resources) (codes "title") (beside types titles) row) own in
      true_both (shows (Some Resources) (codes "type") (x ∷ []) row) (shows (Some Resources) (codes "title") (y ∷ []) row)
      (shows_one (Some Resources) (codes "type") x types row one parts.0)
      (shows_one (Some Resources) (codes "title") y titles row other (subst (λ us. shows (Some Resources) (codes "title") us row ≡ true) (beside_is x types titles one) parts.1)))
      (rows Resources);
}
