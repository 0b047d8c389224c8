-- Of equal edges the first stays: as the table says it, and as edges are marked one after the other.
use Rattle.std.proofs.Common.{◌≡◌, ◌∙◌, List, [], ◌∷◌, ◌++◌, length, Bool, true, false, cond, refl, sym, ap, arith}
use Rattle.std.specs.Prelude.{not, ◌&&◌, ◌||◌, filter}
use Rattle.std.specs.List.{list_any}
use Rattle.std.proofs.lemmas.List.Folds.{list_any-append}
use Rattle.wire_fields.specs.fleet_rows.declared.catalog.Edge.{Edge}
use Rattle.wire_fields.specs.wire_spec.Table.{is_edge, distinct_edges}
use Rattle.wire_catalog.specs.Distinct.{news, kept}

-- ---- filters

module _ {A : Type 0} where
  -- what two tests let through
  twice_step : (p q : A → Bool) (b c : Bool) (x : A) (xs : List A) → p x ≡ c → filter p (filter q xs) ≡ filter (λ y. q y && p y) xs → filter p (cond b (x ∷ filter q xs) (filter q xs)) ≡ cond (b && c) (x ∷ filter (λ y. q y && p y) xs) (filter (λ y. q y && p y) xs)
  twice_step p q true true x xs e next = rw e (ap (λ ys. x ∷ ys) next)
  twice_step p q true false x xs e next = rw e next
  twice_step p q false c x xs e next = next

  twice : (p q : A → Bool) (xs : List A) → filter p (filter q xs) ≡ filter (λ y. q y && p y) xs
  twice p q [] = refl
  twice p q (x ∷ xs) = twice_step p q (q x) (p x) x xs refl (twice p q xs)

  alike_step : (b c : Bool) (x : A) (xs ys : List A) → b ≡ c → xs ≡ ys → cond b (x ∷ xs) xs ≡ cond c (x ∷ ys) ys
  alike_step b c x xs ys e next = λ i. cond (e i) (x ∷ next i) (next i)

  alike : (p q : A → Bool) → ((x : A) → p x ≡ q x) → (xs : List A) → filter p xs ≡ filter q xs
  alike p q e [] = refl
  alike p q e (x ∷ xs) = alike_step (p x) (q x) x (filter p xs) (filter q xs) (e x) (alike p q e xs)

  all_pass : (xs : List A) → filter (λ x. true) xs ≡ xs
  all_pass [] = refl
  all_pass (x ∷ xs) = ap (λ ys. x ∷ ys) (all_pass xs)

-- ---- edges

abbrev unseen : List Edge → Edge → Bool
unseen before f = not (list_any (λ e. is_edge e f) before)

not_or : (b c : Bool) → not (b || c) ≡ not c && not b
not_or true true = refl
not_or true false = refl
not_or false true = refl
not_or false false = refl

or_false : (b : Bool) → b || false ≡ b
or_false true = refl
or_false false = refl

unseen-more : (before : List Edge) (e f : Edge) → unseen (before ++ e ∷ []) f ≡ not (is_edge e f) && unseen before f
unseen-more before e f =
    ap not (list_any-append (λ g. is_edge g f) before (e ∷ []) ∙ ap (λ b. list_any (λ g. is_edge g f) before || b) (or_false (is_edge e f)))
    ∙ not_or (list_any (λ g. is_edge g f) before) (is_edge e f)

kept_step : (b : Bool) (e : Edge) (rest some : List Edge) (bs : List Bool) → kept rest bs ≡ some → kept (e ∷ rest) (b ∷ bs) ≡ cond b (e ∷ some) some
kept_step true e rest some bs next = ap (λ es. e ∷ es) next
kept_step false e rest some bs next = next

pub kept-unseen : (before es : List Edge) → kept es (news before es) ≡ filter (unseen before) (distinct_edges es)
kept-unseen before [] = refl
kept-unseen before (e ∷ es) =
    let rest : filter (unseen (before ++ e ∷ [])) (distinct_edges es) ≡ filter (unseen before) (filter (λ f. not (is_edge e f)) (distinct_edges es)) =
    alike (unseen (before ++ e ∷ [])) (λ f. not (is_edge e f) && unseen before f) (unseen-more before e) (distinct_edges es)
    ∙ sym (twice (unseen before) (λ f. not (is_edge e f)) (distinct_edges es)) in
    kept_step (unseen before e) e es (filter (unseen before) (filter (λ f. not (is_edge e f)) (distinct_edges es))) (news (before ++ e ∷ []) es) (kept-unseen (before ++ e ∷ []) es ∙ rest)

-- the edges that are new are those of the table
pub kept-distinct : (es : List Edge) → kept es (news [] es) ≡ distinct_edges es
kept-distinct es = kept-unseen [] es ∙ all_pass (distinct_edges es)

pub length-news : (before es : List Edge) → length (news before es) ≡ length es
length-news before [] = refl
length-news before (e ∷ es) = omega (arith, length-news (before ++ e ∷ []) es)
