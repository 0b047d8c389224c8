-- One row more, of those that are left.
use Rattle.std.proofs.Common.{◌≡◌, ◌∙◌, ℕ, zero, suc, ◌+◌, ◌<◌, List, [], ◌∷◌, ◌++◌, Bool, length, get_or, drop, map, refl, sym, ap, append_assoc, Some, arith}
use Rattle.std.specs.Prelude.{filter, slice_get}
use Rattle.std.proofs.lemmas.List.{drop_more}
use Rattle.std.proofs.lemmas.List.Elements.{filter-append}
use Rattle.fleet_tables.proofs.of_plain_laws.Lists.{left_at}

pub copied_on : {A : Type 0} (xs : List A) (i : ℕ) (x : A) (copied new : List A) → slice_get xs i ≡ Some x → new ≡ copied ++ x ∷ [] → copied ++ drop i xs ≡ xs → new ++ drop (i + 1) xs ≡ xs
copied_on xs i x copied new g e h =
    (λ k. e k ++ drop (let n : i + 1 ≡ suc i = omega arith in n k) xs)
    ∙ append_assoc copied (x ∷ []) (drop (suc i) xs)
    ∙ ap (λ l. copied ++ l) (sym (left_at xs i x g))
    ∙ h

pub chosen_on : {A : Type 0} (p q : A → Bool) → q ≡ p → (xs : List A) (i : ℕ) (x : A) (chosen new whole : List A) → slice_get xs i ≡ Some x → new ≡ chosen ++ filter q (x ∷ []) → chosen ++ filter p (drop i xs) ≡ whole → new ++ filter p (drop (i + 1) xs) ≡ whole
chosen_on p q same xs i x chosen new whole g e h =
    (λ k. e k ++ filter p (drop (let n : i + 1 ≡ suc i = omega arith in n k) xs))
    ∙ append_assoc chosen (filter q (x ∷ [])) (filter p (drop (suc i) xs))
    ∙ ap (λ r. chosen ++ (filter r (x ∷ []) ++ filter p (drop (suc i) xs))) same
    ∙ ap (λ l. chosen ++ l) (sym (filter-append p (x ∷ []) (drop (suc i) xs)) ∙ ap (filter p) (sym (left_at xs i x g)))
    ∙ h

pub map_same : {A : Type 0} (xs : List A) → map (λ (x : A). x) xs ≡ xs
map_same [] = refl
map_same (x ∷ xs) = ap (λ l. x ∷ l) (map_same xs)

pub mapped_on : {A B : Type 0} (f : A → B) (xs : List A) (i : ℕ) (x : A) (made new whole : List B) (y : B) → i < length xs → x ≡ get_or xs i x → y ≡ f x → new ≡ made ++ y ∷ [] → made ++ map f (drop i xs) ≡ whole → new ++ map f (drop (i + 1) xs) ≡ whole
mapped_on f xs i x made new whole y lt at is e h =
    let rest = map f (drop (i + 1) xs) in
    ap (λ l. l ++ rest) e
    ∙ append_assoc made (y ∷ []) rest
    ∙ ap (λ z. made ++ z ∷ rest) is
    ∙ ap (λ l. made ++ map f l) (ap (λ z. z ∷ drop (i + 1) xs) at ∙ sym (drop_more xs i x lt))
    ∙ h

pub twice_on : {A B C : Type 0} (f : A → B) (g : B → C) (xs : List A) (i : ℕ) (x : A) (made new whole : List C) (y : C) → i < length xs → x ≡ get_or xs i x → y ≡ g (f x) → new ≡ made ++ y ∷ [] → made ++ map g (map f (drop i xs)) ≡ whole → new ++ map g (map f (drop (i + 1) xs)) ≡ whole
twice_on f g xs i x made new whole y lt at is e h =
    let rest = map g (map f (drop (i + 1) xs)) in
    ap (λ l. l ++ rest) e
    ∙ append_assoc made (y ∷ []) rest
    ∙ ap (λ z. made ++ z ∷ rest) is
    ∙ ap (λ l. made ++ map g (map f l)) (ap (λ z. z ∷ drop (i + 1) xs) at ∙ sym (drop_more xs i x lt))
    ∙ h
