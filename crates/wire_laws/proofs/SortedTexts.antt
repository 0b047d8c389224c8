-- Texts that are put in order: each once, and sorted.
use Rattle.std.proofs.Common.{◌≡◌, ◌∙◌, ℕ, List, [], ◌∷◌, refl, sym, ap, ◌⊎◌, inl, inr}
use Rattle.std.specs.List.Sorted.{IsStrictlySortedBy}
use Rattle.std.specs.Cmp.{IsTotalOrder}
use Rattle.std.specs.Ordering.{match_ordering, ordering_reverse}
use Rattle.std.specs.declared.cmp.Ordering.{Ordering}
use Rattle.std.specs.declared.cmp.Ordering.TheVariants.{Less, Equal, Greater}
use Rattle.std.proofs.lemmas.Cmp.{nat_list_cmp_total, tied_itself}
use Rattle.history_spec.specs.text_spec.Compact.{text_cmp}
use Rattle.history_spec.proofs.of_text_spec.TextOrder.{text_tied}
use Rattle.history_spec.specs.fleet_rows.Texts.{insert_text, sorted_texts}
use Rattle.history_spec.proofs.of_plain_laws.Members.{Among}
use Rattle.history_spec.proofs.of_plain_laws.StrictlySorted.{sorted-nil, sorted-cons, sorted-below, sorted-rest, sorted-unique}

pub text_cmp_total : IsTotalOrder text_cmp
text_cmp_total = nat_list_cmp_total

pub turned_less : (x y : List ℕ) → text_cmp x y ≡ Greater → text_cmp y x ≡ Less
turned_less x y h = text_cmp_total.antisymm y x ∙ ap ordering_reverse h

pub apart_texts : (n m : List ℕ) → text_cmp n m ≡ Less → n ≡ m → ⊥
apart_texts n m below same = let apart : Less ≡ Equal = sym below ∙ ap (λ t. text_cmp t m) same ∙ tied_itself text_cmp_total m in cc

inserted : (t x y : List ℕ) (ys : List (List ℕ)) (o : Ordering) → text_cmp x y ≡ o → Among t (match_ordering o (x ∷ y ∷ ys) (y ∷ ys) (y ∷ insert_text x ys)) → (Among t (insert_text x ys) → (t ≡ x) ⊎ Among t ys) → (t ≡ x) ⊎ Among t (y ∷ ys)
inserted t x y ys Less e a h = a
inserted t x y ys Equal e a h = inr a
inserted t x y ys Greater e (inl same) h = inr (inl same)
inserted t x y ys Greater e (inr a) h = elim (h a) [ inl same ↦ inl same | inr b ↦ inr (inr b) ]

Among-from_insert_text : (t x : List ℕ) (ys : List (List ℕ)) → Among t (insert_text x ys) → (t ≡ x) ⊎ Among t ys
Among-from_insert_text t x [] a = a
Among-from_insert_text t x (y ∷ ys) a = inserted t x y ys (text_cmp x y) refl a (Among-from_insert_text t x ys)

there : (t x y : List ℕ) (ys : List (List ℕ)) (o : Ordering) → text_cmp x y ≡ o → (t ≡ x) ⊎ Among t (y ∷ ys) → ((t ≡ x) ⊎ Among t ys → Among t (insert_text x ys)) → Among t (match_ordering o (x ∷ y ∷ ys) (y ∷ ys) (y ∷ insert_text x ys))
there t x y ys Less e a h = a
there t x y ys Equal e (inl same) h = inl (same ∙ text_tied x y e)
there t x y ys Equal e (inr a) h = a
there t x y ys Greater e (inl same) h = inr (h (inl same))
there t x y ys Greater e (inr (inl same)) h = inl same
there t x y ys Greater e (inr (inr a)) h = inr (h (inr a))

Among-insert_text : (t x : List ℕ) (ys : List (List ℕ)) → (t ≡ x) ⊎ Among t ys → Among t (insert_text x ys)
Among-insert_text t x [] a = a
Among-insert_text t x (y ∷ ys) a = there t x y ys (text_cmp x y) refl a (Among-insert_text t x ys)

below_inserted : (x y : List ℕ) (ys : List (List ℕ)) → text_cmp x y ≡ Greater → IsStrictlySortedBy text_cmp (y ∷ ys) → (t : List ℕ) → (t ≡ x) ⊎ Among t ys → text_cmp y t ≡ Less
below_inserted x y ys e s t (inl same) = rw same (turned_less x y e)
below_inserted x y ys e s t (inr a) = sorted-below text_cmp y ys s t a

below_all : (x y : List ℕ) (ys : List (List ℕ)) → text_cmp x y ≡ Less → IsStrictlySortedBy text_cmp (y ∷ ys) → (t : List ℕ) → Among t (y ∷ ys) → text_cmp x t ≡ Less
below_all x y ys e s t (inl same) = rw same e
below_all x y ys e s t (inr a) = text_cmp_total.trans x y t e (sorted-below text_cmp y ys s t a)

sorted_step : (x y : List ℕ) (ys : List (List ℕ)) (o : Ordering) → text_cmp x y ≡ o → IsStrictlySortedBy text_cmp (y ∷ ys) → (IsStrictlySortedBy text_cmp ys → IsStrictlySortedBy text_cmp (insert_text x ys)) → IsStrictlySortedBy text_cmp (match_ordering o (x ∷ y ∷ ys) (y ∷ ys) (y ∷ insert_text x ys))
sorted_step x y ys Less e s h = sorted-cons text_cmp x (y ∷ ys) (below_all x y ys e s) s
sorted_step x y ys Equal e s h = s
sorted_step x y ys Greater e s h =
    sorted-cons text_cmp y (insert_text x ys) (λ t a. below_inserted x y ys e s t (Among-from_insert_text t x ys a)) (h (sorted-rest text_cmp y ys s))

sorted-insert_text : (x : List ℕ) (ys : List (List ℕ)) → IsStrictlySortedBy text_cmp ys → IsStrictlySortedBy text_cmp (insert_text x ys)
sorted-insert_text x [] s = sorted-cons text_cmp x [] (λ t a. absurd a) s
sorted-insert_text x (y ∷ ys) s = sorted_step x y ys (text_cmp x y) refl s (sorted-insert_text x ys)

pub sorted_texts_are_sorted : (xs : List (List ℕ)) → IsStrictlySortedBy text_cmp (sorted_texts xs)
sorted_texts_are_sorted [] = sorted-nil text_cmp
sorted_texts_are_sorted (x ∷ xs) = sorted-insert_text x (sorted_texts xs) (sorted_texts_are_sorted xs)

pub Among-sorted_texts : (t : List ℕ) (xs : List (List ℕ)) → Among t xs → Among t (sorted_texts xs)
Among-sorted_texts t [] a = a
Among-sorted_texts t (x ∷ xs) (inl e) = Among-insert_text t x (sorted_texts xs) (inl e)
Among-sorted_texts t (x ∷ xs) (inr a) = Among-insert_text t x (sorted_texts xs) (inr (Among-sorted_texts t xs a))

found : (t x : List ℕ) (xs : List (List ℕ)) → (t ≡ x) ⊎ Among t (sorted_texts xs) → (Among t (sorted_texts xs) → Among t xs) → Among t (x ∷ xs)
found t x xs (inl e) h = inl e
found t x xs (inr a) h = inr (h a)

pub Among-from_sorted_texts : (t : List ℕ) (xs : List (List ℕ)) → Among t (sorted_texts xs) → Among t xs
Among-from_sorted_texts t [] a = a
Among-from_sorted_texts t (x ∷ xs) a = found t x xs (Among-from_insert_text t x (sorted_texts xs) a) (Among-from_sorted_texts t xs)

-- what is sorted is known by its texts
pub sorted_texts_by_members : (xs ys : List (List ℕ)) → ((t : List ℕ) → Among t xs → Among t ys) → ((t : List ℕ) → Among t ys → Among t xs) → sorted_texts xs ≡ sorted_texts ys
sorted_texts_by_members xs ys h k =
    sorted-unique text_cmp text_cmp_total (sorted_texts xs) (sorted_texts ys) (sorted_texts_are_sorted xs) (sorted_texts_are_sorted ys)
    (λ t a. Among-sorted_texts t ys (h t (Among-from_sorted_texts t xs a))) (λ t a. Among-sorted_texts t xs (k t (Among-from_sorted_texts t ys a)))
