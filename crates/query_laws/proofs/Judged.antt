-- The first value that no form allows is told: how the parts of a list are put together.
use Rattle.std.proofs.Common.{◌≡◌, ◌∙◌, ◌⊎◌, inl, inr, ℕ, zero, suc, ◌+◌, List, [], ◌∷◌, ◌++◌, Option, Some, None, Ok, Err, arith, refl, sym, ap, subst, append_assoc}
use Rattle.std.proofs.lemmas.List.{append-nil}
use Rattle.json_machine.proofs.of_plain_laws.Options.{some_is}
use Rattle.json_machine.specs.text_spec.Json as json
use Rattle.json_machine.specs.text_spec.Json.{Json, Items, no_items, item}
use Rattle.query_spec.specs.Ast.{Read, ◌>>=◌}
use Rattle.query_spec.specs.Check.{Place}
use Rattle.query_laws.specs.Places.{element}
use Rattle.query_laws.specs.Refused.{Kind, anything, elements, kind_at, IsRefused, told}
use Rattle.query_laws.proofs.FirstPlaces.{IsIn, IsFrom, Sits, apart, here_in, element_from, from_in, none_sits, mapped, some_sits}

-- ---- refused places from a place on

abbrev pub Bad : Place → Kind → Json → Place → Type 0
Bad p k v q = (s : Place) × (q ≡ p ++ s) × IsRefused k v s

-- in the elements from number i on
abbrev pub BadFrom : Place → ℕ → List Kind → Items → Place → Type 0
BadFrom p i [] vs q = ⊥
BadFrom p i (k ∷ ks) no_items q = ⊥
BadFrom p i (k ∷ ks) (item v vs) q = Bad (p ++ i ∷ []) k v q ⊎ BadFrom p (i + 1) ks vs q

abbrev pub Judged : {A : Type 0} → Place → Kind → Json → Read A → Type 0
Judged p k v r = Sits (IsIn p) (told r) (Bad p k v)

abbrev pub JudgedFrom : {A : Type 0} → Place → ℕ → List Kind → Items → Read A → Type 0
JudgedFrom p i ks vs r = Sits (IsFrom p i) (told r) (BadFrom p i ks vs)

no_none : {A : Type 0} (x : A) → Some x ≡ None → ⊥
no_none x e = cc

no_some : {A : Type 0} (x : A) → None ≡ Some x → ⊥
no_some x e = cc

-- ---- a value that is refused, and one without elements

pub refused : (p : Place) (k : Kind) (v : Json) → elements k v ≡ None → Sits (IsIn p) (Some p) (Bad p k v)
refused p k v e =
    mapped (λ q. q ≡ p) (IsIn p) (Bad p k v) (some_sits p) (λ q h. ([], h ∙ sym (append-nil p), e)) (λ q h. here p q h.0 h.1 h.2) (here_in p)
  where
    here : (p q s : Place) → q ≡ p ++ s → IsRefused k v s → q ≡ p
    here p q [] same h = same ∙ append-nil p
    here p q (i ∷ s) same h = absurd (no_some h.0 (sym e ∙ h.3))

pub allowed : (p : Place) (k : Kind) (v : Json) → elements k v ≡ Some [] → Sits (IsIn p) None (Bad p k v)
allowed p k v e = mapped (IsIn p) (IsIn p) (Bad p k v) (none_sits (IsIn p)) (λ q h. absurd h) (λ q h. none h.0 h.2) (λ q r. r)
  where
    none : (s : Place) → IsRefused k v s → ⊥
    none [] h = no_none [] (sym e ∙ h)
    none (i ∷ s) h = no_some h.1 (let same : h.0 ≡ [] = some_is h.0 [] (sym h.3 ∙ e) in ap (kind_at i) (sym same) ∙ h.4)

-- ---- the elements of a list

there : (p : Place) (i m : ℕ) (ks : List Kind) (vs : Items) (q : Place) → BadFrom p i ks vs q → (m : ℕ) × (j : Kind) × (w : Json) × (s : Place) × (kind_at m ks ≡ Some j) × (element m vs ≡ Some w) × (q ≡ p ++ (i + m) ∷ s) × IsRefused j w s
there p i m [] vs q h = absurd h
there p i m (k ∷ ks) no_items q h = absurd h
there p i m (k ∷ ks) (item v vs) q (inl h) = (0, k, v, h.0, refl, refl, at h.0 (h.1 ∙ append_assoc p (i ∷ []) h.0), h.2)
  where
    at : (s : Place) → q ≡ p ++ i ∷ s → q ≡ p ++ (i + 0) ∷ s
    at s e = let same : i ≡ i + 0 = omega arith in subst (λ n. q ≡ p ++ n ∷ s) same e
there p i m (k ∷ ks) (item v vs) q (inr h) =
    let t = there p (i + 1) m ks vs q h in
    (suc t.0, t.1, t.2, t.3, t.4, t.5, (let same : i + 1 + t.0 ≡ i + suc t.0 = omega arith in subst (λ n. q ≡ p ++ n ∷ t.3) same t.6), t.7)

among : (p : Place) (i m : ℕ) (ks : List Kind) (vs : Items) (q : Place) (j : Kind) (w : Json) (s : Place) → kind_at m ks ≡ Some j → element m vs ≡ Some w → q ≡ p ++ (i + m) ∷ s → IsRefused j w s → BadFrom p i ks vs q
among p i m [] vs q j w s a b e h = absurd (no_some j a)
among p i m (k ∷ ks) no_items q j w s a b e h = absurd (no_some w b)
among p i zero (k ∷ ks) (item v vs) q j w s a b e h =
    let kind : j ≡ k = sym (some_is k j a) in
    let value : w ≡ v = sym (some_is v w b) in
    let same : i + 0 ≡ i = omega arith in
    inl (s, subst (λ n. q ≡ p ++ n ∷ s) same e ∙ sym (append_assoc p (i ∷ []) s), subst (λ x. IsRefused x v s) kind (subst (λ x. IsRefused j x s) value h))
among p i (suc m) (k ∷ ks) (item v vs) q j w s a b e h =
    let same : i + suc m ≡ i + 1 + m = omega arith in
    inr (among p (i + 1) m ks vs q j w s a b (subst (λ n. q ≡ p ++ n ∷ s) same e) h)

-- a list whose elements have these kinds
pub listed : (p : Place) (k : Kind) (vs : Items) (ks : List Kind) {o : Option Place} → elements k (json.array vs) ≡ Some ks → Sits (IsFrom p 0) o (BadFrom p 0 ks vs) → Sits (IsIn p) o (Bad p k (json.array vs))
listed p k vs ks e h = mapped (IsFrom p 0) (IsIn p) (Bad p k (json.array vs)) h to (λ q b. from q b.0 b.1 b.2) (from_in p 0)
  where
    to : (q : Place) → BadFrom p 0 ks vs q → Bad p k (json.array vs) q
    to q b =
        let t = there p 0 0 ks vs q b in
        let same : 0 + t.0 ≡ t.0 = omega arith in
        (t.0 ∷ t.3, subst (λ n. q ≡ p ++ n ∷ t.3) same t.6, (ks, t.1, t.2, e, t.4, t.5, t.7))

    from : (q s : Place) → q ≡ p ++ s → IsRefused k (json.array vs) s → BadFrom p 0 ks vs q
    from q [] same b = absurd (no_none ks (sym e ∙ b))
    from q (m ∷ s) same b =
        let kinds : b.0 ≡ ks = some_is b.0 ks (sym b.3 ∙ e) in
        let number : m ≡ 0 + m = omega arith in
        among p 0 m ks vs q b.1 b.2 s (subst (λ x. kind_at m x ≡ Some b.1) kinds b.4) b.5 (subst (λ n. q ≡ p ++ n ∷ s) number same) b.6

-- ---- one element after the other

pub no_more : (p : Place) (i : ℕ) (vs : Items) → Sits (IsFrom p i) None (BadFrom p i [] vs)
no_more p i vs = none_sits (IsFrom p i)

stands_from : (p : Place) (i : ℕ) (ks : List Kind) (vs : Items) (q : Place) → BadFrom p i ks vs q → IsFrom p i q
stands_from p i ks vs q h = let t = there p i 0 ks vs q h in (i + t.0, t.3, omega arith, t.6)

pub reads : {A B : Type 0} (p : Place) (i : ℕ) (k : Kind) (v : Json) (ks : List Kind) (vs : Items) (r : Read A) (f : A → Read B) → Judged (p ++ i ∷ []) k v r → ((x : A) → r ≡ Ok x → JudgedFrom p (i + 1) ks vs (f x)) → JudgedFrom p i (k ∷ ks) (item v vs) (r >>= f)
reads p i k v ks vs (Ok x) f h n = record {
  is_first = record {
    is_fault = λ q e. inr ((n x refl).is_first.is_fault q e);
    comes_first = λ q b. elim b [
      | inl c ↦ absurd (no_some (h.is_first.comes_first q c).0 (h.is_first.comes_first q c).1)
      | inr c ↦ (n x refl).is_first.comes_first q c
    ];
  };
  stands = stands_from p i (k ∷ ks) (item v vs);
}
reads p i k v ks vs (Err e) f h n = record {
  is_first = record {
    is_fault = λ q same. inl (h.is_first.is_fault q same);
    comes_first = λ q b. elim b [
      | inl c ↦ h.is_first.comes_first q c
      | inr c ↦ (e, refl, apart p i (i + 1) e q (omega arith) (h.stands e (h.is_first.is_fault e refl)) (stands_from p (i + 1) ks vs q c))
    ];
  };
  stands = stands_from p i (k ∷ ks) (item v vs);
}

-- the head word, which the list has judged
pub headed : (p : Place) (v : Json) (ks : List Kind) (vs : Items) {o : Option Place} → Sits (IsFrom p 1) o (BadFrom p 1 ks vs) → Sits (IsFrom p 0) o (BadFrom p 0 (anything ∷ ks) (item v vs))
headed p v ks vs h = record {
  is_first = record {
    is_fault = λ q e. inr (h.is_first.is_fault q e);
    comes_first = λ q b. elim b [ inl c ↦ absurd (none c.0 c.2) | inr c ↦ h.is_first.comes_first q c ];
  };
  stands = stands_from p 0 (anything ∷ ks) (item v vs);
}
  where
    none : (s : Place) → IsRefused anything v s → ⊥
    none [] b = no_none [] b
    none (i ∷ s) b = no_some b.1 (let same : b.0 ≡ [] = some_is b.0 [] (sym b.3) in ap (kind_at i) (sym same) ∙ b.4)

-- the last element
pub last_of : (p : Place) (i : ℕ) (k : Kind) (v : Json) {o : Option Place} → Sits (IsIn (p ++ i ∷ [])) o (Bad (p ++ i ∷ []) k v) → Sits (IsFrom p i) o (BadFrom p i (k ∷ []) (item v no_items))
last_of p i k v h =
    mapped (IsIn (p ++ i ∷ [])) (IsFrom p i) (BadFrom p i (k ∷ []) (item v no_items)) h (λ q b. inl b) (λ q b. elim b [ inl c ↦ c | inr c ↦ absurd c ]) (element_from p i)

-- what is made of a reading that succeeds
pub then_ok : {A B : Type 0} {R F : Place → Type 0} (r : Read A) (g : A → B) → Sits R (told r) F → Sits R (told (r >>= λ x. Ok (g x))) F
then_ok (Ok x) g h = h
then_ok (Err p) g h = h

-- kinds that judge a value alike
pub alike : (p : Place) (k l : Kind) (v : Json) → elements k v ≡ elements l v → (q : Place) → Bad p l v q → Bad p k v q
alike p k l v e q b = (b.0, b.1, same b.0 b.2)
  where
    same : (s : Place) → IsRefused l v s → IsRefused k v s
    same [] h = e ∙ h
    same (i ∷ s) h = (h.0, h.1, h.2, e ∙ h.3, h.4, h.5, h.6)

pub renamed : (p : Place) (i : ℕ) (k l : Kind) (v : Json) (ks : List Kind) (vs : Items) {o : Option Place} → elements k v ≡ elements l v → Sits (IsFrom p i) o (BadFrom p i (l ∷ ks) (item v vs)) → Sits (IsFrom p i) o (BadFrom p i (k ∷ ks) (item v vs))
renamed p i k l v ks vs e h =
    mapped (IsFrom p i) (IsFrom p i) (BadFrom p i (k ∷ ks) (item v vs)) h
    (λ q b. elim b [ inl c ↦ inl (alike (p ++ i ∷ []) k l v e q c) | inr c ↦ inr c ])
    (λ q b. elim b [ inl c ↦ inl (alike (p ++ i ∷ []) l k v (sym e) q c) | inr c ↦ inr c ]) (λ q r. r)
