-- Marks have one byte or two, and those of two are told by both.
use Rattle.std.proofs.Common.{◌≡◌, ◌∙◌, ◌⊎◌, inl, inr, ◌<◌, ◌≤◌, ℕ, zero, suc, List, [], ◌∷◌, ◌++◌, length, take, get_or, Bool, true, false, ◌&&◌, ◌||◌, ◌==◌, if◌then◌else◌, Option, Some, None, codes, refl, sym, ap, subst, arith}
use Rattle.std.specs.Str.{IsUtf8, bytes_eq}
use Rattle.std.proofs.lemmas.List.{take-append-drop, length-take-le}
use Rattle.std.proofs.lemmas.Slice.Eq.{bytes_eq-Decides}
use Rattle.std.proofs.lemmas.Str.{IsUtf8-from_ascii}
use Rattle.json_machine.proofs.of_plain_laws.Booleans.{no_truth, both_true, eq_is}
use Rattle.json_machine.proofs.of_plain_laws.Options.{none_some}
use Rattle.pql_spec.specs.declared.token.Token.{Token}
use Rattle.pql_spec.specs.declared.token.Token.TheVariants as token
use Rattle.pql_spec.specs.query_spec.declared.parts.Op.TheVariants.{AtMost, AtLeast}
use Rattle.pql_spec.specs.Tokens.{mark_token, a_mark}
use Rattle.pql_lexer.specs.Fronts.{begins, is_other, mark_length}
use Rattle.pql_lexer.specs.Next.{IsNext, NoToken}
use Rattle.pql_lexer.proofs.FirstBytes.{mark_kind}

-- `!=`, `<=`, `>=`
abbrev IsDouble : List ℕ → Type 0
IsDouble s = (s ≡ 33 ∷ 61 ∷ []) ⊎ (s ≡ 60 ∷ 61 ∷ []) ⊎ (s ≡ 62 ∷ 61 ∷ [])

abbrev IsShaped : List ℕ → Type 0
IsShaped s = IsUtf8 s × ((length s ≡ 1) ⊎ IsDouble s)

abbrev Shape : List ℕ → Option Token → Type 0
Shape s None = Unit {0}
Shape s (Some t) = IsShaped s

one_of : (b : Bool) (s : List ℕ) (t : Token) (o : Option Token) → (b ≡ true → IsShaped s) → Shape s o → Shape s (if b then Some t else o)
one_of true s t o e h = e refl
one_of false s t o e h = h

spelt : (s mark : List ℕ) → IsShaped mark → bytes_eq s mark ≡ true → IsShaped s
spelt s mark h e = subst IsShaped (sym ((bytes_eq-Decides s mark).0 e)) h

below_128 : (a b : ℕ) → a < 128 → b < 128 → (i : ℕ) → get_or (a ∷ b ∷ []) i 0 < 128
below_128 a b h g zero = h
below_128 a b h g (suc zero) = g
below_128 a b h g (suc (suc i)) = omega arith

one_below_128 : (a : ℕ) → a < 128 → (i : ℕ) → get_or (a ∷ []) i 0 < 128
one_below_128 a h zero = h
one_below_128 a h (suc i) = omega arith

pair_utf8 : (a b : ℕ) → a < 128 → b < 128 → IsUtf8 (a ∷ b ∷ [])
pair_utf8 a b h g = IsUtf8-from_ascii (a ∷ b ∷ []) (below_128 a b h g)

single : (a : ℕ) → a < 128 → IsShaped (a ∷ [])
single a h = (IsUtf8-from_ascii (a ∷ []) (one_below_128 a h), inl refl)

double : (a b : ℕ) → a < 128 → b < 128 → IsDouble (a ∷ b ∷ []) → IsShaped (a ∷ b ∷ [])
double a b h g d = (pair_utf8 a b h g, inr d)

shaped : (s p : List ℕ) → Shape s (mark_token s p)
unfolding mark_token
shaped s p =
    (one_of _ s _ _ (spelt s (codes "[") (single 91 (omega arith)))
    (one_of _ s _ _ (spelt s (codes "]") (single 93 (omega arith)))
    (one_of _ s _ _ (spelt s (codes "{") (single 123 (omega arith)))
    (one_of _ s _ _ (spelt s (codes "}") (single 125 (omega arith)))
    (one_of _ s _ _ (spelt s (codes "(") (single 40 (omega arith)))
    (one_of _ s _ _ (spelt s (codes ")") (single 41 (omega arith)))
    (one_of _ s _ _ (spelt s (codes ",") (single 44 (omega arith)))
    (one_of _ s _ _ (spelt s (codes "!") (single 33 (omega arith)))
    (one_of _ s _ _ (spelt s (codes "~") (single 126 (omega arith)))
    (one_of _ s _ _ (spelt s (codes "=") (single 61 (omega arith)))
    (one_of _ s _ _ (spelt s (codes "!=") (double 33 61 (omega arith) (omega arith) (inl refl)))
    (one_of _ s _ _ (spelt s (codes "<") (single 60 (omega arith)))
    (one_of _ s _ _ (spelt s (codes "<=") (double 60 61 (omega arith) (omega arith) (inr (inl refl))))
    (one_of _ s _ _ (spelt s (codes ">") (single 62 (omega arith)))
    (one_of _ s _ _ (spelt s (codes ">=") (double 62 61 (omega arith) (omega arith) (inr (inr refl))))
    tt)))))))))))))))

mark_shaped : (s p : List ℕ) (t : Token) → Some t ≡ mark_token s p → IsShaped s
mark_shaped s p t e = subst (Shape s) (sym e) (shaped s p)

-- a mark, with its token
abbrev IsMark : List ℕ → List ℕ → Type 0
IsMark s p = IsUtf8 s × ((t : Token) × (Some t ≡ mark_token s p))

double_mark : (s p : List ℕ) → IsDouble s → IsMark s p
unfolding mark_token
double_mark s p (inl e) = subst (λ x. IsMark x p) (sym e) (pair_utf8 33 61 (omega arith) (omega arith), (token.Differs, refl))
double_mark s p (inr (inl e)) = subst (λ x. IsMark x p) (sym e) (pair_utf8 60 61 (omega arith) (omega arith), (token.Comparison AtMost, refl))
double_mark s p (inr (inr e)) = subst (λ x. IsMark x p) (sym e) (pair_utf8 62 61 (omega arith) (omega arith), (token.Comparison AtLeast, refl))

three : (a x y z : ℕ) → ((a == x) || (a == y) || (a == z)) ≡ true → (a ≡ x) ⊎ (a ≡ y) ⊎ (a ≡ z)
three a x y z h = grind arith

pair : (a b : ℕ) → (a ≡ 33) ⊎ (a ≡ 60) ⊎ (a ≡ 62) → b ≡ 61 → IsDouble (a ∷ b ∷ [])
pair a b (inl e) f = inl (λ i. e i ∷ f i ∷ [])
pair a b (inr (inl e)) f = inr (inl (λ i. e i ∷ f i ∷ []))
pair a b (inr (inr e)) f = inr (inr (λ i. e i ∷ f i ∷ []))

-- where a mark of one byte is a front, what is taken is that one, or a mark of two
behind_one : (a : ℕ) (rest p : List ℕ) → IsMark (a ∷ []) p → IsMark (take (mark_length (a ∷ rest)) (a ∷ rest)) p
behind_one a [] p h = h
behind_one a (b ∷ bs) p h = by_test ((b == 61) && ((a == 33) || (a == 60) || (a == 62))) refl
  where
    by_test : (t : Bool) → ((b == 61) && ((a == 33) || (a == 60) || (a == 62))) ≡ t → IsMark (take (if t then 2 else 1) (a ∷ b ∷ bs)) p
    by_test true e = let both = both_true (b == 61) ((a == 33) || (a == 60) || (a == 62)) e in double_mark (a ∷ b ∷ []) p (pair a b (three a 33 60 62 both.1) (eq_is b 61 both.0))
    by_test false e = h

of_one : (front rest p : List ℕ) → IsMark front p → length front ≡ 1 → IsMark (take (mark_length (front ++ rest)) (front ++ rest)) p
of_one [] rest p h e = absurd (omega (arith, e))
of_one (a ∷ []) rest p h e = behind_one a rest p h
of_one (a ∷ b ∷ bs) rest p h e = absurd (omega (arith, e))

of_two : (front rest p : List ℕ) → IsDouble front → IsMark (take (mark_length (front ++ rest)) (front ++ rest)) p
of_two front rest p (inl e) = subst (λ x. IsMark (take (mark_length (x ++ rest)) (x ++ rest)) p) (sym e) (double_mark (33 ∷ 61 ∷ []) p (inl refl))
of_two front rest p (inr (inl e)) = subst (λ x. IsMark (take (mark_length (x ++ rest)) (x ++ rest)) p) (sym e) (double_mark (60 ∷ 61 ∷ []) p (inr (inl refl)))
of_two front rest p (inr (inr e)) = subst (λ x. IsMark (take (mark_length (x ++ rest)) (x ++ rest)) p) (sym e) (double_mark (62 ∷ 61 ∷ []) p (inr (inr refl)))

by_shape : (front rest p : List ℕ) → IsMark front p → IsShaped front → IsMark (take (mark_length (front ++ rest)) (front ++ rest)) p
by_shape front rest p h (u, inl e) = of_one front rest p h e
by_shape front rest p h (u, inr d) = of_two front rest p d

-- where some mark is a front of the bytes, what is taken is a mark
mark_taken : (bytes front rest p : List ℕ) (t : Token) → bytes ≡ front ++ rest → Some t ≡ mark_token front p → IsMark (take (mark_length bytes) bytes) p
mark_taken bytes front rest p t e f =
    let s = mark_shaped front p t f in
    subst (λ x. IsMark (take (mark_length x) x) p) (sym e) (by_shape front rest p (s.0, (t, f)) s)

-- and no mark is longer
one_or_two : (a : ℕ) (rest : List ℕ) → 1 ≤ mark_length (a ∷ rest)
one_or_two a [] = omega arith
one_or_two a (b ∷ bs) = by_test ((b == 61) && ((a == 33) || (a == 60) || (a == 62)))
  where
    by_test : (t : Bool) → 1 ≤ (if t then 2 else 1)
    by_test true = omega arith
    by_test false = omega arith

longest_shape : (front rest : List ℕ) → ((length front ≡ 1) ⊎ IsDouble front) → length front ≤ mark_length (front ++ rest)
longest_shape [] rest (inl e) = absurd (omega (arith, e))
longest_shape (a ∷ more) rest (inl e) = omega (arith, e, one_or_two a (more ++ rest))
longest_shape front rest (inr (inl e)) = subst (λ x. length x ≤ mark_length (x ++ rest)) (sym e) (omega arith)
longest_shape front rest (inr (inr (inl e))) = subst (λ x. length x ≤ mark_length (x ++ rest)) (sym e) (omega arith)
longest_shape front rest (inr (inr (inr e))) = subst (λ x. length x ≤ mark_length (x ++ rest)) (sym e) (omega arith)

pub mark_within : (bytes : List ℕ) → begins is_other bytes ≡ true → (0 < mark_length bytes) × (mark_length bytes ≤ length bytes)
mark_within [] h = no_truth h
mark_within (a ∷ []) h = (omega arith, omega arith)
mark_within (a ∷ b ∷ bs) h = by_test ((b == 61) && ((a == 33) || (a == 60) || (a == 62)))
  where
    by_test : (t : Bool) → (0 < (if t then 2 else 1)) × ((if t then 2 else 1) ≤ length (a ∷ b ∷ bs))
    by_test true = (omega arith, omega arith)
    by_test false = (omega arith, omega arith)

-- ---- the token

pub mark_next : (n : ℕ) (bytes : List ℕ) (t : Token) → begins is_other bytes ≡ true → mark_token (take (mark_length bytes) bytes) (n ∷ []) ≡ Some t → IsNext n bytes t (mark_length bytes)
mark_next n bytes t l e = record {
  some = (mark_within bytes l).0;
  within = (mark_within bytes l).1;
  longest = record {
    spells = a_mark (sym e);
    longest = λ longer rest u s g.
        let h : bytes ≡ longer ++ rest = sym (take-append-drop (mark_length bytes) bytes) ∙ g in
        let m = mark_shaped longer (n ∷ []) u (mark_kind n bytes longer rest h u s l) in
        subst (λ k. length longer ≤ k) (sym (length-take-le (mark_length bytes) bytes (mark_within bytes l).1))
        (subst (λ x. length longer ≤ mark_length x) (sym h) (longest_shape longer rest m.1));
  };
}

pub no_mark : (n : ℕ) (bytes : List ℕ) → begins is_other bytes ≡ true → mark_token (take (mark_length bytes) bytes) (n ∷ []) ≡ None → NoToken n bytes
no_mark n bytes l h front rest t s e =
    let m = mark_taken bytes front rest (n ∷ []) t e (mark_kind n bytes front rest e t s l) in
    none_some m.1.0 (sym h ∙ sym m.1.1)

pub no_ascii : (n : ℕ) (bytes : List ℕ) → begins is_other bytes ≡ true → ¬ IsUtf8 (take (mark_length bytes) bytes) → NoToken n bytes
no_ascii n bytes l h front rest t s e = h (mark_taken bytes front rest (n ∷ []) t e (mark_kind n bytes front rest e t s l)).0

-- ---- as the code comes to it

module _ (n m : ℕ) (bytes mark place : List ℕ) (l : begins is_other bytes ≡ true) (h : m ≡ mark_length bytes) (e : mark ≡ take m bytes) where
  mark_is : mark ≡ take (mark_length bytes) bytes
  mark_is = e ∙ ap (λ x. take x bytes) h

  pub mark_found : (t : Token) → place ≡ n ∷ [] → Some t ≡ mark_token mark place → IsNext n bytes t m
  mark_found t p k = subst (IsNext n bytes t) (sym h) (mark_next n bytes t l (ap (λ x. mark_token x (n ∷ [])) (sym mark_is) ∙ ap (mark_token mark) (sym p) ∙ sym k))

  pub mark_missed : place ≡ n ∷ [] → None ≡ mark_token mark place → NoToken n bytes
  mark_missed p k = no_mark n bytes l (ap (λ x. mark_token x (n ∷ [])) (sym mark_is) ∙ ap (mark_token mark) (sym p) ∙ sym k)

  pub mark_no_utf8 : ¬ IsUtf8 mark → NoToken n bytes
  mark_no_utf8 u = no_ascii n bytes l (λ x. u (subst IsUtf8 (sym mark_is) x))

  pub ascii_missed : ¬ IsUtf8 mark → NoToken n bytes
  ascii_missed u = no_ascii n bytes l (λ x. u (subst IsUtf8 (sym mark_is) x))
