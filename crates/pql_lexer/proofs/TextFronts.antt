-- Texts in quotes: what is read in front of bytes is a text, and no other text is there.
use Rattle.std.proofs.Common.{◌≡◌, ◌∙◌, ◌≤◌, ◌+◌, ℕ, suc, List, [], ◌∷◌, ◌++◌, length, take, Bool, true, false, ◌||◌, ◌==◌, if◌then◌else◌, Option, Some, None, refl, sym, ap, subst, arith, append_assoc, option_map, Vec, Global}
use Rattle.std.specs.List.{AllByRecursion}
use Rattle.std.specs.Str.{IsUtf8}
use Rattle.std.proofs.lemmas.List.{append-nil, length-append, take_at, take-append-drop, length-take-le}
use Rattle.json_machine.proofs.of_plain_laws.Booleans.{eq_true, eq_not, eq_is, neq_is, either_is, if_true, if_false}
use Rattle.json_machine.proofs.of_plain_laws.Lists.{same_first}
use Rattle.json_machine.proofs.of_plain_laws.Options.{none_some, some_is, choose}
use Rattle.pql_spec.specs.query_spec.declared.parts.Scalar.TheVariants as scalar
use Rattle.pql_spec.specs.declared.token.Token.{Token}
use Rattle.pql_spec.specs.Tokens.{IsQuote, Piece, plain, escaped, backslash, IsPiece, quoted, text_bytes, literal_token, a_text}
use Rattle.pql_spec.proofs.OneList.{pieces, no_backslash, tails}
use Rattle.pql_spec.proofs.Either.{is_either, is_neither, neither_is}
use Rattle.pql_lexer.specs.Fronts.{is_quote, text_front, held}
use Rattle.pql_lexer.specs.Next.{IsNext, NoToken}
use Rattle.pql_lexer.proofs.FirstBytes.{IsText, text_kind}

pub quote_is : (q : ℕ) → is_quote q ≡ true → IsQuote q
quote_is q h = either_is q 39 34 h

-- ---- a text that stands there is read

module _ (q : ℕ) (k : IsQuote q) where
  backslash_first : (so_far : List ℕ) (n : ℕ) (bs : List ℕ) → text_front q false so_far n (92 ∷ bs) ≡ text_front q true so_far (suc n) bs
  backslash_first so_far n bs = if_false (92 == q) (Some (so_far, suc n)) (text_front q true so_far (suc n) bs) (eq_not 92 q (λ e. no_backslash q k (sym e)))

  joined : (so_far xs more : List ℕ) (n m l : ℕ) → m ≡ n + l → (o : Option (List ℕ × ℕ)) → o ≡ Some ((so_far ++ xs) ++ more, m) → o ≡ Some (so_far ++ (xs ++ more), n + l)
  joined so_far xs more n m l a o e = e ∙ (λ i. Some (append_assoc so_far xs more i, a i))

  pub text_read : (ps : List Piece) (so_far : List ℕ) (n : ℕ) (r : List ℕ) → AllByRecursion (IsPiece q) ps → text_front q false so_far n (pieces q ps ++ r) ≡ Some (so_far ++ text_bytes ps, n + length (pieces q ps))
  text_read [] so_far n r p =
      if_true (q == q) (Some (so_far, suc n)) _ (eq_true q q refl) ∙ (λ i. Some (sym (append-nil so_far) i, one i))
    where
      one : suc n ≡ n + 1
      one = omega arith
  text_read (plain b ∷ ps) so_far n r p =
      joined so_far (b ∷ []) (text_bytes ps) n (suc n + length (pieces q ps)) (length (pieces q (plain b ∷ ps))) (omega arith) _
      (if_false (b == q) (Some (so_far, suc n)) _ (eq_not b q p.0.0)
      ∙ if_false (b == 92) (text_front q true so_far (suc n) (pieces q ps ++ r)) _ (eq_not b 92 p.0.1)
      ∙ text_read ps (so_far ++ b ∷ []) (suc n) r p.1)
  text_read (escaped b ∷ ps) so_far n r p =
      joined so_far (b ∷ []) (text_bytes ps) n (suc (suc n) + length (pieces q ps)) (length (pieces q (escaped b ∷ ps))) (omega arith) _
      (backslash_first so_far n (b ∷ (pieces q ps ++ r))
      ∙ ap (λ x. text_front q false (so_far ++ x) (suc (suc n)) (pieces q ps ++ r)) (if_true ((b == q) || (b == 92)) (b ∷ []) (92 ∷ b ∷ []) (is_either b q 92 p.0))
      ∙ text_read ps (so_far ++ b ∷ []) (suc (suc n)) r p.1)
  text_read (backslash b ∷ ps) so_far n r p =
      joined so_far (92 ∷ b ∷ []) (text_bytes ps) n (suc (suc n) + length (pieces q ps)) (length (pieces q (backslash b ∷ ps))) (omega arith) _
      (backslash_first so_far n (b ∷ (pieces q ps ++ r))
      ∙ ap (λ x. text_front q false (so_far ++ x) (suc (suc n)) (pieces q ps ++ r)) (if_false ((b == q) || (b == 92)) (b ∷ []) (92 ∷ b ∷ []) (is_neither b q 92 p.0.0 p.0.1))
      ∙ text_read ps (so_far ++ 92 ∷ b ∷ []) (suc (suc n)) r p.1)

-- ---- what is read stands there

record Stands (q : ℕ) (so_far : List ℕ) (n : ℕ) (bs : List ℕ) (r : List ℕ × ℕ) : Type 0 where
  pub parts : List Piece
  pub rest : List ℕ
  pub are_pieces : AllByRecursion (IsPiece q) parts
  pub bytes_are : bs ≡ pieces q parts ++ rest
  pub text_is : r.0 ≡ so_far ++ text_bytes parts
  pub length_is : r.1 ≡ n + length (pieces q parts)

closed : (q b n : ℕ) (so_far bs : List ℕ) (r : List ℕ × ℕ) → b ≡ q → (so_far, suc n) ≡ r → Stands q so_far n (b ∷ bs) r
closed q b n so_far bs r h e = record {
  parts = [];
  rest = bs;
  are_pieces = tt;
  bytes_are = λ i. h i ∷ bs;
  text_is = ap (λ x. x.0) (sym e) ∙ sym (append-nil so_far);
  length_is = ap (λ x. x.1) (sym e) ∙ one;
}
  where
    one : suc n ≡ n + 1
    one = omega arith

-- one piece more in front, which stands for xs and has d bytes
module _ (q n m d : ℕ) (so_far xs front bs : List ℕ) (r : List ℕ × ℕ) (p : Piece) where
  ahead : m ≡ n + d → length front ≡ d → ((ps : List Piece) → pieces q (p ∷ ps) ≡ front ++ pieces q ps) → ((ps : List Piece) → text_bytes (p ∷ ps) ≡ xs ++ text_bytes ps) → IsPiece q p → Stands q (so_far ++ xs) m bs r → Stands q so_far n (front ++ bs) r
  ahead a l f g h s = record {
    parts = p ∷ s.parts;
    rest = s.rest;
    are_pieces = (h, s.are_pieces);
    bytes_are = ap (λ x. front ++ x) s.bytes_are ∙ sym (append_assoc front (pieces q s.parts) s.rest) ∙ ap (λ x. x ++ s.rest) (sym (f s.parts));
    text_is = s.text_is ∙ append_assoc so_far xs (text_bytes s.parts) ∙ ap (λ x. so_far ++ x) (sym (g s.parts));
    length_is = omega (arith, s.length_is, ap length (f s.parts), length-append front (pieces q s.parts), a, l);
  }

mutual
  stands : (q : ℕ) (bs so_far : List ℕ) (n : ℕ) (r : List ℕ × ℕ) → text_front q false so_far n bs ≡ Some r → Stands q so_far n bs r
  stands q [] so_far n r e = none_some r e
  stands q (b ∷ bs) so_far n r e = choose (b == q) (Some (so_far, suc n)) _ (Some r) (Stands q so_far n (b ∷ bs) r) e
      (λ h g. closed q b n so_far bs r (eq_is b q h) (some_is (so_far, suc n) r g))
      (λ h g. choose (b == 92) (text_front q true so_far (suc n) bs) _ (Some r) (Stands q so_far n (b ∷ bs) r) g
      (λ i f. subst (λ x. Stands q so_far n (x ∷ bs) r) (sym (eq_is b 92 i)) (behind_stands q bs so_far n r f))
      (λ i f. ahead q n (suc n) 1 so_far (b ∷ []) (b ∷ []) bs r (plain b) (omega arith) refl (λ ps. refl) (λ ps. refl) (neq_is b q h, neq_is b 92 i)
      (stands q bs (so_far ++ b ∷ []) (suc n) r f)))

  behind_stands : (q : ℕ) (bs so_far : List ℕ) (n : ℕ) (r : List ℕ × ℕ) → text_front q true so_far (suc n) bs ≡ Some r → Stands q so_far n (92 ∷ bs) r
  behind_stands q [] so_far n r e = none_some r e
  behind_stands q (b ∷ bs) so_far n r e = by_test ((b == q) || (b == 92)) refl (λ x h. stands q bs (so_far ++ x) (suc (suc n)) r h) e
    where
      by_test : (t : Bool) → ((b == q) || (b == 92)) ≡ t
          → ((x : List ℕ) → text_front q false (so_far ++ x) (suc (suc n)) bs ≡ Some r → Stands q (so_far ++ x) (suc (suc n)) bs r)
          → text_front q false (so_far ++ (if t then b ∷ [] else 92 ∷ b ∷ [])) (suc (suc n)) bs ≡ Some r → Stands q so_far n (92 ∷ b ∷ bs) r
      by_test true h more e = ahead q n (suc (suc n)) 2 so_far (b ∷ []) (92 ∷ b ∷ []) bs r (escaped b) (omega arith) refl (λ ps. refl) (λ ps. refl) (either_is b q 92 h) (more (b ∷ []) e)
      by_test false h more e = ahead q n (suc (suc n)) 2 so_far (92 ∷ b ∷ []) (92 ∷ b ∷ []) bs r (backslash b) (omega arith) refl (λ ps. refl) (λ ps. refl) (neither_is b q 92 h) (more (92 ∷ b ∷ []) e)

-- ---- the token

-- a text that the bytes begin with is the one that is read
module _ (q : ℕ) (bs front rest : List ℕ) (n : ℕ) (t : Token) (e : q ∷ bs ≡ front ++ rest) (x : IsText front n t) where
  whole : q ∷ bs ≡ x.quote ∷ (pieces x.quote x.parts ++ rest)
  whole = e ∙ ap (λ y. y ++ rest) x.bytes_are

  same : x.quote ≡ q
  same = sym (same_first q x.quote bs (pieces x.quote x.parts ++ rest) whole)

  behind : bs ≡ pieces q x.parts ++ rest
  behind = tails q x.quote bs (pieces x.quote x.parts ++ rest) whole ∙ ap (λ y. pieces y x.parts ++ rest) same

  pub there : text_front q false [] 0 bs ≡ Some (text_bytes x.parts, length (pieces q x.parts))
  there = ap (text_front q false [] 0) behind
      ∙ text_read q (subst IsQuote same x.is_quote) x.parts [] 0 rest (subst (λ y. AllByRecursion (IsPiece y) x.parts) same x.are_pieces)
      ∙ (λ i. Some (text_bytes x.parts, zero_first i))
    where
      zero_first : 0 + length (pieces q x.parts) ≡ length (pieces q x.parts)
      zero_first = omega arith

  pub size : length front ≡ suc (length (pieces q x.parts))
  size = ap length x.bytes_are ∙ ap (λ y. suc (length (pieces y x.parts))) same

pub no_end : (n q : ℕ) (bs : List ℕ) → is_quote q ≡ true → text_front q false [] 0 bs ≡ None → NoToken n (q ∷ bs)
no_end n q bs k h front rest t s e =
    let x = text_kind n (q ∷ bs) front rest e t s k in
    none_some _ (sym h ∙ there q bs front rest n t e x)

pub no_utf8 : (n q : ℕ) (bs : List ℕ) (r : List ℕ × ℕ) → is_quote q ≡ true → text_front q false [] 0 bs ≡ Some r → ¬ IsUtf8 r.0 → NoToken n (q ∷ bs)
no_utf8 n q bs r k h u front rest t s e =
    let x = text_kind n (q ∷ bs) front rest e t s k in
    u (subst IsUtf8 (ap (λ y. y.0) (some_is _ r (sym (there q bs front rest n t e x) ∙ h))) x.utf8)

module _ (n q : ℕ) (bs : List ℕ) (r : List ℕ × ℕ) (k : is_quote q ≡ true) (h : text_front q false [] 0 bs ≡ Some r) (u : IsUtf8 r.0) where
  found : Stands q [] 0 bs r
  found = stands q bs [] 0 r h

  size_is : r.1 ≡ length (pieces q found.parts)
  size_is = omega (arith, found.length_is)

  front_is : take (r.1 + 1) (q ∷ bs) ≡ quoted q found.parts
  front_is = ap (λ m. take m (q ∷ bs)) (one r.1) ∙ ap (λ y. q ∷ y) (ap (take r.1) found.bytes_are ∙ take_at (pieces q found.parts) found.rest r.1 (sym size_is))
    where
      one : (m : ℕ) → m + 1 ≡ suc m
      one m = omega arith

  fits : r.1 + 1 ≤ length (q ∷ bs)
  fits = omega (arith, ap length found.bytes_are, length-append (pieces q found.parts) found.rest, size_is)

  pub text_next : IsNext n (q ∷ bs) (literal_token (scalar.Text r.0) (n ∷ [])) (r.1 + 1)
  text_next = record {
    some = omega arith;
    within = fits;
    longest = record {
      spells = a_text q found.parts (quote_is q k) found.are_pieces (subst IsUtf8 found.text_is u) front_is (ap (λ y. literal_token (scalar.Text y) (n ∷ [])) found.text_is);
      longest = λ longer rest t s g.
          let e : q ∷ bs ≡ longer ++ rest = sym (take-append-drop (r.1 + 1) (q ∷ bs)) ∙ g in
          let x = text_kind n (q ∷ bs) longer rest e t s k in
          let same_end : length (pieces q x.parts) ≡ r.1 = ap (λ y. y.1) (some_is _ r (sym (there q bs longer rest n t e x) ∙ h)) in
          omega (arith, size q bs longer rest n t e x, same_end, length-take-le (r.1 + 1) (q ∷ bs) fits);
    };
  }

pub text_found : (n q : ℕ) (bs text place : List ℕ) (r : List ℕ × ℕ) → is_quote q ≡ true → Some r ≡ text_front q false [] 0 bs → IsUtf8 r.0 → text ≡ r.0 → place ≡ n ∷ [] → IsNext n (q ∷ bs) (literal_token (scalar.Text text) place) (r.1 + 1)
text_found n q bs text place r k h u e p =
    subst (λ x. IsNext n (q ∷ bs) (literal_token (scalar.Text x) place) (r.1 + 1)) (sym e)
    (subst (λ x. IsNext n (q ∷ bs) (literal_token (scalar.Text r.0) x) (r.1 + 1)) (sym p) (text_next n q bs r k (sym h) u))

-- ---- as the code comes to it

module _ (n q : ℕ) (bs : List ℕ) (o : Option (Vec ℕ Global × ℕ)) (k : is_quote q ≡ true) (e : option_map held o ≡ text_front q false [] 0 bs) where
  pub end_missed : o ≡ None → NoToken n (q ∷ bs)
  end_missed h = no_end n q bs k (sym e ∙ ap (option_map held) h)

  module _ (v : Vec ℕ Global) (m : ℕ) (h : o ≡ Some (v, m)) (s : List ℕ) (g : s ≡ v.items) where
    read_is : text_front q false [] 0 bs ≡ Some (v.items, m)
    read_is = sym e ∙ ap (option_map held) h

    pub utf8_missed : ¬ IsUtf8 s → NoToken n (q ∷ bs)
    utf8_missed u = no_utf8 n q bs (v.items, m) k read_is (λ x. u (subst IsUtf8 (sym g) x))

    pub text_told : (text place : List ℕ) → IsUtf8 s → text ≡ s → place ≡ n ∷ [] → IsNext n (q ∷ bs) (literal_token (scalar.Text text) place) (m + 1)
    text_told text place u f p = text_found n q bs text place (v.items, m) k (sym read_is) (subst IsUtf8 g u) (f ∙ g) p
