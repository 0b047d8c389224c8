-- A text is one list of tokens at most: the first byte tells the kind of a token, no token begins with white space, and of two
-- longest tokens that begin the same bytes both are as long.
use Rattle.std.proofs.Common.{◌≡◌, ◌∙◌, ◌+◌, ◌⊎◌, inl, inr, ℕ, suc, List, [], ◌∷◌, ◌++◌, length, Bool, true, false, not, ◌||◌, ◌==◌, refl, sym, ap, subst, arith, codes, if◌then◌else◌, Option, Some, None}
use Rattle.std.specs.Char.{is_ascii_digit, is_ascii_lowercase}
use Rattle.std.specs.List.{AllByRecursion, flat_map}
use Rattle.std.specs.Str.{bytes_eq}
use Rattle.std.proofs.lemmas.Slice.Eq.{bytes_eq-Decides}
use Rattle.query_spec.proofs.of_plain_laws.Lists.{same_first}
use Rattle.query_spec.proofs.of_plain_laws.Booleans.{no_truth}
use Rattle.query_spec.proofs.of_plain_laws.Digits.{digit_is}
use Rattle.query_spec.proofs.of_plain_laws.Options.{some_is}
use Rattle.query_spec.specs.text_spec.JsonText.{IsSpace}
use Rattle.query_spec.specs.text_spec.Number.{IsNumber, IsWhole, fraction_text, exponent_text}
use Rattle.query_spec.specs.declared.parts.Scalar.TheVariants as scalar
use Rattle.pql_spec.specs.declared.token.Token.{Token}
use Rattle.pql_spec.specs.Tokens.{IsWord, IsQuote, Piece, plain, escaped, backslash, piece_text, IsPiece, text_bytes, literal_token, mark_token, Spells, a_word, a_number, a_text, a_mark}
use Rattle.pql_spec.specs.Texts.{Spelt, bytes_of, tokens_of, IsLongest, AreSpelt, IsNoSpace, BeginsWith, IsToken}
use Rattle.pql_spec.specs.Laws.{TextsHaveOneList}

-- ---- what a token begins with

abbrev pub AtFirst : (ℕ → Bool) → List ℕ → Type 0
AtFirst p [] = ⊥
AtFirst p (b ∷ bs) = p b ≡ true

abbrev pub numeric : ℕ → Bool
numeric b = is_ascii_digit b || (b == 45)

abbrev pub quotes : ℕ → Bool
quotes b = (b == 39) || (b == 34)

abbrev blank : ℕ → Bool
blank b = (b == 32) || (b == 9) || (b == 10) || (b == 13)

-- the first bytes of marks
abbrev pub marks : ℕ → Bool
marks b = not (is_ascii_lowercase b || (numeric b || (quotes b || blank b)))

pub word_first : (bs : List ℕ) → IsWord bs → AtFirst is_ascii_lowercase bs
word_first [] h = h
word_first (b ∷ bs) h = h.0

number_begins : (minus : Bool) (w r q : List ℕ) → IsWhole w → AtFirst numeric ((((if minus then 45 ∷ [] else []) ++ w) ++ r) ++ q)
number_begins true w r q h = refl
number_begins false [] r q h = absurd h
number_begins false (d ∷ ds) r q h = ap (λ x. x || (d == 45)) (digit_is d h.0.0)

pub number_first : (bs : List ℕ) → IsNumber bs → AtFirst numeric bs
number_first bs h = subst (AtFirst numeric) (sym h.2) (number_begins h.0.minus h.0.whole (fraction_text h.0.fraction) (exponent_text h.0.exponent) h.1.0)

quote_first : (q : ℕ) → IsQuote q → quotes q ≡ true
quote_first q (inl e) = subst (λ x. quotes x ≡ true) (sym e) refl
quote_first q (inr e) = subst (λ x. quotes x ≡ true) (sym e) refl

abbrev MarkFirst : List ℕ → Option Token → Type 0
MarkFirst s None = Unit {0}
MarkFirst s (Some t) = AtFirst marks s

one_of : (b : Bool) (s : List ℕ) (t : Token) (o : Option Token) → (b ≡ true → AtFirst marks s) → MarkFirst s o → MarkFirst s (if b then Some t else o)
one_of true s t o e h = e refl
one_of false s t o e h = h

begun : (s mark : List ℕ) → AtFirst marks mark → bytes_eq s mark ≡ true → AtFirst marks s
begun s mark h e = subst (AtFirst marks) (sym ((bytes_eq-Decides s mark).0 e)) h

mark_begins : (s p : List ℕ) → MarkFirst s (mark_token s p)
unfolding mark_token
mark_begins s p =
    (one_of _ s _ _ (begun s (codes "[") refl)
    (one_of _ s _ _ (begun s (codes "]") refl)
    (one_of _ s _ _ (begun s (codes "{") refl)
    (one_of _ s _ _ (begun s (codes "}") refl)
    (one_of _ s _ _ (begun s (codes "(") refl)
    (one_of _ s _ _ (begun s (codes ")") refl)
    (one_of _ s _ _ (begun s (codes ",") refl)
    (one_of _ s _ _ (begun s (codes "!") refl)
    (one_of _ s _ _ (begun s (codes "~") refl)
    (one_of _ s _ _ (begun s (codes "=") refl)
    (one_of _ s _ _ (begun s (codes "!=") refl)
    (one_of _ s _ _ (begun s (codes "<") refl)
    (one_of _ s _ _ (begun s (codes "<=") refl)
    (one_of _ s _ _ (begun s (codes ">") refl)
    (one_of _ s _ _ (begun s (codes ">=") refl)
    tt)))))))))))))))

pub mark_first : (s p : List ℕ) (t : Token) → Some t ≡ mark_token s p → AtFirst marks s
mark_first s p t e = subst (MarkFirst s) (sym e) (mark_begins s p)

-- ---- no byte begins two kinds

apart : (p q : ℕ → Bool) → ((b : ℕ) → p b ≡ true → q b ≡ true → ⊥) → (bs : List ℕ) → AtFirst p bs → AtFirst q bs → ⊥
apart p q h [] x y = x
apart p q h (b ∷ bs) x y = h b x y

pub word_number : (b : ℕ) → is_ascii_lowercase b ≡ true → numeric b ≡ true → ⊥
word_number b h g = grind arith

pub word_text : (b : ℕ) → is_ascii_lowercase b ≡ true → quotes b ≡ true → ⊥
word_text b h g = grind arith

word_blank : (b : ℕ) → is_ascii_lowercase b ≡ true → blank b ≡ true → ⊥
word_blank b h g = grind arith

pub number_quote : (b : ℕ) → numeric b ≡ true → quotes b ≡ true → ⊥
number_quote b h g = grind arith

number_blank : (b : ℕ) → numeric b ≡ true → blank b ≡ true → ⊥
number_blank b h g = grind arith

text_blank : (b : ℕ) → quotes b ≡ true → blank b ≡ true → ⊥
text_blank b h g = grind arith

none_of : (a b c d : Bool) → not (a || (b || (c || d))) ≡ true → (a ≡ true → ⊥) × (b ≡ true → ⊥) × (c ≡ true → ⊥) × (d ≡ true → ⊥)
none_of true b c d h = no_truth h
none_of false true c d h = no_truth h
none_of false false true d h = no_truth h
none_of false false false true h = no_truth h
none_of false false false false h = ((λ e. no_truth e), (λ e. no_truth e), (λ e. no_truth e), (λ e. no_truth e))

module _ (b : ℕ) (h : marks b ≡ true) where
  pub no_others : (is_ascii_lowercase b ≡ true → ⊥) × (numeric b ≡ true → ⊥) × (quotes b ≡ true → ⊥) × (blank b ≡ true → ⊥)
  no_others = none_of (is_ascii_lowercase b) (numeric b) (quotes b) (blank b) h

-- ---- texts

pub tails : (x y : ℕ) (xs ys : List ℕ) → x ∷ xs ≡ y ∷ ys → xs ≡ ys
tails x y xs ys h = cc

pub no_backslash : (q : ℕ) → IsQuote q → q ≡ 92 → ⊥
no_backslash q (inl e) h = omega (arith, e, h)
no_backslash q (inr e) h = omega (arith, e, h)

no_escape : (q a b : ℕ) → (a ≡ q) ⊎ (a ≡ 92) → ¬ (b ≡ q) → ¬ (b ≡ 92) → a ≡ b → ⊥
no_escape q a b (inl e) g h f = g (sym f ∙ e)
no_escape q a b (inr e) g h f = h (sym f ∙ e)

abbrev pub pieces : ℕ → List Piece → List ℕ
pieces q ps = flat_map piece_text ps ++ q ∷ []

pub same_pieces : (q : ℕ) (ps rs : List Piece) → IsQuote q → AllByRecursion (IsPiece q) ps → AllByRecursion (IsPiece q) rs → pieces q ps ≡ pieces q rs → ps ≡ rs
same_pieces q [] [] k p r e = refl
same_pieces q [] (plain b ∷ rs) k p r e = absurd (r.0.0 (sym (same_first q b [] (pieces q rs) e)))
same_pieces q [] (escaped b ∷ rs) k p r e = absurd (no_backslash q k (same_first q 92 [] (b ∷ pieces q rs) e))
same_pieces q [] (backslash b ∷ rs) k p r e = absurd (no_backslash q k (same_first q 92 [] (b ∷ pieces q rs) e))
same_pieces q (plain a ∷ ps) [] k p r e = absurd (p.0.0 (same_first a q (pieces q ps) [] e))
same_pieces q (escaped a ∷ ps) [] k p r e = absurd (no_backslash q k (sym (same_first 92 q (a ∷ pieces q ps) [] e)))
same_pieces q (backslash a ∷ ps) [] k p r e = absurd (no_backslash q k (sym (same_first 92 q (a ∷ pieces q ps) [] e)))
same_pieces q (plain a ∷ ps) (plain b ∷ rs) k p r e =
    let s = same_pieces q ps rs k p.1 r.1 (tails a b (pieces q ps) (pieces q rs) e) in
    λ i. plain (same_first a b (pieces q ps) (pieces q rs) e i) ∷ s i
same_pieces q (plain a ∷ ps) (escaped b ∷ rs) k p r e = absurd (p.0.1 (same_first a 92 (pieces q ps) (b ∷ pieces q rs) e))
same_pieces q (plain a ∷ ps) (backslash b ∷ rs) k p r e = absurd (p.0.1 (same_first a 92 (pieces q ps) (b ∷ pieces q rs) e))
same_pieces q (escaped a ∷ ps) (plain b ∷ rs) k p r e = absurd (r.0.1 (sym (same_first 92 b (a ∷ pieces q ps) (pieces q rs) e)))
same_pieces q (backslash a ∷ ps) (plain b ∷ rs) k p r e = absurd (r.0.1 (sym (same_first 92 b (a ∷ pieces q ps) (pieces q rs) e)))
same_pieces q (escaped a ∷ ps) (escaped b ∷ rs) k p r e =
    let f = tails 92 92 (a ∷ pieces q ps) (b ∷ pieces q rs) e in
    let s = same_pieces q ps rs k p.1 r.1 (tails a b (pieces q ps) (pieces q rs) f) in
    λ i. escaped (same_first a b (pieces q ps) (pieces q rs) f i) ∷ s i
same_pieces q (backslash a ∷ ps) (backslash b ∷ rs) k p r e =
    let f = tails 92 92 (a ∷ pieces q ps) (b ∷ pieces q rs) e in
    let s = same_pieces q ps rs k p.1 r.1 (tails a b (pieces q ps) (pieces q rs) f) in
    λ i. backslash (same_first a b (pieces q ps) (pieces q rs) f i) ∷ s i
same_pieces q (escaped a ∷ ps) (backslash b ∷ rs) k p r e =
    absurd (no_escape q a b p.0 r.0.0 r.0.1 (same_first a b (pieces q ps) (pieces q rs) (tails 92 92 (a ∷ pieces q ps) (b ∷ pieces q rs) e)))
same_pieces q (backslash a ∷ ps) (escaped b ∷ rs) k p r e =
    absurd (no_escape q b a r.0 p.0.0 p.0.1 (sym (same_first a b (pieces q ps) (pieces q rs) (tails 92 92 (a ∷ pieces q ps) (b ∷ pieces q rs) e))))

same_text : (q k : ℕ) (ps rs : List Piece) → IsQuote q → AllByRecursion (IsPiece q) ps → AllByRecursion (IsPiece k) rs → q ∷ pieces q ps ≡ k ∷ pieces k rs → text_bytes ps ≡ text_bytes rs
same_text q k ps rs h p r e =
    let one : k ≡ q = sym (same_first q k (pieces q ps) (pieces k rs) e) in
    ap text_bytes (same_pieces q ps rs h p (subst (λ x. AllByRecursion (IsPiece x) rs) one r) (tails q k (pieces q ps) (pieces k rs) e ∙ ap (λ x. pieces x rs) one))

pub text_first : (bs : List ℕ) (q : ℕ) (ps : List Piece) → IsQuote q → bs ≡ q ∷ pieces q ps → AtFirst quotes bs
text_first bs q ps k e = subst (AtFirst quotes) (sym e) (quote_first q k)

-- ---- bytes spell one token

once : (n : ℕ) (bs : List ℕ) (t u : Token) → Spells n bs t → Spells n bs u → t ≡ u
once n bs t u (a_word h e) (a_word g f) = e ∙ sym f
once n bs t u (a_number h e) (a_number g f) = e ∙ sym f
once n bs t u (a_text q ps k p w b e) (a_text l rs j r v c f) = e ∙ ap (λ x. literal_token (scalar.Text x) (n ∷ [])) (same_text q l ps rs k p r (sym b ∙ c)) ∙ sym f
once n bs t u (a_mark e) (a_mark f) = some_is t u (e ∙ sym f)
once n bs t u (a_word h e) (a_number g f) = absurd (apart is_ascii_lowercase numeric word_number bs (word_first bs h) (number_first bs g))
once n bs t u (a_number g f) (a_word h e) = absurd (apart is_ascii_lowercase numeric word_number bs (word_first bs h) (number_first bs g))
once n bs t u (a_word h e) (a_text l rs j r v c f) = absurd (apart is_ascii_lowercase quotes word_text bs (word_first bs h) (text_first bs l rs j c))
once n bs t u (a_text l rs j r v c f) (a_word h e) = absurd (apart is_ascii_lowercase quotes word_text bs (word_first bs h) (text_first bs l rs j c))
once n bs t u (a_number h e) (a_text l rs j r v c f) = absurd (apart numeric quotes number_quote bs (number_first bs h) (text_first bs l rs j c))
once n bs t u (a_text l rs j r v c f) (a_number h e) = absurd (apart numeric quotes number_quote bs (number_first bs h) (text_first bs l rs j c))
once n bs t u (a_mark e) (a_word h f) = absurd (apart marks is_ascii_lowercase (λ b x. (no_others b x).0) bs (mark_first bs (n ∷ []) t e) (word_first bs h))
once n bs t u (a_word h f) (a_mark e) = absurd (apart marks is_ascii_lowercase (λ b x. (no_others b x).0) bs (mark_first bs (n ∷ []) u e) (word_first bs h))
once n bs t u (a_mark e) (a_number h f) = absurd (apart marks numeric (λ b x. (no_others b x).1) bs (mark_first bs (n ∷ []) t e) (number_first bs h))
once n bs t u (a_number h f) (a_mark e) = absurd (apart marks numeric (λ b x. (no_others b x).1) bs (mark_first bs (n ∷ []) u e) (number_first bs h))
once n bs t u (a_mark e) (a_text l rs j r v c f) = absurd (apart marks quotes (λ b x. (no_others b x).2) bs (mark_first bs (n ∷ []) t e) (text_first bs l rs j c))
once n bs t u (a_text l rs j r v c f) (a_mark e) = absurd (apart marks quotes (λ b x. (no_others b x).2) bs (mark_first bs (n ∷ []) u e) (text_first bs l rs j c))

-- ---- and begin with no white space

abbrev pub Dark : List ℕ → Type 0
Dark [] = ⊥
Dark (b ∷ bs) = blank b ≡ true → ⊥

darken : (p : ℕ → Bool) → ((b : ℕ) → p b ≡ true → blank b ≡ true → ⊥) → (bs : List ℕ) → AtFirst p bs → Dark bs
darken p h [] x = x
darken p h (b ∷ bs) x = h b x

pub dark : (n : ℕ) (bs : List ℕ) (t : Token) → Spells n bs t → Dark bs
dark n bs t (a_word h e) = darken is_ascii_lowercase word_blank bs (word_first bs h)
dark n bs t (a_number h e) = darken numeric number_blank bs (number_first bs h)
dark n bs t (a_text q ps k p w b e) = darken quotes text_blank bs (text_first bs q ps k b)
dark n bs t (a_mark e) = darken marks (λ b x. (no_others b x).3) bs (mark_first bs (n ∷ []) t e)

pub no_space : (bs r : List ℕ) → Dark bs → IsNoSpace (bs ++ r)
no_space [] r h = absurd h
no_space (b ∷ bs) r h = h

-- behind white space the same follows
behind_space : (a b x y : List ℕ) → IsSpace a → IsSpace b → IsNoSpace x → IsNoSpace y → a ++ x ≡ b ++ y → x ≡ y
behind_space [] [] x y h g k l e = e
behind_space [] (b ∷ bs) x y h g k l e = absurd (subst IsNoSpace e k g.0)
behind_space (a ∷ more) [] x y h g k l e = absurd (subst IsNoSpace (sym e) l h.0)
behind_space (a ∷ more) (b ∷ bs) x y h g k l e = behind_space more bs x y h.1 g.1 k l (tails a b (more ++ x) (bs ++ y) e)

-- ---- the longest

same_fronts : (a b c d : List ℕ) → length a ≡ length b → a ++ c ≡ b ++ d → (a ≡ b) × (c ≡ d)
same_fronts [] [] c d l e = (refl, e)
same_fronts [] (y ∷ b) c d l e = absurd (omega (arith, l))
same_fronts (x ∷ a) [] c d l e = absurd (omega (arith, l))
same_fronts (x ∷ a) (y ∷ b) c d l e =
    let s = same_fronts a b c d (omega (arith, l)) (tails x y (a ++ c) (b ++ d) e) in
    ((λ i. same_first x y (a ++ c) (b ++ d) e i ∷ s.0 i), s.1)

-- two longest tokens that begin the same bytes
pub same_longest : (n : ℕ) (a b r s : List ℕ) (t u : Token) → IsLongest n a t r → IsLongest n b u s → a ++ r ≡ b ++ s → (t ≡ u) × (r ≡ s)
same_longest n a b r s t u p q e =
    let l = p.longest b s u q.spells e in
    let m = q.longest a r t p.spells (sym e) in
    let f = same_fronts a b r s (omega (arith, l, m)) e in
    (once n b t u (subst (λ z. Spells n z t) f.0 p.spells) q.spells, f.1)

-- nothing begins no token
pub no_token : (n : ℕ) (bs r : List ℕ) (t : Token) → Spells n bs t → [] ≡ bs ++ r → ⊥
no_token n bs r t s e = never bs (dark n bs t s) e
  where
    never : (bs : List ℕ) → Dark bs → [] ≡ bs ++ r → ⊥
    never [] d e = d
    never (b ∷ bs) d e = cc

-- ---- two lists of tokens that the same text begins with

-- the list us goes on behind ts with the token that the rest begins with
pub record GoesOn (n : ℕ) (ts us : List Token) (rest : List ℕ) : Type 0 where
  pub number : ℕ
  pub bytes : List ℕ
  pub behind : List ℕ
  pub token : Token
  pub more : List Token
  pub number_is : number ≡ n + length ts
  pub list_is : us ≡ ts ++ token ∷ more
  pub longest : IsLongest number bytes token behind
  pub rest_is : rest ≡ bytes ++ behind
  pub are_tokens : AllByRecursion IsToken more

abbrev pub Compared : ℕ → List Token → List Token → List ℕ → List ℕ → Type 0
Compared n ts us r s = ((ts ≡ us) × (r ≡ s)) ⊎ (GoesOn n ts us r ⊎ GoesOn n us ts s)

goes_on : (n : ℕ) (t u : Token) (ts us : List Token) (r : List ℕ) → t ≡ u → GoesOn (suc n) ts us r → GoesOn n (t ∷ ts) (u ∷ us) r
goes_on n t u ts us r e g = record {
  number = g.number;
  bytes = g.bytes;
  behind = g.behind;
  token = g.token;
  more = g.more;
  number_is = omega (arith, g.number_is);
  list_is = λ i. sym e i ∷ g.list_is i;
  longest = g.longest;
  rest_is = g.rest_is;
  are_tokens = g.are_tokens;
}

one_more : (n : ℕ) (t u : Token) (ts us : List Token) (r s : List ℕ) → t ≡ u → Compared (suc n) ts us r s → Compared n (t ∷ ts) (u ∷ us) r s
one_more n t u ts us r s e (inl c) = inl ((λ i. e i ∷ c.0 i), c.1)
one_more n t u ts us r s e (inr (inl g)) = inr (inl (goes_on n t u ts us r e g))
one_more n t u ts us r s e (inr (inr g)) = inr (inr (goes_on n u t us ts s (sym e) g))

spelt_tokens : (n : ℕ) (xs : List Spelt) (r : List ℕ) → AreSpelt n xs r → AllByRecursion IsToken (tokens_of xs)
spelt_tokens n [] r p = tt
spelt_tokens n (x ∷ xs) r p = ((n, x.bytes, p.1.spells), spelt_tokens (suc n) xs r p.2)

first_of : (n : ℕ) (y : Spelt) (ys : List Spelt) (a r q : List ℕ) → IsSpace a → IsNoSpace r → AreSpelt n (y ∷ ys) q → a ++ r ≡ y.space ++ (y.bytes ++ bytes_of ys q) → GoesOn n [] (y.token ∷ tokens_of ys) r
first_of n y ys a r q h k p e = record {
  number = n;
  bytes = y.bytes;
  behind = bytes_of ys q;
  token = y.token;
  more = tokens_of ys;
  number_is = omega arith;
  list_is = refl;
  longest = p.1;
  rest_is = behind_space a y.space r (y.bytes ++ bytes_of ys q) h p.0 k (no_space y.bytes (bytes_of ys q) (dark n y.bytes y.token p.1.spells)) e;
  are_tokens = spelt_tokens (suc n) ys q p.2;
}

module _ (a b r s : List ℕ) (h : IsSpace a) (g : IsSpace b) (k : IsNoSpace r) (l : IsNoSpace s) where
  compare_lists : (n : ℕ) (xs ys : List Spelt) → AreSpelt n xs (a ++ r) → AreSpelt n ys (b ++ s) → bytes_of xs (a ++ r) ≡ bytes_of ys (b ++ s) → Compared n (tokens_of xs) (tokens_of ys) r s
  compare_lists n [] [] p q e = inl (refl, behind_space a b r s h g k l e)
  compare_lists n [] (y ∷ ys) p q e = inr (inl (first_of n y ys a r (b ++ s) h k q e))
  compare_lists n (x ∷ xs) [] p q e = inr (inr (first_of n x xs b s (a ++ r) g l p (sym e)))
  compare_lists n (x ∷ xs) (y ∷ ys) p q e =
      let f = behind_space x.space y.space (x.bytes ++ bytes_of xs (a ++ r)) (y.bytes ++ bytes_of ys (b ++ s)) p.0 q.0 (no_space x.bytes (bytes_of xs (a ++ r)) (dark n x.bytes x.token p.1.spells)) (no_space y.bytes (bytes_of ys (b ++ s)) (dark n y.bytes y.token q.1.spells)) e in
      let t = same_longest n x.bytes y.bytes (bytes_of xs (a ++ r)) (bytes_of ys (b ++ s)) x.token y.token p.1 q.1 f in
      one_more n x.token y.token (tokens_of xs) (tokens_of ys) r s t.0 (compare_lists (suc n) xs ys p.2 q.2 t.1)

pub compared : (text : List ℕ) (ts us : List Token) (r s : List ℕ) → BeginsWith text ts r → BeginsWith text us s → Compared 0 ts us r s
compared text ts us r s a b =
    subst (λ x. Compared 0 x us r s) (sym a.tokens_are)
    (subst (λ x. Compared 0 (tokens_of a.spelt) x r s) (sym b.tokens_are)
    (compare_lists a.space b.space r s a.is_space b.is_space a.is_no_space b.is_no_space 0 a.spelt b.spelt a.are_spelt b.are_spelt (sym a.text_is ∙ b.text_is)))

pub ends_alike : (ts us : List Token) → Compared 0 ts us [] [] → ts ≡ us
ends_alike ts us (inl c) = c.0
ends_alike ts us (inr (inl g)) = absurd (no_token g.number g.bytes g.behind g.token g.longest.spells g.rest_is)
ends_alike ts us (inr (inr g)) = absurd (no_token g.number g.bytes g.behind g.token g.longest.spells g.rest_is)

pub one_list : TextsHaveOneList
one_list text ts us a b = ends_alike ts us (compared text ts us [] [] a b)
