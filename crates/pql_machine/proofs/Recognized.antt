-- Whether bytes spell a token: it can be told.
use Rattle.std.proofs.Common.{◌≡◌, ◌∙◌, ◌⊎◌, inl, inr, ℕ, List, [], ◌∷◌, Bool, true, false, ◌||◌, ◌==◌, refl, sym, ap, subst, if◌then◌else◌, Option, Some, None}
use Rattle.std.specs.Char.{is_ascii_digit, is_ascii_lowercase}
use Rattle.std.specs.List.{AllByRecursion}
use Rattle.std.specs.Str.{IsUtf8, is_utf8}
use Rattle.std.proofs.lemmas.Str.{IsUtf8-from_is_utf8, is_utf8-from_IsUtf8}
use Rattle.pql_spec.proofs.of_plain_laws.Lists.{same_first}
use Rattle.pql_spec.proofs.of_plain_laws.Booleans.{no_truth, eq_is, eq_true, eq_not, neq_is, either_is, if_false, if_true}
use Rattle.pql_spec.proofs.of_plain_laws.Options.{none_some, some_is, choose}
use Rattle.pql_spec.specs.text_spec.Number.{IsNumber}
use Rattle.pql_spec.specs.json_tree.Numbers.{completes}
use Rattle.pql_spec.specs.json_tree.declared.number.NumberState.TheVariants.{Start}
use Rattle.pql_spec.proofs.of_json_tree.NumberLaws.{completes_number, number_completes}
use Rattle.pql_spec.specs.query_spec.declared.parts.Scalar.TheVariants as scalar
use Rattle.pql_spec.specs.declared.token.Token.{Token}
use Rattle.pql_spec.specs.Tokens.{IsWord, IsWordByte, IsQuote, Piece, plain, escaped, backslash, IsPiece, quoted, text_bytes, literal_token, word_token, mark_token, Spells, a_word, a_number, a_text, a_mark}
use Rattle.pql_spec.proofs.OneList.{pieces, same_pieces, no_backslash, tails}
use Rattle.pql_spec.proofs.Either.{is_either, is_neither, neither_is}

abbrev pub Decided : Type 0 → Type 0
Decided P = P ⊎ (P → ⊥)

pub by_test : {P : Type 0} (b : Bool) → (b ≡ true → P) → (P → b ≡ true) → Decided P
by_test true holds back = inl (holds refl)
by_test false holds back = inr (λ p. no_truth (back p))

both : {P Q : Type 0} → Decided P → Decided Q → Decided (P × Q)
both (inl p) (inl q) = inl (p, q)
both (inr p) q = inr (λ h. p h.0)
both (inl p) (inr q) = inr (λ h. q h.1)

-- ---- words and numbers

word_bytes : (bs : List ℕ) → Decided (AllByRecursion IsWordByte bs)
word_bytes [] = inl tt
word_bytes (b ∷ bs) = both (by_test (is_ascii_lowercase b || is_ascii_digit b || (b == 95)) (λ h. h) (λ h. h)) (word_bytes bs)

word : (bs : List ℕ) → Decided (IsWord bs)
word [] = inr (λ h. h)
word (b ∷ bs) = both (by_test (is_ascii_lowercase b) (λ h. h) (λ h. h)) (word_bytes bs)

number : (bs : List ℕ) → Decided (IsNumber bs)
number bs = by_test (completes Start bs) (number_completes bs) (completes_number bs)

-- ---- texts

abbrev push : Piece → Option (List Piece) → Option (List Piece)
push p None = None
push p (Some ps) = Some (p ∷ ps)

abbrev close : List ℕ → Option (List Piece)
close [] = Some []
close (b ∷ bs) = None

abbrev mutual
  read_pieces : ℕ → List ℕ → Option (List Piece)
  read_pieces q [] = None
  read_pieces q (b ∷ bs) = if b == q then close bs else (if b == 92 then read_behind q bs else push (plain b) (read_pieces q bs))

  read_behind : ℕ → List ℕ → Option (List Piece)
  read_behind q [] = None
  read_behind q (c ∷ cs) = if (c == q) || (c == 92) then push (escaped c) (read_pieces q cs) else push (backslash c) (read_pieces q cs)

module _ (q : ℕ) (k : IsQuote q) where
  backslash_first : (bs : List ℕ) → read_pieces q (92 ∷ bs) ≡ read_behind q bs
  backslash_first bs = if_false (92 == q) (close bs) (read_behind q bs) (eq_not 92 q (λ e. no_backslash q k (sym e)))

  pieces_read : (ps : List Piece) → AllByRecursion (IsPiece q) ps → read_pieces q (pieces q ps) ≡ Some ps
  pieces_read [] p = if_true (q == q) (Some []) (if q == 92 then None else push (plain q) None) (eq_true q q refl)
  pieces_read (plain b ∷ ps) p =
      if_false (b == q) (close (pieces q ps)) _ (eq_not b q p.0.0)
      ∙ if_false (b == 92) (read_behind q (pieces q ps)) (push (plain b) (read_pieces q (pieces q ps))) (eq_not b 92 p.0.1)
      ∙ ap (push (plain b)) (pieces_read ps p.1)
  pieces_read (escaped b ∷ ps) p =
      backslash_first (b ∷ pieces q ps)
      ∙ if_true ((b == q) || (b == 92)) (push (escaped b) (read_pieces q (pieces q ps))) (push (backslash b) (read_pieces q (pieces q ps))) (is_either b q 92 p.0)
      ∙ ap (push (escaped b)) (pieces_read ps p.1)
  pieces_read (backslash b ∷ ps) p =
      backslash_first (b ∷ pieces q ps)
      ∙ if_false ((b == q) || (b == 92)) (push (escaped b) (read_pieces q (pieces q ps))) (push (backslash b) (read_pieces q (pieces q ps))) (is_neither b q 92 p.0.0 p.0.1)
      ∙ ap (push (backslash b)) (pieces_read ps p.1)

-- what was read stands there
record Stands (q : ℕ) (bs : List ℕ) (ps : List Piece) : Type 0 where
  pub are_pieces : AllByRecursion (IsPiece q) ps
  pub bytes_are : bs ≡ pieces q ps

closed : (q b : ℕ) (bs : List ℕ) (ps : List Piece) → b ≡ q → close bs ≡ Some ps → Stands q (b ∷ bs) ps
closed q b [] ps h e = subst (Stands q (b ∷ [])) (some_is [] ps e) (record { are_pieces = tt; bytes_are = λ i. h i ∷ [] })
closed q b (c ∷ bs) ps h e = none_some ps e

pushed : (p : Piece) (o : Option (List Piece)) (ps : List Piece) → push p o ≡ Some ps → (rs : List Piece) × (o ≡ Some rs) × (p ∷ rs ≡ ps)
pushed p None ps e = none_some ps e
pushed p (Some rs) ps e = (rs, refl, some_is (p ∷ rs) ps e)

mutual
  pieces_stand : (q : ℕ) (bs : List ℕ) (ps : List Piece) → read_pieces q bs ≡ Some ps → Stands q bs ps
  pieces_stand q [] ps e = none_some ps e
  pieces_stand q (b ∷ bs) ps e = choose (b == q) (close bs) _ (Some ps) (Stands q (b ∷ bs) ps) e
      (λ h g. closed q b bs ps (eq_is b q h) g)
      (λ h g. choose (b == 92) (read_behind q bs) (push (plain b) (read_pieces q bs)) (Some ps) (Stands q (b ∷ bs) ps) g
      (λ i f. subst (λ x. Stands q (x ∷ bs) ps) (sym (eq_is b 92 i)) (behind_stands q bs ps f))
      (λ i f.
      let p = pushed (plain b) (read_pieces q bs) ps f in
      let s = pieces_stand q bs p.0 p.1 in
      subst (Stands q (b ∷ bs)) p.2 (record { are_pieces = ((neq_is b q h, neq_is b 92 i), s.are_pieces); bytes_are = λ j. b ∷ s.bytes_are j })))

  behind_stands : (q : ℕ) (cs : List ℕ) (ps : List Piece) → read_behind q cs ≡ Some ps → Stands q (92 ∷ cs) ps
  behind_stands q [] ps e = none_some ps e
  behind_stands q (c ∷ cs) ps e = choose ((c == q) || (c == 92)) (push (escaped c) (read_pieces q cs)) (push (backslash c) (read_pieces q cs)) (Some ps) (Stands q (92 ∷ c ∷ cs) ps) e
      (λ h f.
      let p = pushed (escaped c) (read_pieces q cs) ps f in
      let s = pieces_stand q cs p.0 p.1 in
      subst (Stands q (92 ∷ c ∷ cs)) p.2 (record { are_pieces = (either_is c q 92 h, s.are_pieces); bytes_are = λ j. 92 ∷ c ∷ s.bytes_are j }))
      (λ h f.
      let p = pushed (backslash c) (read_pieces q cs) ps f in
      let s = pieces_stand q cs p.0 p.1 in
      subst (Stands q (92 ∷ c ∷ cs)) p.2 (record { are_pieces = (neither_is c q 92 h, s.are_pieces); bytes_are = λ j. 92 ∷ c ∷ s.bytes_are j }))

record IsText (bs : List ℕ) : Type 0 where
  pub quote : ℕ
  pub parts : List Piece
  pub is_quote : IsQuote quote
  pub are_pieces : AllByRecursion (IsPiece quote) parts
  pub utf8 : IsUtf8 (text_bytes parts)
  pub bytes_are : bs ≡ quoted quote parts

quote : (q : ℕ) → Decided (IsQuote q)
quote q = by_test ((q == 39) || (q == 34)) (either_is q 39 34) (is_either q 39 34)

text_of : (q : ℕ) (bs : List ℕ) (o : Option (List Piece)) → IsQuote q → read_pieces q bs ≡ o → Decided (IsText (q ∷ bs))
text_of q bs None k e = inr (λ t. none_some t.parts (sym e ∙ ap (read_pieces q) (tails q t.quote bs (pieces t.quote t.parts) t.bytes_are ∙ ap (λ x. pieces x t.parts) (same t)) ∙ pieces_read q k t.parts (subst (λ x. AllByRecursion (IsPiece x) t.parts) (same t) t.are_pieces)))
  where
    same : (t : IsText (q ∷ bs)) → t.quote ≡ q
    same t = sym (same_first q t.quote bs (pieces t.quote t.parts) t.bytes_are)
text_of q bs (Some ps) k e =
    let s = pieces_stand q bs ps e in
    by_test (is_utf8 (text_bytes ps))
    (λ u. record { quote = q; parts = ps; is_quote = k; are_pieces = s.are_pieces; utf8 = IsUtf8-from_is_utf8 (text_bytes ps) u; bytes_are = λ i. q ∷ s.bytes_are i })
    (λ t. is_utf8-from_IsUtf8 (text_bytes ps) (subst IsUtf8 (ap text_bytes (same_parts t s.are_pieces s.bytes_are)) t.utf8))
  where
    same_parts : (t : IsText (q ∷ bs)) → AllByRecursion (IsPiece q) ps → bs ≡ pieces q ps → t.parts ≡ ps
    same_parts t a b =
        let same : t.quote ≡ q = sym (same_first q t.quote bs (pieces t.quote t.parts) t.bytes_are) in
        same_pieces q t.parts ps k (subst (λ x. AllByRecursion (IsPiece x) t.parts) same t.are_pieces) a (ap (λ x. pieces x t.parts) (sym same) ∙ sym (tails q t.quote bs (pieces t.quote t.parts) t.bytes_are) ∙ b)

a_quoted : (q : ℕ) (bs : List ℕ) → Decided (IsQuote q) → Decided (IsText (q ∷ bs))
a_quoted q bs (inl k) = text_of q bs (read_pieces q bs) k refl
a_quoted q bs (inr fails) = inr (λ t. fails (subst IsQuote (sym (same_first q t.quote bs (pieces t.quote t.parts) t.bytes_are)) t.is_quote))

text : (bs : List ℕ) → Decided (IsText bs)
text [] = inr (λ t. never t.quote (pieces t.quote t.parts) t.bytes_are)
  where
    never : (b : ℕ) (bs : List ℕ) → [] ≡ b ∷ bs → ⊥
    never b bs h = cc
text (q ∷ bs) = a_quoted q bs (quote q)

-- ---- tokens

abbrev pub Spelled : ℕ → List ℕ → Type 0
Spelled n bs = (t : Token) × Spells n bs t

module _ (n : ℕ) (bs : List ℕ) where
  by_mark : (o : Option Token) → mark_token bs (n ∷ []) ≡ o → Decided (IsWord bs) → Decided (IsNumber bs) → Decided (IsText bs) → Decided (Spelled n bs)
  by_mark (Some t) e w d x = inl (t, a_mark (sym e))
  by_mark None e (inl w) d x = inl (word_token bs (n ∷ []), a_word w refl)
  by_mark None e (inr w) (inl d) x = inl (literal_token (scalar.Num bs) (n ∷ []), a_number d refl)
  by_mark None e (inr w) (inr d) (inl x) = inl (literal_token (scalar.Text (text_bytes x.parts)) (n ∷ []), a_text x.quote x.parts x.is_quote x.are_pieces x.utf8 x.bytes_are refl)
  by_mark None e (inr w) (inr d) (inr x) = inr (λ s. fails s.0 s.1)
    where
      fails : (t : Token) → Spells n bs t → ⊥
      fails t (a_word h f) = w h
      fails t (a_number h f) = d h
      fails t (a_text q ps k p u b f) = x (record { quote = q; parts = ps; is_quote = k; are_pieces = p; utf8 = u; bytes_are = b })
      fails t (a_mark f) = none_some t (sym e ∙ sym f)

  pub spelled : Decided (Spelled n bs)
  spelled = by_mark (mark_token bs (n ∷ [])) refl (word bs) (number bs) (text bs)
