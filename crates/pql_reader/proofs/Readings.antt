-- What was read of a text, and why it stops.
use Rattle.std.proofs.Common.{◌≡◌, ◌∙◌, ◌⊎◌, inl, inr, ◌<◌, ◌≤◌, ◌+◌, ℕ, suc, List, [], ◌∷◌, ◌++◌, length, take, drop, Bool, true, false, ◌||◌, ◌==◌, if◌then◌else◌, Option, Some, None, Result, Ok, Err, refl, sym, ap, subst, arith}
use Rattle.std.proofs.lemmas.List.{append-nil, length-append, length-drop, take-append-drop, drop-drop}
use Rattle.ast_tree.proofs.of_plain_laws.Booleans.{both_ways, no_truth}
use Rattle.query_spec.specs.text_spec.JsonText.{IsSpace, IsSpaceByte}
use Rattle.query_spec.specs.Query.{Level}
use Rattle.pql_spec.specs.declared.token.Token.{Token}
use Rattle.pql_spec.specs.Tokens.{Spells}
use Rattle.pql_spec.specs.Grammar.{PqlSpells}
use Rattle.pql_spec.specs.Texts.{Spelt, bytes_of, tokens_of, IsLongest, AreSpelt, IsNoSpace, BeginsWith, TextSpells, Begins, Stops, at_end, at_no_token, at_token, PqlBad}
use Rattle.pql_machine.specs.Machine.{State, Frame, start, complete, ended}
use Rattle.pql_machine.specs.Verdict.{BadAt, Means, next, admit, verdict}
use Rattle.pql_machine.specs.Verdict as told
use Rattle.pql_machine.proofs.Law.{verdict_means, take-front, take-one}
use Rattle.pql_machine.proofs.OneAnswer.{spelt_begins}
use Rattle.pql_lexer.specs.Next.{IsNext, NoToken}
use Rattle.pql_parts.specs.declared.fault.Fault.{Fault}
use Rattle.pql_parts.specs.declared.fault.Fault.TheVariants.{Bad, Memory}
use Rattle.pql_parts.specs.declared.state.State as code
use Rattle.pql_reader.specs.declared.read.Stop.{Stop}
use Rattle.pql_reader.specs.declared.read.Stop.TheVariants as stop
use Rattle.pql_parts.specs.States.{state_of}
use Rattle.pql_reader.specs.Goes.{space_length, Halts, Stepped, Goes, Reached, EndsAs, Reads, stop_of}
use Rattle.query_spec.specs.Limits.{most_depth}

-- ---- white space

space_of : (bs : List ℕ) → IsSpace (take (space_length bs) bs) × IsNoSpace (drop (space_length bs) bs)
space_of [] = (tt, tt)
space_of (b ∷ bs) = by_byte ((b == 32) || (b == 9) || (b == 10) || (b == 13)) refl (space_of bs)
  where
    by_byte : (t : Bool) → ((b == 32) || (b == 9) || (b == 10) || (b == 13)) ≡ t → IsSpace (take (space_length bs) bs) × IsNoSpace (drop (space_length bs) bs)
        → IsSpace (take (if t then suc (space_length bs) else 0) (b ∷ bs)) × IsNoSpace (drop (if t then suc (space_length bs) else 0) (b ∷ bs))
    by_byte true e h = ((e, h.0), h.1)
    by_byte false e h = (tt, (λ s. both_ways _ s e))

-- ---- one token more

-- nothing but white space
nowhere : (s : State) (n : ℕ) (bytes rest : List ℕ) → rest ≡ drop (space_length bytes) bytes → Goes s n bytes s n rest
nowhere s n bytes rest e = record {
  spelt = [];
  space = take (space_length bytes) bytes;
  are_spelt = tt;
  is_space = (space_of bytes).0;
  bytes_are = sym (take-append-drop (space_length bytes) bytes) ∙ ap (λ x. take (space_length bytes) bytes ++ x) (sym e);
  number_is = omega arith;
  ran = λ us. refl;
}

one_more : (s q z : State) (n m : ℕ) (space front behind bytes rest : List ℕ) (t : Token) → bytes ≡ space ++ (front ++ behind) → IsSpace space → IsLongest n front t behind → admit most_depth s t ≡ Some q → Goes q (suc n) behind z m rest → Goes s n bytes z m rest
one_more s q z n m space front behind bytes rest t e k l a g = record {
  spelt = record { space = space; bytes = front; token = t } ∷ g.spelt;
  space = g.space;
  are_spelt = (k, subst (IsLongest n front t) g.bytes_are l, g.are_spelt);
  is_space = g.is_space;
  bytes_are = e ∙ ap (λ x. space ++ (front ++ x)) g.bytes_are;
  number_is = omega (arith, g.number_is);
  ran = λ us. ap (λ o. next o n (λ p. verdict most_depth p (n + 1) (tokens_of g.spelt ++ us))) a ∙ ap (λ k. verdict most_depth q k (tokens_of g.spelt ++ us)) one ∙ g.ran us;
}
  where
    one : n + 1 ≡ suc n
    one = omega arith

-- ---- at a place of the text

module _ (text : List ℕ) (z : State) (n at place : ℕ) (r : Reached text z n (drop at text)) (p : place ≡ at + space_length (drop at text)) where
  rest_is : drop place text ≡ drop (space_length (drop at text)) (drop at text)
  rest_is = ap (λ k. drop k text) p ∙ sym (drop-drop (space_length (drop at text)) at text)

  pub goes : Goes start 0 text z n (drop place text)
  goes = r z n (drop place text) (nowhere z n (drop at text) (drop place text) rest_is)

  pub no_space : IsNoSpace (drop place text)
  no_space = subst IsNoSpace (sym rest_is) (space_of (drop at text)).1

  -- behind one token more
  pub reached : (q : State) (t : Token) (m : ℕ) → IsNext n (drop place text) t m → admit most_depth z t ≡ Some q → Reached text q (suc n) (drop (place + m) text)
  reached q t m h a y k rest g = r y k rest (one_more z q y n k (take (space_length (drop at text)) (drop at text)) (take m (drop place text)) (drop m (drop place text)) (drop at text) rest t bytes_are (space_of (drop at text)).0 h.longest a (subst (λ x. Goes q (suc n) x y k rest) (sym (drop-drop m place text)) g))
    where
      bytes_are : drop at text ≡ take (space_length (drop at text)) (drop at text) ++ (take m (drop place text) ++ drop m (drop place text))
      bytes_are = sym (take-append-drop (space_length (drop at text)) (drop at text)) ∙ ap (λ x. take (space_length (drop at text)) (drop at text) ++ x) (sym rest_is ∙ sym (take-append-drop m (drop place text)))

-- ---- where it stops

module _ (text : List ℕ) (z : State) (n at : ℕ) (rest : List ℕ) (g : Goes start 0 text z n rest) (k : IsNoSpace rest) (place : length text ≡ at + length rest) where
  abbrev tokens : List Token
  tokens = tokens_of g.spelt

  begins_with : BeginsWith text tokens rest
  begins_with = record { spelt = g.spelt; space = g.space; are_spelt = g.are_spelt; is_space = g.is_space; is_no_space = k; text_is = g.bytes_are; tokens_are = refl }

  size : n ≡ length tokens
  size = omega (arith, g.number_is)

  ran : (us : List Token) → verdict most_depth start 0 (tokens ++ us) ≡ verdict most_depth z n us
  ran us = g.ran us

  whole : Means tokens (told.at_end (ended z) n)
  whole = subst (Means tokens) (ap (verdict most_depth start 0) (sym (append-nil tokens)) ∙ ran []) (verdict_means tokens)

  pub text_spelt : (q : Level) → rest ≡ [] → ended z ≡ Some q → TextSpells text q
  text_spelt q e h = record { tokens = tokens; begins_with = subst (BeginsWith text tokens) e begins_with; spells = subst (λ o. Means tokens (told.at_end o n)) h whole }

  all_of_them : take n tokens ≡ tokens
  all_of_them = (λ i. take (size i) (sym (append-nil tokens) i)) ∙ take-front tokens []

  begin_by : (o : Option Level) → Means tokens (told.at_end o n) → Begins tokens
  begin_by None h = subst Begins all_of_them h.begins
  begin_by (Some q) h = spelt_begins tokens q h

  bad_at : Stops tokens rest → PqlBad text at
  bad_at s = record { tokens = tokens; rest = rest; begins_with = begins_with; place = place; begins = begin_by (ended z) whole; stops = s }

  pub bad_end : rest ≡ [] → ended z ≡ None → PqlBad text at
  bad_end e h =
      let b : BadAt tokens n = subst (λ o. Means tokens (told.at_end o n)) h whole in
      bad_at (at_end e (b.whole size))

  no_token_bad : ¬ (rest ≡ []) → NoToken n rest → PqlBad text at
  no_token_bad e h = bad_at (at_no_token e (λ bytes r t s f. h bytes r t (subst (λ y. Spells y bytes t) (sym size) s) f))

  token_bad : (t : Token) (m : ℕ) → IsNext n rest t m → admit most_depth z t ≡ None → PqlBad text at
  token_bad t m h a = bad_at (at_token (take m rest) (drop m rest) t (subst (λ y. IsLongest y (take m rest) t (drop m rest)) size h.longest) (sym (take-append-drop m rest)) never)
    where
      refused : BadAt (tokens ++ t ∷ []) n
      refused = subst (Means (tokens ++ t ∷ [])) (ran (t ∷ []) ∙ ap (λ o. next o n (λ p. verdict most_depth p (n + 1) [])) a) (verdict_means (tokens ++ t ∷ []))

      longer : take (n + 1) (tokens ++ t ∷ []) ≡ tokens ++ t ∷ []
      longer = (λ i. take (size i + 1) (tokens ++ t ∷ [])) ∙ take-one tokens t []

      never : Begins (tokens ++ t ∷ []) → ⊥
      never b = refused.longest (omega (arith, size, length-append tokens (t ∷ []))) (subst Begins (sym longer) b)

  pub halted : ¬ (rest ≡ []) → Halts z n rest → PqlBad text at
  halted e (inl h) = no_token_bad e h
  halted e (inr h) = token_bad h.0 h.1 h.2 h.3

-- ---- as the code comes to it

no_length : (xs : List ℕ) → length xs ≡ 0 → xs ≡ []
no_length [] e = refl
no_length (x ∷ xs) e = absurd (omega (arith, e))

less_apart : (m n : ℕ) → m < n → ¬ (m ≡ n)
less_apart m n l e = omega (arith, l, e)

-- bs is what is left at `at`, and k its white space
module _ (text : List ℕ) (z : State) (n at : ℕ) (r : Reached text z n (drop at text)) (w : at ≤ length text) (bs : List ℕ) (k : ℕ) (b : bs ≡ drop at text) (f : k ≡ space_length bs) (h : k ≤ length bs) where
  place : at + k ≡ at + space_length (drop at text)
  place = ap (λ x. at + x) (f ∙ ap space_length b)

  pub within : at + k ≤ length text
  within = omega (arith, w, h, ap length b, length-drop at text)

  left : length text ≡ (at + k) + length (drop (at + k) text)
  left = omega (arith, length-drop (at + k) text, within)

  nothing_left : at + k ≡ length text → drop (at + k) text ≡ []
  nothing_left e = no_length (drop (at + k) text) (omega (arith, left, e))

  something_left : ¬ (at + k ≡ length text) → ¬ (drop (at + k) text ≡ [])
  something_left u e = u (omega (arith, left, ap length e))

  all_read : at + k ≡ length text → (q : Level) → Some q ≡ ended z → TextSpells text q
  all_read e q s =
      text_spelt text z n (at + k) (drop (at + k) text) (goes text z n at (at + k) r place) (no_space text z n at (at + k) r place) left q (nothing_left e) (sym s)

  ends_early : at + k ≡ length text → None ≡ ended z → PqlBad text (at + k)
  ends_early e s =
      bad_end text z n (at + k) (drop (at + k) text) (goes text z n at (at + k) r place) (no_space text z n at (at + k) r place) left (nothing_left e) (sym s)

  pub text_ends : at + k ≡ length text → (x : Result Level Stop) → EndsAs (ended z) (at + k) x → Reads text x
  text_ends e (Ok q) s = all_read e q s
  text_ends e (Err (stop.Bad b)) s = subst (PqlBad text) (sym s.1) (ends_early e s.0)
  text_ends e (Err stop.Memory) s = absurd s

  -- cs is what is left behind the white space
  module _ (cs : List ℕ) (c : cs ≡ drop (at + k) text) (fs : List Frame) where
    stops_at : ¬ (at + k ≡ length text) → (u : Fault) → Stepped z n (drop (at + k) text) fs (Err u) → Reads text (Err (stop_of u (at + k)))
    stops_at e Bad s =
        halted text z n (at + k) (drop (at + k) text) (goes text z n at (at + k) r place) (no_space text z n at (at + k) r place) left (something_left e) s
    stops_at e Memory s = tt

    pub stops : at + k < length text → (u : Fault) → Stepped z n cs fs (Err u) → (x : Stop) → x ≡ stop_of u (at + k) → Reads text (Err x)
    stops e u s x y = subst (λ v. Reads text (Err v)) (sym y) (stops_at (less_apart (at + k) (length text) e) u (subst (λ v. Stepped z n v fs (Err u)) c s))

    pub goes_on : (s : code.State) (m : ℕ) → Stepped z n cs fs (Ok (s, m)) → Reached text (state_of fs s) (n + 1) (drop ((at + k) + m) text)
    goes_on s m d =
        let e = subst (λ v. Stepped z n v fs (Ok (s, m))) c d in
        subst (λ j. Reached text (state_of fs s) j (drop ((at + k) + m) text)) one (reached text z n at (at + k) r place (state_of fs s) e.0 m e.1 e.2)
      where
        one : suc n ≡ n + 1
        one = omega arith

    pub moves : (s : code.State) (m : ℕ) → Stepped z n cs fs (Ok (s, m)) → (0 < m) × ((at + k) + m ≤ length text)
    moves s m d =
        let e = subst (λ v. Stepped z n v fs (Ok (s, m))) c d in
        (e.1.some, omega (arith, e.1.within, left))
