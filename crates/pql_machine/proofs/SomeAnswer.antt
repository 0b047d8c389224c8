-- Each text has an answer: its tokens are those of a query, or the machine tells the first that isn't.
use Rattle.std.proofs.Common.{◌≡◌, ◌∙◌, ◌⊎◌, inl, inr, ◌<◌, ◌≤◌, ◌+◌, ◌-◌, ℕ, zero, suc, List, [], ◌∷◌, ◌++◌, length, take, Bool, true, false, nat_le, refl, sym, ap, subst, arith, Err}
use Rattle.std.proofs.Math.Nat.{eq-or-lt_of_le}
use Rattle.std.proofs.lemmas.List.{append-nil, length-append}
use Rattle.pql_spec.specs.query_spec.Query.{Level}
use Rattle.pql_spec.specs.declared.token.Token.{Token}
use Rattle.pql_spec.specs.Tokens.{Spells}
use Rattle.pql_spec.specs.Texts.{Spelt, bytes_of, tokens_of, IsLongest, AreSpelt, BeginsWith, TextSpells, Begins, Stops, at_end, at_no_token, at_token, PqlBad, Answer, too_long, pql_bad, checked, AnswerOf, long, bad, spelt}
use Rattle.pql_spec.proofs.OneList.{no_space, dark}
use Rattle.pql_machine.specs.Laws.{TextsHaveSomeAnswer}
use Rattle.pql_machine.specs.Machine.{start}
use Rattle.pql_machine.specs.Verdict as verdict
use Rattle.pql_machine.specs.Verdict.{Verdict, spelled, BadAt, Means}
use Rattle.pql_machine.proofs.Cuts.{Cut, cut}
use Rattle.pql_machine.proofs.Law.{verdict_means, take-front, take-one}
use Rattle.pql_machine.proofs.OneAnswer.{spelt_begins}
use Rattle.pql_spec.specs.query_spec.Limits.{most_query, most_depth}

-- ---- a list of tokens, at one of them

append_bytes : (xs ys : List Spelt) (r : List ℕ) → bytes_of (xs ++ ys) r ≡ bytes_of xs (bytes_of ys r)
append_bytes [] ys r = refl
append_bytes (x ∷ xs) ys r = ap (λ z. x.space ++ (x.bytes ++ z)) (append_bytes xs ys r)

append_tokens : (xs ys : List Spelt) → tokens_of (xs ++ ys) ≡ tokens_of xs ++ tokens_of ys
append_tokens [] ys = refl
append_tokens (x ∷ xs) ys = ap (λ z. x.token ∷ z) (append_tokens xs ys)

before_spelt : (n : ℕ) (xs ys : List Spelt) (r : List ℕ) → AreSpelt n (xs ++ ys) r → AreSpelt n xs (bytes_of ys r)
before_spelt n [] ys r a = tt
before_spelt n (x ∷ xs) ys r a = (a.0, subst (IsLongest n x.bytes x.token) (append_bytes xs ys r) a.1, before_spelt (suc n) xs ys r a.2)

after_spelt : (n k : ℕ) (xs ys : List Spelt) (r : List ℕ) → k ≡ n + length (tokens_of xs) → AreSpelt n (xs ++ ys) r → AreSpelt k ys r
after_spelt n k [] ys r e a = subst (λ z. AreSpelt z ys r) same a
  where
    same : n ≡ k
    same = omega (arith, e)
after_spelt n k (x ∷ xs) ys r e a = after_spelt (suc n) k xs ys r (omega (arith, e)) a.2

record Parted (xs : List Spelt) (k : ℕ) : Type 0 where
  pub before : List Spelt
  pub item : Spelt
  pub after : List Spelt
  pub list_is : xs ≡ before ++ item ∷ after
  pub place : k ≡ length (tokens_of before)

parted : (xs : List Spelt) (k : ℕ) → k < length (tokens_of xs) → Parted xs k
parted [] k l = absurd (omega (arith, l))
parted (x ∷ xs) zero l = record { before = []; item = x; after = xs; list_is = refl; place = refl }
parted (x ∷ xs) (suc k) l =
    let p = parted xs k (omega (arith, l)) in
    record { before = x ∷ p.before; item = p.item; after = p.after; list_is = λ i. x ∷ p.list_is i; place = ap suc p.place }

bytes_longer : (xs : List Spelt) (r : List ℕ) → length r ≤ length (bytes_of xs r)
bytes_longer [] r = omega arith
bytes_longer (x ∷ xs) r = omega (arith, length-append x.space (x.bytes ++ bytes_of xs r), length-append x.bytes (bytes_of xs r), bytes_longer xs r)

-- ---- a fault at its place

abbrev Outcome : List ℕ → Type 0
Outcome text = ((q : Level) × TextSpells text q) ⊎ ((at : ℕ) × PqlBad text at)

fault : (text : List ℕ) (ts : List Token) (rest : List ℕ) → BeginsWith text ts rest → Begins ts → Stops ts rest → Outcome text
fault text ts rest b g s = inr (length text - length rest, record { tokens = ts; rest = rest; begins_with = b; place = placed; begins = g; stops = s })
  where
    placed : length text ≡ (length text - length rest) + length rest
    placed = omega (arith, ap length b.text_is, bytes_longer b.spelt (b.space ++ rest), length-append b.space rest)

module _ (text : List ℕ) (c : Cut 0 text) where
  whole : BeginsWith text (tokens_of c.spelt) c.rest
  whole = record { spelt = c.spelt; space = c.space; are_spelt = c.are_spelt; is_space = c.is_space; is_no_space = c.is_no_space; text_is = c.text_is; tokens_are = refl }

  no_more : (bytes r : List ℕ) (t : Token) → Spells (length (tokens_of c.spelt)) bytes t → c.rest ≡ bytes ++ r → ⊥
  no_more bytes r t s e = c.no_more (length (tokens_of c.spelt)) bytes r t (omega arith) s e

  -- the tokens begin a query: behind them the text ends, or no token begins
  behind_all : (rest : List ℕ) → c.rest ≡ rest → Begins (tokens_of c.spelt) → (rest ≡ [] → Outcome text) → Outcome text
  behind_all [] e b ends = ends refl
  behind_all (x ∷ rest) e b ends = fault text (tokens_of c.spelt) c.rest whole b (at_no_token (λ h. never x rest (sym e ∙ h)) no_more)
    where
      never : (x : ℕ) (xs : List ℕ) → x ∷ xs ≡ [] → ⊥
      never x xs h = cc

  at_token_of : (k : ℕ) → BadAt (tokens_of c.spelt) k → k < length (tokens_of c.spelt) → Parted c.spelt k → Outcome text
  at_token_of k h l p = fault text (tokens_of p.before) (p.item.bytes ++ bytes_of p.after (c.space ++ c.rest)) begins_with (subst Begins front h.begins) (at_token p.item.bytes (bytes_of p.after (c.space ++ c.rest)) p.item.token mine.1 refl (λ g. h.longest l (subst Begins (sym longer) g)))
    where
      parts : AreSpelt 0 (p.before ++ p.item ∷ p.after) (c.space ++ c.rest)
      parts = subst (λ x. AreSpelt 0 x (c.space ++ c.rest)) p.list_is c.are_spelt

      mine : AreSpelt (length (tokens_of p.before)) (p.item ∷ p.after) (c.space ++ c.rest)
      mine = after_spelt 0 (length (tokens_of p.before)) p.before (p.item ∷ p.after) (c.space ++ c.rest) (omega arith) parts

      begins_with : BeginsWith text (tokens_of p.before) (p.item.bytes ++ bytes_of p.after (c.space ++ c.rest))
      begins_with = record {
        spelt = p.before;
        space = p.item.space;
        are_spelt = before_spelt 0 p.before (p.item ∷ p.after) (c.space ++ c.rest) parts;
        is_space = mine.0;
        is_no_space = no_space p.item.bytes (bytes_of p.after (c.space ++ c.rest)) (dark (length (tokens_of p.before)) p.item.bytes p.item.token mine.1.spells);
        text_is = c.text_is ∙ ap (λ x. bytes_of x (c.space ++ c.rest)) p.list_is ∙ append_bytes p.before (p.item ∷ p.after) (c.space ++ c.rest);
        tokens_are = refl;
      }

      tokens_are : tokens_of c.spelt ≡ tokens_of p.before ++ p.item.token ∷ tokens_of p.after
      tokens_are = ap tokens_of p.list_is ∙ append_tokens p.before (p.item ∷ p.after)

      front : take k (tokens_of c.spelt) ≡ tokens_of p.before
      front = (λ i. take (p.place i) (tokens_are i)) ∙ take-front (tokens_of p.before) (p.item.token ∷ tokens_of p.after)

      longer : take (k + 1) (tokens_of c.spelt) ≡ tokens_of p.before ++ p.item.token ∷ []
      longer = (λ i. take (p.place i + 1) (tokens_are i)) ∙ take-one (tokens_of p.before) p.item.token (tokens_of p.after)

  all_of_them : (k : ℕ) → BadAt (tokens_of c.spelt) k → k ≡ length (tokens_of c.spelt) → Begins (tokens_of c.spelt)
  all_of_them k h e = subst Begins ((λ i. take (e i) (sym (append-nil (tokens_of c.spelt)) i)) ∙ take-front (tokens_of c.spelt) []) h.begins

  ended : (k : ℕ) → BadAt (tokens_of c.spelt) k → (k ≡ length (tokens_of c.spelt)) ⊎ (k < length (tokens_of c.spelt)) → Outcome text
  ended k h (inl e) = behind_all c.rest refl (all_of_them k h e)
      (λ n. fault text (tokens_of c.spelt) c.rest whole (all_of_them k h e) (at_end n (h.whole e)))
  ended k h (inr l) = at_token_of k h l (parted c.spelt k l)

  outcome : (v : Verdict) → Means (tokens_of c.spelt) v → Outcome text
  outcome (spelled q) s = behind_all c.rest refl (spelt_begins (tokens_of c.spelt) q s)
      (λ n. inl (q, record { tokens = tokens_of c.spelt; begins_with = subst (λ x. BeginsWith text (tokens_of c.spelt) x) n whole; spells = s }))
  outcome (verdict.bad k) h = ended k h (eq-or-lt_of_le h.inside)

outcome_of : (text : List ℕ) → Outcome text
outcome_of text =
    let c = cut (length text) 0 text (omega arith) in
    outcome text c (verdict.verdict most_depth start 0 (tokens_of c.spelt)) (verdict_means (tokens_of c.spelt))

short_answer : (text : List ℕ) → length text ≤ most_query → Outcome text → (answer : Answer) × AnswerOf text answer
short_answer text l (inl s) = (checked s.0, spelt s.0 l s.1 refl)
short_answer text l (inr b) = (Err (pql_bad b.0), bad b.0 l b.1 refl)

by_length : (text : List ℕ) (b : Bool) → nat_le (length text) most_query ≡ b → (answer : Answer) × AnswerOf text answer
by_length text true e = short_answer text (fits (length text) e) (outcome_of text)
  where
    fits : (m : ℕ) → nat_le m most_query ≡ true → m ≤ most_query
    fits m h = grind arith
by_length text false e = (Err too_long, long (over (length text) e) refl)
  where
    over : (m : ℕ) → nat_le m most_query ≡ false → most_query < m
    over m h = grind arith

pub some_answer : TextsHaveSomeAnswer
some_answer text = by_length text (nat_le (length text) most_query) refl
