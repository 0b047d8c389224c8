-- Each text is cut into its longest tokens, as far as they go.
use Rattle.std.proofs.Common.{◌≡◌, ◌∙◌, ◌⊎◌, inl, inr, ◌<◌, ◌≤◌, ◌+◌, ℕ, zero, suc, List, [], ◌∷◌, ◌++◌, length, take, drop, ◌||◌, ◌==◌, refl, sym, ap, subst, arith}
use Rattle.std.proofs.Math.Nat.{eq-or-lt_of_le}
use Rattle.std.proofs.Math.Seq.{take-append_seam}
use Rattle.std.proofs.lemmas.List.{take-append-drop, length-take-le, length-append}
use Rattle.pql_spec.specs.text_spec.JsonText.{IsSpace, IsSpaceByte}
use Rattle.pql_spec.specs.declared.token.Token.{Token}
use Rattle.pql_spec.specs.Tokens.{Spells}
use Rattle.pql_spec.specs.Texts.{Spelt, bytes_of, tokens_of, IsLongest, AreSpelt, IsNoSpace}
use Rattle.pql_spec.proofs.OneList.{no_token}
use Rattle.pql_machine.proofs.Recognized.{Decided, by_test, Spelled, spelled}

-- ---- the longest token that bytes begin with

record Front (n : ℕ) (bytes : List ℕ) : Type 0 where
  pub front : List ℕ
  pub behind : List ℕ
  pub token : Token
  pub longest : IsLongest n front token behind
  pub bytes_are : bytes ≡ front ++ behind

abbrev Fronts : ℕ → List ℕ → Type 0
Fronts n bytes = Front n bytes ⊎ ((b r : List ℕ) (t : Token) → Spells n b t → bytes ≡ b ++ r → ⊥)

abbrev NoLonger : ℕ → List ℕ → ℕ → Type 0
NoLonger n bytes m = (b r : List ℕ) (t : Token) → Spells n b t → bytes ≡ b ++ r → length b ≤ m

some_length : (n : ℕ) (b : List ℕ) (t : Token) → Spells n b t → 1 ≤ length b
some_length n [] t s = absurd (no_token n [] [] t s refl)
some_length n (x ∷ b) t s = omega arith

one_less : (n : ℕ) (bytes : List ℕ) (m : ℕ) → (Spelled n (take (suc m) bytes) → ⊥) → NoLonger n bytes (suc m) → NoLonger n bytes m
one_less n bytes m fails h b r t s e = cases (eq-or-lt_of_le (h b r t s e))
  where
    cases : (length b ≡ suc m) ⊎ (length b < suc m) → length b ≤ m
    cases (inl l) = absurd (fails (t, subst (λ x. Spells n x t) (sym (take-append_seam b r) ∙ (λ i. take (l i) (sym e i))) s))
    cases (inr l) = omega (arith, l)

pick : (n : ℕ) (bytes : List ℕ) (m : ℕ) → suc m ≤ length bytes → NoLonger n bytes (suc m) → Decided (Spelled n (take (suc m) bytes)) → (NoLonger n bytes m → Fronts n bytes) → Fronts n bytes
pick n bytes m l h (inl s) more = inl (record {
  front = take (suc m) bytes;
  behind = drop (suc m) bytes;
  token = s.0;
  longest = record {
    spells = s.1;
    longest = λ longer rest u x e. subst (λ k. length longer ≤ k) (sym (length-take-le (suc m) bytes l)) (h longer rest u x (sym (take-append-drop (suc m) bytes) ∙ e));
  };
  bytes_are = sym (take-append-drop (suc m) bytes);
})
pick n bytes m l h (inr fails) more = more (one_less n bytes m fails h)

longest_at : (n : ℕ) (bytes : List ℕ) (m : ℕ) → m ≤ length bytes → NoLonger n bytes m → Fronts n bytes
longest_at n bytes zero l h = inr (λ b r t s e. absurd (omega (arith, h b r t s e, some_length n b t s)))
longest_at n bytes (suc m) l h = pick n bytes m l h (spelled n (take (suc m) bytes)) (λ g. longest_at n bytes m (omega (arith, l)) g)

fronts : (n : ℕ) (bytes : List ℕ) → Fronts n bytes
fronts n bytes = longest_at n bytes (length bytes) (omega arith) (λ b r t s e. omega (arith, ap length e, length-append b r))

-- ---- white space

record Led (text : List ℕ) : Type 0 where
  pub space : List ℕ
  pub rest : List ℕ
  pub is_space : IsSpace space
  pub is_no_space : IsNoSpace rest
  pub text_is : text ≡ space ++ rest

led_by : (b : ℕ) (bs : List ℕ) → Decided (IsSpaceByte b) → Led bs → Led (b ∷ bs)
led_by b bs (inl h) d = record { space = b ∷ d.space; rest = d.rest; is_space = (h, d.is_space); is_no_space = d.is_no_space; text_is = λ i. b ∷ d.text_is i }
led_by b bs (inr h) d = record { space = []; rest = b ∷ bs; is_space = tt; is_no_space = h; text_is = refl }

led : (text : List ℕ) → Led text
led [] = record { space = []; rest = []; is_space = tt; is_no_space = tt; text_is = refl }
led (b ∷ bs) = led_by b bs (by_test ((b == 32) || (b == 9) || (b == 10) || (b == 13)) (λ h. h) (λ h. h)) (led bs)

-- ---- the list of tokens

-- tokens from number n on, and behind them what begins none
pub record Cut (n : ℕ) (text : List ℕ) : Type 0 where
  pub spelt : List Spelt
  pub space : List ℕ
  pub rest : List ℕ
  pub are_spelt : AreSpelt n spelt (space ++ rest)
  pub is_space : IsSpace space
  pub is_no_space : IsNoSpace rest
  pub text_is : text ≡ bytes_of spelt (space ++ rest)
  pub no_more : (number : ℕ) (bytes r : List ℕ) (t : Token) → number ≡ n + length (tokens_of spelt) → Spells number bytes t → rest ≡ bytes ++ r → ⊥

cut_on : (n : ℕ) (text : List ℕ) (d : Led text) → Fronts n d.rest → ((m : ℕ) (more : List ℕ) → length more < length text → Cut m more) → Cut n text
cut_on n text d (inr fails) more = record {
  spelt = [];
  space = d.space;
  rest = d.rest;
  are_spelt = tt;
  is_space = d.is_space;
  is_no_space = d.is_no_space;
  text_is = d.text_is;
  no_more = λ number bytes r t k s e. fails bytes r t (subst (λ x. Spells x bytes t) (same number k) s) e;
}
  where
    same : (number : ℕ) → number ≡ n + 0 → number ≡ n
    same number k = omega (arith, k)
cut_on n text d (inl f) more = joined (more (suc n) f.behind (omega (arith, ap length d.text_is, length-append d.space d.rest, ap length f.bytes_are, length-append f.front f.behind, some_length n f.front f.token f.longest.spells)))
  where
    next : (c : Cut (suc n) f.behind) (number : ℕ) → number ≡ n + suc (length (tokens_of c.spelt)) → number ≡ suc n + length (tokens_of c.spelt)
    next c number k = omega (arith, k)

    joined : Cut (suc n) f.behind → Cut n text
    joined c = record {
      spelt = record { space = d.space; bytes = f.front; token = f.token } ∷ c.spelt;
      space = c.space;
      rest = c.rest;
      are_spelt = (d.is_space, subst (IsLongest n f.front f.token) c.text_is f.longest, c.are_spelt);
      is_space = c.is_space;
      is_no_space = c.is_no_space;
      text_is = d.text_is ∙ ap (λ x. d.space ++ x) (f.bytes_are ∙ ap (λ x. f.front ++ x) c.text_is);
      no_more = λ number bytes r t k s e. c.no_more number bytes r t (next c number k) s e;
    }

pub cut : (fuel n : ℕ) (text : List ℕ) → length text ≤ fuel → Cut n text
cut zero n text l = cut_on n text (led text) (fronts n (led text).rest) (λ m more h. absurd (omega (arith, h, l)))
cut (suc fuel) n text l = cut_on n text (led text) (fronts n (led text).rest) (λ m more h. cut fuel m more (omega (arith, h, l)))
