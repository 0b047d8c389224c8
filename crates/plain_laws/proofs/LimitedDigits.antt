-- Digits one by one, of a number that is cut off at a limit.
use Rattle.std.proofs.Common.{◌≡◌, ◌∙◌, ◌⊎◌, inl, inr, ℕ, ◌+◌, ◌*◌, ◌-◌, ◌≤◌, ◌<◌, List, [], ◌∷◌, length, drop, get_or, min, arith, sym, ap, true}
use Rattle.std.specs.List.{list_all}
use Rattle.std.specs.Char.{digit_value, is_ascii_digit}
use Rattle.std.specs.Str.Parse.{digits_value_after}
use Rattle.std.proofs.lemmas.List.{drop_more}
use Rattle.plain_laws.proofs.Booleans.{both_true}

grows : (digits : List ℕ) (n : ℕ) → n ≤ digits_value_after 10 n digits
grows [] n = omega arith
grows (c ∷ digits) n = let more = grows digits (n * 10 + digit_value c) in omega (arith, more)

digit_value-of : (d : ℕ) → is_ascii_digit d ≡ true → digit_value d ≡ d - 48
digit_value-of d h = grind (arith, h)

pub still_digits : (digits : List ℕ) (i : ℕ) → i < length digits → list_all is_ascii_digit (drop i digits) ≡ true
    → (is_ascii_digit (get_or digits i 0) ≡ true) × (list_all is_ascii_digit (drop (i + 1) digits) ≡ true)
still_digits digits i inside h =
    both_true (is_ascii_digit (get_or digits i 0)) (list_all is_ascii_digit (drop (i + 1) digits)) (ap (list_all is_ascii_digit) (sym (drop_more digits i 0 inside)) ∙ h)

-- f gives the same of all numbers from the limit on
module _ {X : Type 0} (f : ℕ → X) (limit : ℕ) (past : (n : ℕ) → limit ≤ n → f n ≡ f limit) where
  -- so once a number is at the limit, how far above doesn't count
  capped : (digits : List ℕ) (n : ℕ) → f (digits_value_after 10 (min n limit) digits) ≡ f (digits_value_after 10 n digits)
  capped digits n = by_size (compared n)
    where
      compared : (n : ℕ) → (n ≤ limit) ⊎ (limit ≤ n)
      compared n = grind arith

      by_size : (n ≤ limit) ⊎ (limit ≤ n) → f (digits_value_after 10 (min n limit) digits) ≡ f (digits_value_after 10 n digits)
      by_size (inl small) = let same : min n limit ≡ n = grind arith in ap (λ m. f (digits_value_after 10 m digits)) same
      by_size (inr large) =
          let most : min n limit ≡ limit = grind arith in
          let first = grows digits (min n limit) in
          let second = grows digits n in
          past (digits_value_after 10 (min n limit) digits) (omega (arith, first, most)) ∙ sym (past (digits_value_after 10 n digits) (omega (arith, second, large)))

  -- one digit more
  pub one_digit : (digits : List ℕ) (i d number : ℕ) → i < length digits → d ≡ get_or digits i 0 → list_all is_ascii_digit (drop i digits) ≡ true
      → f (digits_value_after 10 (min (number * 10 + (d - 48)) limit) (drop (i + 1) digits)) ≡ f (digits_value_after 10 number (drop i digits))
  one_digit digits i d number inside is h =
      let more : drop i digits ≡ d ∷ drop (i + 1) digits = drop_more digits i 0 inside ∙ ap (λ x. x ∷ drop (i + 1) digits) (sym is) in
      let both = both_true (is_ascii_digit d) (list_all is_ascii_digit (drop (i + 1) digits)) (ap (list_all is_ascii_digit) (sym more) ∙ h) in
      capped (drop (i + 1) digits) (number * 10 + (d - 48))
      ∙ ap (λ n. f (digits_value_after 10 (number * 10 + n) (drop (i + 1) digits))) (sym (digit_value-of d both.0))
      ∙ ap (λ xs. f (digits_value_after 10 number xs)) (sym more)
