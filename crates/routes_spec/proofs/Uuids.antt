-- Hexadecimal digits tell their number.
use Rattle.std.proofs.Common.{◌≡◌, ◌∙◌, ℕ, zero, suc, ◌+◌, ◌/◌, ◌%◌, ◌^◌, ◌<◌, List, [], ◌∷◌, ◌++◌, length, refl, sym, ap, arith, pow-suc}
use Rattle.std.specs.Prelude.{codes}
use Rattle.std.proofs.lemmas.List.{length-append}
use Rattle.routes_spec.specs.Answers.{hex_digit, hex_digits, uuid_text}

-- two joined lists whose second parts are of one length
split_at : (xs ys : List ℕ) (vs ws : List ℕ) → length xs ≡ length ys → xs ++ vs ≡ ys ++ ws → (xs ≡ ys) × (vs ≡ ws)
split_at [] [] vs ws l h = (refl, h)
split_at [] (y ∷ ys) vs ws l h = absurd (omega (arith, l))
split_at (x ∷ xs) [] vs ws l h = absurd (omega (arith, l))
split_at (x ∷ xs) (y ∷ ys) vs ws l h =
    let rest = split_at xs ys vs ws (omega (arith, l)) (tails h) in
    (heads h rest.0, rest.1)
  where
    tails : x ∷ (xs ++ vs) ≡ y ∷ (ys ++ ws) → xs ++ vs ≡ ys ++ ws
    tails h = cc

    heads : x ∷ (xs ++ vs) ≡ y ∷ (ys ++ ws) → xs ≡ ys → x ∷ xs ≡ y ∷ ys
    heads h rest = cc

one_digit : (d e : ℕ) → hex_digit d ≡ hex_digit e → d < 16 → e < 16 → d ≡ e
one_digit d e h p q = grind (arith, h, p, q)

length-hex : (count n : ℕ) → length (hex_digits count n) ≡ count
length-hex zero n = refl
length-hex (suc count) n =
    let before = length-hex count (n / 16) in
    let all = length-append (hex_digits count (n / 16)) (hex_digit (n % 16) ∷ []) in
    omega (arith, before, all)

digits_tell : (count m n : ℕ) → m < 16 ^ count → n < 16 ^ count → hex_digits count m ≡ hex_digits count n → m ≡ n
digits_tell zero m n p q h = omega (arith, p, q)
digits_tell (suc count) m n p q h =
    let parts = split_at (hex_digits count (m / 16)) (hex_digits count (n / 16)) (hex_digit (m % 16) ∷ []) (hex_digit (n % 16) ∷ [])
    (length-hex count (m / 16) ∙ sym (length-hex count (n / 16))) h in
    let power = pow-suc 16 count in
    let front = digits_tell count (m / 16) (n / 16) (omega (arith, p, power)) (omega (arith, q, power)) parts.0 in
    let last = one_digit (m % 16) (n % 16) (first parts.1) (omega arith) (omega arith) in
    omega (arith, front, last)
  where
    first : hex_digit (m % 16) ∷ [] ≡ hex_digit (n % 16) ∷ [] → hex_digit (m % 16) ≡ hex_digit (n % 16)
    first h = cc

pub uuid_tells : (r s : ℕ) → r < 2 ^ 64 → s < 2 ^ 64 → uuid_text r ≡ uuid_text s → r ≡ s
uuid_tells r s p q h =
    let middle = codes "-0000-8000-8000-0000" in
    let high = hex_digits 8 (r / 2 ^ 32) in
    let other = hex_digits 8 (s / 2 ^ 32) in
    let same_high = length-hex 8 (r / 2 ^ 32) ∙ sym (length-hex 8 (s / 2 ^ 32)) in
    let outer = split_at (high ++ middle) (other ++ middle) (hex_digits 8 (r % 2 ^ 32)) (hex_digits 8 (s % 2 ^ 32))
    (length-append high middle ∙ ap (λ n. n + length middle) same_high ∙ sym (length-append other middle)) h in
    let inner = split_at high other middle middle same_high outer.0 in
    let first = digits_tell 8 (r / 2 ^ 32) (s / 2 ^ 32) (omega (arith, p)) (omega (arith, q)) inner.0 in
    let rest = digits_tell 8 (r % 2 ^ 32) (s % 2 ^ 32) (omega arith) (omega arith) outer.1 in
    omega (arith, first, rest)
