-- Characters and their bytes in UTF-8: the bytes of a character by its size, and the sequences that are characters.
use Rattle.std.proofs.Common.{◌≡◌, ◌∙◌, ◌⊎◌, inl, inr, ⊎_elim, ℕ, ◌+◌, ◌-◌, ◌*◌, ◌/◌, ◌%◌, ◌<◌, ◌≤◌, List, [], ◌∷◌, refl, ap, arith}
use Rattle.std.specs.Char.{encode_utf8, IsScalar}
use Rattle.std.proofs.Math.Nat.{div-add-mod, mod-lt}
use Rattle.std.proofs.lemmas.Bool.{cases_lt}
use Rattle.json_machine.proofs.Cases.{lt_true, lt_false, le_true}

-- the bytes of a character of two, three and four
pub encode_2 : (c : ℕ) → 128 ≤ c → c < 2048 → encode_utf8 c ≡ (192 + c / 64) ∷ (128 + c % 64) ∷ []
unfolding encode_utf8
encode_2 c l u = rw (lt_false c 128 l, lt_true c 2048 u) refl

pub encode_3 : (c : ℕ) → 2048 ≤ c → c < 65_536 → encode_utf8 c ≡ (224 + c / 4096) ∷ (128 + (c / 64) % 64) ∷ (128 + c % 64) ∷ []
unfolding encode_utf8
encode_3 c l u = rw (lt_false c 128 (omega arith), lt_false c 2048 l, lt_true c 65_536 u) refl

pub encode_4 : (c : ℕ) → 65_536 ≤ c → encode_utf8 c ≡ (240 + c / 262_144) ∷ (128 + (c / 4096) % 64) ∷ (128 + (c / 64) % 64) ∷ (128 + c % 64) ∷ []
unfolding encode_utf8
encode_4 c l = rw (lt_false c 128 (omega arith), lt_false c 2048 (omega arith), lt_false c 65_536 l) refl

-- the parts of a character, as bounds: c is 64 * q + m, q is 64 * p + k, and so on
pub record Split (c q m : ℕ) : Type 0 where
  pub sum : 64 * q + m ≡ c
  pub small : m < 64

pub split : (c : ℕ) → Split c (c / 64) (c % 64)
split c = record { sum = div-add-mod c 64; small = mod-lt c (omega arith) }

pub low_scalar : (c : ℕ) → c < 55_296 → IsScalar c
low_scalar c h = rw (lt_true c 55_296 h) refl

pub high_scalar : (c : ℕ) → 57_344 ≤ c → c < 1_114_112 → IsScalar c
high_scalar c l u = rw (lt_false c 55_296 (omega arith), le_true 57_344 c l, lt_true c 1_114_112 u) refl

-- ---- digits of base 64

-- a number in base 64 by its digits
base : (q m : ℕ) → m < 64 → ((q * 64 + m) / 64 ≡ q) × ((q * 64 + m) % 64 ≡ m)
base q m h =
    let a = split (q * 64 + m) in
    (omega (arith, a.sum, a.small), omega (arith, a.sum, a.small))

by_4096 : (c : ℕ) → c / 4096 ≡ c / 64 / 64
by_4096 c =
    let a = split c in
    let b = split (c / 64) in
    let d : 4096 * (c / 4096) + c % 4096 ≡ c = div-add-mod c 4096 in
    let e : c % 4096 < 4096 = mod-lt c (omega arith) in
    omega (arith, a.sum, a.small, b.sum, b.small, d, e)

by_262144 : (c : ℕ) → c / 262_144 ≡ c / 64 / 64 / 64
by_262144 c =
    let a = split c in
    let b = split (c / 64) in
    let k = split (c / 64 / 64) in
    let d : 262_144 * (c / 262_144) + c % 262_144 ≡ c = div-add-mod c 262_144 in
    let e : c % 262_144 < 262_144 = mod-lt c (omega arith) in
    omega (arith, a.sum, a.small, b.sum, b.small, k.sum, k.small, d, e)

-- at digits p, q, m of base 64
encodes_2 : (q m : ℕ) → m < 64 → 2 ≤ q → q < 32 → encode_utf8 (q * 64 + m) ≡ (192 + q) ∷ (128 + m) ∷ []
encodes_2 q m h l u =
    let a = base q m h in
    encode_2 (q * 64 + m) (omega arith) (omega arith) ∙ (λ i. (192 + a.0 i) ∷ (128 + a.1 i) ∷ [])

encodes_3 : (p q m : ℕ) → m < 64 → q < 64 → p < 16 → 32 ≤ p * 64 + q → encode_utf8 ((p * 64 + q) * 64 + m) ≡ (224 + p) ∷ (128 + q) ∷ (128 + m) ∷ []
encodes_3 p q m hm hq hp l =
    let a = base (p * 64 + q) m hm in
    let b = base p q hq in
    let lead : ((p * 64 + q) * 64 + m) / 4096 ≡ p = by_4096 _ ∙ ap (λ x. x / 64) a.0 ∙ b.0 in
    let mid : ((p * 64 + q) * 64 + m) / 64 % 64 ≡ q = ap (λ x. x % 64) a.0 ∙ b.1 in
    encode_3 ((p * 64 + q) * 64 + m) (omega arith) (omega arith) ∙ (λ i. (224 + lead i) ∷ (128 + mid i) ∷ (128 + a.1 i) ∷ [])

encodes_4 : (o p q m : ℕ) → m < 64 → q < 64 → p < 64 → 16 ≤ o * 64 + p → encode_utf8 (((o * 64 + p) * 64 + q) * 64 + m) ≡ (240 + o) ∷ (128 + p) ∷ (128 + q) ∷ (128 + m) ∷ []
encodes_4 o p q m hm hq hp l =
    let a = base ((o * 64 + p) * 64 + q) m hm in
    let b = base (o * 64 + p) q hq in
    let k = base o p hp in
    let c = ((o * 64 + p) * 64 + q) * 64 + m in
    let lead : c / 262_144 ≡ o = by_262144 c ∙ ap (λ x. x / 64 / 64) a.0 ∙ ap (λ x. x / 64) b.0 ∙ k.0 in
    let one : c / 4096 % 64 ≡ p = ap (λ x. x % 64) (by_4096 c ∙ ap (λ x. x / 64) a.0 ∙ b.0) ∙ k.1 in
    let two : c / 64 % 64 ≡ q = ap (λ x. x % 64) a.0 ∙ b.1 in
    encode_4 c (omega arith) ∙ (λ i. (240 + lead i) ∷ (128 + one i) ∷ (128 + two i) ∷ (128 + a.1 i) ∷ [])

-- ---- sequences that are characters

-- these bytes are a character
pub record IsCharacter (bs : List ℕ) : Type 0 where
  pub code : ℕ
  pub scalar : IsScalar code
  pub high : 128 ≤ code
  pub bytes : encode_utf8 code ≡ bs

pub two : (b x : ℕ) → 194 ≤ b → b < 224 → 128 ≤ x → x ≤ 191 → IsCharacter (b ∷ x ∷ [])
two b x l u xl xu =
    let first : 192 + (b - 192) ≡ b = omega arith in
    let second : 128 + (x - 128) ≡ x = omega arith in
    record {
      code = (b - 192) * 64 + (x - 128);
      scalar = low_scalar ((b - 192) * 64 + (x - 128)) (omega arith);
      high = omega arith;
      bytes = encodes_2 (b - 192) (x - 128) (omega arith) (omega arith) (omega arith) ∙ (λ i. first i ∷ second i ∷ []);
    }

three_scalar : (b x y : ℕ) → 224 ≤ b → b < 240 → 128 ≤ x → x ≤ 191 → 128 ≤ y → y ≤ 191 → (b ≡ 237 → x ≤ 159) → ((((b - 224) * 64 + (x - 128)) * 64 + (y - 128)) < 55_296) ⊎ (57_344 ≤ ((b - 224) * 64 + (x - 128)) * 64 + (y - 128)) → IsScalar (((b - 224) * 64 + (x - 128)) * 64 + (y - 128))
three_scalar b x y l u xl xu yl yu ed h = ⊎_elim (λ a. low_scalar _ a) (λ a. high_scalar _ a (omega arith)) h

three_apart : (b x y : ℕ) → 224 ≤ b → b < 240 → 128 ≤ x → x ≤ 191 → 128 ≤ y → y ≤ 191 → (b ≡ 237 → x ≤ 159) → ((((b - 224) * 64 + (x - 128)) * 64 + (y - 128)) < 55_296) ⊎ (57_344 ≤ ((b - 224) * 64 + (x - 128)) * 64 + (y - 128))
three_apart b x y l u xl xu yl yu ed = elim (cases_lt b 237) [
  | inl a ↦ inl (omega arith)
  | inr a ↦ elim (cases_lt b 238) [
    | inl c ↦ let is : b ≡ 237 = omega arith in let small = ed is in inl (omega (arith, is, small))
    | inr c ↦ inr (omega arith)
  ]
]

pub three : (b x y : ℕ) → 224 ≤ b → b < 240 → 128 ≤ x → x ≤ 191 → 128 ≤ y → y ≤ 191 → (b ≡ 224 → 160 ≤ x) → (b ≡ 237 → x ≤ 159) → IsCharacter (b ∷ x ∷ y ∷ [])
three b x y l u xl xu yl yu e0 ed =
    let first : 224 + (b - 224) ≡ b = omega arith in
    let second : 128 + (x - 128) ≡ x = omega arith in
    let third : 128 + (y - 128) ≡ y = omega arith in
    let big : 32 ≤ (b - 224) * 64 + (x - 128) = elim (cases_lt 224 b) [ inl a ↦ omega arith | inr a ↦ let is : b ≡ 224 = omega arith in let low = e0 is in omega (arith, low) ] in
    record {
      code = ((b - 224) * 64 + (x - 128)) * 64 + (y - 128);
      scalar = three_scalar b x y l u xl xu yl yu ed (three_apart b x y l u xl xu yl yu ed);
      high = omega (arith, big);
      bytes = encodes_3 (b - 224) (x - 128) (y - 128) (omega arith) (omega arith) (omega arith) big ∙ (λ i. first i ∷ second i ∷ third i ∷ []);
    }

pub four : (b x y z : ℕ) → 240 ≤ b → b ≤ 244 → 128 ≤ x → x ≤ 191 → 128 ≤ y → y ≤ 191 → 128 ≤ z → z ≤ 191 → (b ≡ 240 → 144 ≤ x) → (b ≡ 244 → x ≤ 143) → IsCharacter (b ∷ x ∷ y ∷ z ∷ [])
four b x y z l u xl xu yl yu zl zu f0 f4 =
    let first : 240 + (b - 240) ≡ b = omega arith in
    let second : 128 + (x - 128) ≡ x = omega arith in
    let third : 128 + (y - 128) ≡ y = omega arith in
    let fourth : 128 + (z - 128) ≡ z = omega arith in
    let big : 16 ≤ (b - 240) * 64 + (x - 128) = elim (cases_lt 240 b) [ inl a ↦ omega arith | inr a ↦ let is : b ≡ 240 = omega arith in let low = f0 is in omega (arith, low) ] in
    let small : (b - 240) * 64 + (x - 128) < 272 = elim (cases_lt b 244) [ inl a ↦ omega arith | inr a ↦ let is : b ≡ 244 = omega arith in let low = f4 is in omega (arith, low) ] in
    record {
      code = (((b - 240) * 64 + (x - 128)) * 64 + (y - 128)) * 64 + (z - 128);
      scalar = high_scalar ((((b - 240) * 64 + (x - 128)) * 64 + (y - 128)) * 64 + (z - 128)) (omega (arith, big)) (omega (arith, small));
      high = omega (arith, big);
      bytes = encodes_4 (b - 240) (x - 128) (y - 128) (z - 128) (omega arith) (omega arith) (omega arith) big ∙ (λ i. first i ∷ second i ∷ third i ∷ fourth i ∷ []);
    }
