-- The text of a receipt's uuid.
use Rattle.std.proofs.Common.{◌≡◌, ◌∙◌, ℕ, suc, ◌+◌, ◌-◌, ◌/◌, ◌%◌, ◌^◌, List, [], ◌∷◌, ◌++◌, refl, sym, ap, arith, Bool, true, false, if◌then◌else◌, append_assoc}
use Rattle.std.specs.Prelude.{codes, nat_lt}
use Rattle.std.specs.Int.{byte_at}
use Rattle.uuid.proofs.OnLiterals.{uuid_on_literals}
use Rattle.uuid.specs.Text as uuid
use Rattle.routes_spec.specs.Answers.{hex_digit, hex_digits, uuid_text, uuid_body}
use Rattle.http_routes.specs.Uuids.{uuid_bytes}

same_if : (b : Bool) (d : ℕ) → (if b then 48 + d else 87 + d) ≡ (if b then 48 + d else 97 + d - 10)
same_if true d = refl
same_if false d = omega arith

same_digit : (d : ℕ) → hex_digit d ≡ uuid.hex_digit 97 d
same_digit d = same_if (nat_lt d 10) d

-- the two digits of a byte
abbrev pair : ℕ → List ℕ
pair b = uuid.hex_digit 97 ((b / 16) % 16) ∷ uuid.hex_digit 97 (b % 16) ∷ []

by_sixteens : (n : ℕ) → (n / 16) / 16 ≡ n / 256
by_sixteens n = omega arith

high_part : (n : ℕ) → (n / 16) % 16 ≡ ((n % 256) / 16) % 16
high_part n = omega arith

low_part : (n : ℕ) → n % 16 ≡ (n % 256) % 16
low_part n = omega arith

two_digits : (count n : ℕ) → hex_digits (suc (suc count)) n ≡ hex_digits count (n / 256) ++ pair (n % 256)
two_digits count n =
    let first : hex_digit ((n / 16) % 16) ≡ uuid.hex_digit 97 (((n % 256) / 16) % 16) = ap hex_digit (high_part n) ∙ same_digit (((n % 256) / 16) % 16) in
    let second : hex_digit (n % 16) ≡ uuid.hex_digit 97 ((n % 256) % 16) = ap hex_digit (low_part n) ∙ same_digit ((n % 256) % 16) in
    append_assoc (hex_digits count ((n / 16) / 16)) (hex_digit ((n / 16) % 16) ∷ []) (hex_digit (n % 16) ∷ [])
    ∙ (λ i. hex_digits count (by_sixteens n i) ++ first i ∷ second i ∷ [])

-- the digits of four bytes
abbrev bytes_text : ℕ → ℕ → ℕ → ℕ → List ℕ
bytes_text a b c d = ((([] ++ pair a) ++ pair b) ++ pair c) ++ pair d

eight_digits : (n : ℕ) → hex_digits 8 n ≡ bytes_text ((((n / 256) / 256) / 256) % 256) (((n / 256) / 256) % 256) ((n / 256) % 256) (n % 256)
eight_digits n =
    two_digits 6 n
    ∙ ap (λ xs. xs ++ pair (n % 256)) (two_digits 4 (n / 256)
    ∙ ap (λ xs. xs ++ pair ((n / 256) % 256)) (two_digits 2 ((n / 256) / 256)
    ∙ ap (λ xs. xs ++ pair (((n / 256) / 256) % 256)) (two_digits 0 (((n / 256) / 256) / 256))))

high_bytes : (r : ℕ) → hex_digits 8 (r / 2 ^ 32) ≡ bytes_text (byte_at 7 r) (byte_at 6 r) (byte_at 5 r) (byte_at 4 r)
high_bytes r =
    let a : ((((r / 2 ^ 32) / 256) / 256) / 256) % 256 ≡ byte_at 7 r = omega arith in
    let b : (((r / 2 ^ 32) / 256) / 256) % 256 ≡ byte_at 6 r = omega arith in
    let c : ((r / 2 ^ 32) / 256) % 256 ≡ byte_at 5 r = omega arith in
    let d : (r / 2 ^ 32) % 256 ≡ byte_at 4 r = omega arith in
    eight_digits (r / 2 ^ 32) ∙ (λ i. bytes_text (a i) (b i) (c i) (d i))

low_bytes : (r : ℕ) → hex_digits 8 (r % 2 ^ 32) ≡ bytes_text (byte_at 3 r) (byte_at 2 r) (byte_at 1 r) (byte_at 0 r)
low_bytes r =
    let a : ((((r % 2 ^ 32) / 256) / 256) / 256) % 256 ≡ byte_at 3 r = omega arith in
    let b : (((r % 2 ^ 32) / 256) / 256) % 256 ≡ byte_at 2 r = omega arith in
    let c : ((r % 2 ^ 32) / 256) % 256 ≡ byte_at 1 r = omega arith in
    let d : (r % 2 ^ 32) % 256 ≡ byte_at 0 r = omega arith in
    eight_digits (r % 2 ^ 32) ∙ (λ i. bytes_text (a i) (b i) (c i) (d i))

pub uuid_text_is : (r : ℕ) → uuid.hyphenated_text uuid.lower (uuid_bytes r) ≡ uuid_text r
unfolding uuid_on_literals
uuid_text_is r =
    let digits : uuid_text r ≡ bytes_text (byte_at 7 r) (byte_at 6 r) (byte_at 5 r) (byte_at 4 r) ++ codes "-0000-8000-8000-0000" ++ bytes_text (byte_at 3 r) (byte_at 2 r) (byte_at 1 r) (byte_at 0 r) =
    (λ i. high_bytes r i ++ codes "-0000-8000-8000-0000" ++ low_bytes r i) in
    sym digits

-- the body of an answer that tells it
pub uuid_body_is : (r : ℕ) (bytes text body : List ℕ) → bytes ≡ uuid_bytes r → text ≡ uuid.hyphenated_text uuid.lower bytes → body ≡ codes "{\"uuid\":\"" ++ text ++ codes "\"}" → body ≡ uuid_body r
uuid_body_is r bytes text body bytes_are text_is body_is =
    let told : text ≡ uuid_text r = text_is ∙ ap (uuid.hyphenated_text uuid.lower) bytes_are ∙ uuid_text_is r in
    body_is ∙ ap (λ t. codes "{\"uuid\":\"" ++ t ++ codes "\"}") told
