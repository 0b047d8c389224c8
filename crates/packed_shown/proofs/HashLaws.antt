-- A SHA-1 digest is a hash, and the digits of a hash lead to its bytes.
use Rattle.std.proofs.Common.{◌≡◌, ◌∙◌, ℕ, zero, suc, ◌*◌, ◌/◌, ◌%◌, ◌^◌, ◌<◌, List, [], ◌∷◌, ◌++◌, length, slice_index, Result, Ok, Err, refl, sym, ap, arith}
use Rattle.std.specs.Result.{result_unwrap_or}
use Rattle.std.specs.Int.{w32, to_be_bytes}
use Rattle.std.proofs.lemmas.List.{length-append}
use Rattle.hex.specs.Hex.{IsBytes, decode_sized, encode_lower, lower_digits}
use Rattle.hex.specs.declared.error.FromHexError.{FromHexError}
use Rattle.hex.proofs.HexLemmas.{decode_of-encode_lower, decode_sized-twice, length-encode_with}
use Rattle.sha1.specs.Sha1.{digest_bytes, sha1}
use Rattle.packed_shown.specs.Hashes.{IsHash}

-- ---- bytes, one after the other

no_bytes : IsBytes []
no_bytes k = omega arith

cons_bytes : (b : ℕ) (rest : List ℕ) → b < 256 → IsBytes rest → IsBytes (b ∷ rest)
cons_bytes b rest h hs zero = h
cons_bytes b rest h hs (suc i) = hs i

append_bytes : (xs ys : List ℕ) → IsBytes xs → IsBytes ys → IsBytes (xs ++ ys)
append_bytes [] ys hx hy = hy
append_bytes (x ∷ xs) ys hx hy = cons_bytes x (xs ++ ys) (hx 0) (append_bytes xs ys (λ k. hx (suc k)) hy)

word_bytes : (n : ℕ) → IsBytes (to_be_bytes w32 n)
word_bytes n =
    cons_bytes (n / 256 ^ 3 % 256) (n / 256 ^ 2 % 256 ∷ n / 256 ^ 1 % 256 ∷ n % 256 ∷ []) (omega arith)
    (cons_bytes (n / 256 ^ 2 % 256) (n / 256 ^ 1 % 256 ∷ n % 256 ∷ []) (omega arith)
    (cons_bytes (n / 256 ^ 1 % 256) (n % 256 ∷ []) (omega arith) (cons_bytes (n % 256) [] (omega arith) no_bytes)))

digest_is_bytes : (h : List ℕ) (n : ℕ) → IsBytes (digest_bytes h n)
unfolding digest_bytes
digest_is_bytes h zero = no_bytes
digest_is_bytes h (suc n) = append_bytes (digest_bytes h n) (to_be_bytes w32 (slice_index h n)) (digest_is_bytes h n) (word_bytes (slice_index h n))

digest_length : (h : List ℕ) (n : ℕ) → length (digest_bytes h n) ≡ 4 * n
unfolding digest_bytes
digest_length h zero = refl
digest_length h (suc n) =
    let joined = length-append (digest_bytes h n) (to_be_bytes w32 (slice_index h n)) in
    let before = digest_length h n in
    omega (arith, joined, before)

-- ---- hashes

-- the digits of a SHA-1 digest are a hash
pub digest_is_hash : (m : List ℕ) → IsHash (encode_lower (sha1 m))
unfolding sha1
digest_is_hash m = (sha1 m, digest_is_bytes _ 5, digest_length _ 5, refl)

-- the bytes of a hash are read from its digits
decoded : (digits : List ℕ) → IsHash digits → (bytes : List ℕ) × (decode_sized digits 20 ≡ Ok bytes) × (encode_lower bytes ≡ digits)
decoded digits h =
    let bytes = h.0 in
    let twice = length-encode_with lower_digits bytes in
    let long : length (encode_lower bytes) ≡ 2 * 20 = omega (arith, twice, h.2) in
    (bytes, ap (λ (s : List ℕ). decode_sized s 20) h.3 ∙ decode_sized-twice (encode_lower bytes) 20 long ∙ decode_of-encode_lower bytes h.1, sym h.3)

pub never_refused : (digits : List ℕ) (fault : FromHexError) → IsHash digits → decode_sized digits 20 ≡ Err fault → ⊥
never_refused digits fault h refused =
    let read = decoded digits h in
    let apart : Ok read.0 ≡ Err fault = sym read.1 ∙ refused in
    cc

same_bytes : (xs ys : List ℕ) (r : Result (List ℕ) FromHexError) → r ≡ Ok xs → r ≡ Ok ys → xs ≡ ys
same_bytes xs ys r x y = ap (λ (q : Result (List ℕ) FromHexError). result_unwrap_or q []) (sym x ∙ y)

pub digits_again : (digits bytes : List ℕ) → IsHash digits → decode_sized digits 20 ≡ Ok bytes → encode_lower bytes ≡ digits
digits_again digits bytes h is =
    let read = decoded digits h in
    ap encode_lower (same_bytes bytes read.0 (decode_sized digits 20) is read.1) ∙ read.2
