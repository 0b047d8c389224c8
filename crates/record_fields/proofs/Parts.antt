-- Numbers, byte strings, texts, Bools and kinds.
use Rattle.std.proofs.Common.{◌≡◌, ℕ, zero, suc, ◌^◌, ◌<◌, ◌≤◌, Bool, true, false, cond, ltb, List, [], ◌∷◌, ◌++◌, length, take, drop, Some, None, refl, sym, ap, subst, arith}
use Rattle.std.specs.Int.{Width, w32, w64, byte_len, from_le_bytes, to_le_bytes}
use Rattle.std.specs.Str.{IsUtf8, is_utf8}
use Rattle.std.proofs.lemmas.Bool.{ltb-false, le-ltb}
use Rattle.std.proofs.lemmas.List.{take_at, drop_at, take-append-drop, length-append, length-take}
use Rattle.std.proofs.lemmas.Nat.{le_bytes_4, le_bytes_8, from_le_bytes-to_le_bytes_4, from_le_bytes-to_le_bytes_8}
use Rattle.std.proofs.lemmas.Str.{IsUtf8-from_is_utf8, is_utf8-from_IsUtf8}
use Rattle.record_spec.specs.fleet_rows.Change.{kind_number}
use Rattle.record_spec.specs.fleet_rows.declared.command.Kind.{Kind}
use Rattle.record_spec.specs.fleet_rows.declared.command.Kind.TheVariants as kind
use Rattle.record_spec.specs.history_spec.Lawful.{IsText}
use Rattle.record_spec.specs.Parts.{bytes_text, bool_text, short_text, long_text}
use Rattle.record_fields.specs.Reading.{number_at, bytes_at, text_at, bool_at, kind_at}
use Rattle.record_fields.proofs.Fields.{IsBytes, IsBytes-drop, IsBytes-take, bind_some, guard_some, test_some, some_is, Takes, Takes-then, IsField, bare_takes}

-- ---- numbers

pub record IsWide (w : Width) (limit : ℕ) : Type 0 where
  pub len : (n : ℕ) → length (to_le_bytes w n) ≡ byte_len w
  pub back : (bytes : List ℕ) → length bytes ≡ byte_len w → IsBytes bytes → to_le_bytes w (from_le_bytes w bytes) ≡ bytes
  pub again : (n : ℕ) → n < limit → from_le_bytes w (to_le_bytes w n) ≡ n
  pub below : (bytes : List ℕ) → IsBytes bytes → from_le_bytes w bytes < limit

pub wide32 : IsWide w32 (2 ^ 32)
wide32 = record {
  len = λ n. refl;
  back = λ bytes len fits. le_bytes_4 bytes _ len fits refl;
  again = λ n lt. from_le_bytes-to_le_bytes_4 n lt;
  below = λ bytes fits. omega (arith, fits 0, fits 1, fits 2, fits 3);
}

pub wide64 : IsWide w64 (2 ^ 64)
wide64 = record {
  len = λ n. refl;
  back = λ bytes len fits. le_bytes_8 bytes _ len fits refl;
  again = λ n lt. from_le_bytes-to_le_bytes_8 n lt;
  below = λ bytes fits. omega (arith, fits 0, fits 1, fits 2, fits 3, fits 4, fits 5, fits 6, fits 7);
}

number_takes : (w : Width) (limit : ℕ) (wide : IsWide w limit) (bytes : List ℕ) (n : ℕ) (rest : List ℕ) → IsBytes bytes → number_at w bytes ≡ Some (n, rest) → Takes bytes (to_le_bytes w n) rest × (n < limit)
number_takes w limit wide bytes n rest fits e =
    let g = guard_some (ltb (length bytes) (byte_len w)) (from_le_bytes w (take (byte_len w) bytes), drop (byte_len w) bytes) (n, rest) e in
    let long : byte_len w ≤ length bytes = ltb-false _ _ g.0 in
    let n-is : from_le_bytes w (take (byte_len w) bytes) ≡ n = ap (λ (p : ℕ × List ℕ). p.0) g.1 in
    let rest-is : drop (byte_len w) bytes ≡ rest = ap (λ (p : ℕ × List ℕ). p.1) g.1 in
    let front : to_le_bytes w n ≡ take (byte_len w) bytes = rw (← n-is) (wide.back (take (byte_len w) bytes) (omega (arith, length-take (byte_len w) bytes)) (IsBytes-take (byte_len w) bytes fits)) in
    (record { parts = rw (front, ← rest-is) (sym (take-append-drop (byte_len w) bytes)); rest_fits = rw (← rest-is) (IsBytes-drop (byte_len w) bytes fits) }, rw (← n-is) (wide.below (take (byte_len w) bytes) (IsBytes-take (byte_len w) bytes fits)))

number_again : (w : Width) (limit : ℕ) (wide : IsWide w limit) (n : ℕ) (rest : List ℕ) → n < limit → number_at w (to_le_bytes w n ++ rest) ≡ Some (n, rest)
number_again w limit wide n rest lt =
    let len = wide.len n in
    let long : ltb (length (to_le_bytes w n ++ rest)) (byte_len w) ≡ false = le-ltb _ _ (omega (arith, length-append (to_le_bytes w n) rest)) in
    rw (long, take_at (to_le_bytes w n) rest (byte_len w) len, drop_at (to_le_bytes w n) rest (byte_len w) len, wide.again n lt) refl

abbrev pub IsShort : ℕ → Type 0
IsShort n = n < 2 ^ 32

abbrev pub IsLong : ℕ → Type 0
IsLong n = n < 2 ^ 64

pub number32 : IsField short_text (number_at w32) IsShort
number32 = record { takes = λ bytes n rest fits e. number_takes w32 (2 ^ 32) wide32 bytes n rest fits e; again = λ n rest lt. number_again w32 (2 ^ 32) wide32 n rest lt }

pub number64 : IsField long_text (number_at w64) IsLong
number64 = record { takes = λ bytes n rest fits e. number_takes w64 (2 ^ 64) wide64 bytes n rest fits e; again = λ n rest lt. number_again w64 (2 ^ 64) wide64 n rest lt }

-- ---- byte strings

bytes_take : (bytes text rest : List ℕ) → IsBytes bytes → bytes_at bytes ≡ Some (text, rest) → Takes bytes (bytes_text text) rest × (length text < 2 ^ 32)
unfolding bytes_at
bytes_take bytes text rest fits e =
    let b = bind_some (number_at w32 bytes) (λ n. cond (ltb (length n.1) n.0) None (Some (take n.0 n.1, drop n.0 n.1))) (text, rest) e in
    let n = b.0 in
    let t = number32.takes bytes n.0 n.1 fits b.1 in
    let g = guard_some (ltb (length n.1) n.0) (take n.0 n.1, drop n.0 n.1) (text, rest) b.2 in
    let long : n.0 ≤ length n.1 = ltb-false _ _ g.0 in
    let len : length (take n.0 n.1) ≡ n.0 = omega (arith, length-take n.0 n.1) in
    let second : Takes n.1 (take n.0 n.1) (drop n.0 n.1) = record { parts = sym (take-append-drop n.0 n.1); rest_fits = IsBytes-drop n.0 n.1 t.0.rest_fits } in
    let both = Takes-then bytes (to_le_bytes w32 n.0) n.1 (take n.0 n.1) (drop n.0 n.1) t.0 second in
    let whole : Takes bytes (bytes_text (take n.0 n.1)) (drop n.0 n.1) = subst (λ (k : ℕ). Takes bytes (to_le_bytes w32 k ++ take n.0 n.1) (drop n.0 n.1)) (sym len) both in
    subst (λ (p : List ℕ × List ℕ). Takes bytes (bytes_text p.0) p.1 × (length p.0 < 2 ^ 32)) g.1 (whole, omega (arith, t.1))

bytes_again : (text rest : List ℕ) → length text < 2 ^ 32 → bytes_at (bytes_text text ++ rest) ≡ Some (text, rest)
unfolding bytes_at
bytes_again text rest lt =
    let long : ltb (length (text ++ rest)) (length text) ≡ false = le-ltb _ _ (omega (arith, length-append text rest)) in
    rw (number32.again (length text) (text ++ rest) lt, long, take_at text rest (length text) refl, drop_at text rest (length text) refl) refl

abbrev pub IsCountedBytes : List ℕ → Type 0
IsCountedBytes b = length b < 2 ^ 32

pub counted : IsField bytes_text bytes_at IsCountedBytes
counted = record { takes = bytes_take; again = bytes_again }

-- ---- texts

text_takes : (bytes text rest : List ℕ) → IsBytes bytes → text_at bytes ≡ Some (text, rest) → Takes bytes (bytes_text text) rest × IsText text
unfolding text_at
text_takes bytes text rest are e =
    let b = bind_some (bytes_at bytes) (λ t. cond (is_utf8 t.0) (Some t) None) (text, rest) e in
    let g = test_some (is_utf8 b.0.0) (Some b.0) (text, rest) b.2 in
    let t = bytes_take bytes b.0.0 b.0.1 are b.1 in
    let fits : IsText b.0.0 = record { utf8 = IsUtf8-from_is_utf8 b.0.0 g.0; counted = t.1 } in
    subst (λ (p : List ℕ × List ℕ). Takes bytes (bytes_text p.0) p.1 × IsText p.0) (some_is b.0 (text, rest) g.1) (t.0, fits)

text_again : (text rest : List ℕ) → IsText text → text_at (bytes_text text ++ rest) ≡ Some (text, rest)
unfolding text_at
text_again text rest fits = rw (bytes_again text rest fits.counted, is_utf8-from_IsUtf8 text fits.utf8) refl

pub texts : IsField bytes_text text_at IsText
texts = record { takes = text_takes; again = text_again }

-- as the code tests a text
pub text_front : (bytes text rest : List ℕ) → bytes_at bytes ≡ Some (text, rest) → IsUtf8 text → text_at bytes ≡ Some (text, rest)
unfolding text_at
text_front bytes text rest is utf8 = rw (is, is_utf8-from_IsUtf8 text utf8) refl

not_utf8 : (text : List ℕ) (b : Bool) → is_utf8 text ≡ b → ¬ (IsUtf8 text) → b ≡ false
not_utf8 text true is never = absurd (never (IsUtf8-from_is_utf8 text is))
not_utf8 text false is never = refl

pub text_not : (bytes text rest : List ℕ) → bytes_at bytes ≡ Some (text, rest) → ¬ (IsUtf8 text) → text_at bytes ≡ None
unfolding text_at
text_not bytes text rest is never = rw (is, not_utf8 text (is_utf8 text) refl never) refl

-- ---- one byte

abbrev pub AnyBool : Bool → Type 0
AnyBool b = Unit {0}

bool_takes : (bytes : List ℕ) (x : Bool) (rest : List ℕ) → IsBytes bytes → bool_at bytes ≡ Some (x, rest) → Takes bytes (bool_text x) rest × AnyBool x
bool_takes [] x rest are e = absurd cc
bool_takes (zero ∷ bytes) x rest are e = bare_takes bool_text AnyBool 0 false refl tt bytes x rest are e
bool_takes (suc zero ∷ bytes) x rest are e = bare_takes bool_text AnyBool 1 true refl tt bytes x rest are e
bool_takes (suc (suc number) ∷ bytes) x rest are e = absurd cc

bool_again : (x : Bool) (rest : List ℕ) → AnyBool x → bool_at (bool_text x ++ rest) ≡ Some (x, rest)
bool_again true rest fits = refl
bool_again false rest fits = refl

pub bools : IsField bool_text bool_at AnyBool
bools = record { takes = bool_takes; again = bool_again }

abbrev pub kind_text : Kind → List ℕ
kind_text k = kind_number k ∷ []

abbrev pub AnyKind : Kind → Type 0
AnyKind k = Unit {0}

kind_takes : (bytes : List ℕ) (x : Kind) (rest : List ℕ) → IsBytes bytes → kind_at bytes ≡ Some (x, rest) → Takes bytes (kind_text x) rest × AnyKind x
kind_takes [] x rest are e = absurd cc
kind_takes (zero ∷ bytes) x rest are e = bare_takes kind_text AnyKind 0 kind.Facts refl tt bytes x rest are e
kind_takes (suc zero ∷ bytes) x rest are e = bare_takes kind_text AnyKind 1 kind.Catalog refl tt bytes x rest are e
kind_takes (suc (suc zero) ∷ bytes) x rest are e = bare_takes kind_text AnyKind 2 kind.Report refl tt bytes x rest are e
kind_takes (suc (suc (suc zero)) ∷ bytes) x rest are e = bare_takes kind_text AnyKind 3 kind.Deactivate refl tt bytes x rest are e
kind_takes (suc (suc (suc (suc zero))) ∷ bytes) x rest are e = bare_takes kind_text AnyKind 4 kind.Expiration refl tt bytes x rest are e
kind_takes (suc (suc (suc (suc (suc tag)))) ∷ bytes) x rest are e = absurd cc

kind_again : (x : Kind) (rest : List ℕ) → AnyKind x → kind_at (kind_text x ++ rest) ≡ Some (x, rest)
kind_again kind.Facts rest fits = refl
kind_again kind.Catalog rest fits = refl
kind_again kind.Report rest fits = refl
kind_again kind.Deactivate rest fits = refl
kind_again kind.Expiration rest fits = refl

pub kinds : IsField kind_text kind_at AnyKind
kinds = record { takes = kind_takes; again = kind_again }
