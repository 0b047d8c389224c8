-- The single fields of changes and records.
use Rattle.std.proofs.Common.{◌≡◌, ◌≢◌, ℕ, ◌^◌, ◌<◌, ◌≤◌, Bool, true, ◌&&◌, ltb, leb, List, [], ◌∷◌, length, Option, refl, arith}
use Rattle.std.specs.Int.{w64}
use Rattle.std.proofs.lemmas.Bool.{ltb-true, lt-ltb, leb-true, le-leb}
use Rattle.json_read.proofs.of_plain_laws.Booleans.{both_true}
use Rattle.record_fields.specs.history_spec.Lawful.{IfText, IfMoment, IfWhole, IsCertname}
use Rattle.record_fields.specs.record_spec.Parts.{bytes_text, bool_text, short_text, long_text, moment_text, optional}
use Rattle.record_fields.specs.record_spec.Store.{IfReceipt}
use Rattle.record_fields.specs.Reading.{number_at, text_at, bool_at, moment_at, optional_at}
use Rattle.record_fields.proofs.Fields.{IsField}
use Rattle.record_fields.proofs.Joins.{as_option, as_tested}
use Rattle.record_fields.proofs.Parts.{number32, number64, texts, bools}
use Rattle.record_fields.proofs.Moments.{moments}
use Rattle.record_values.specs.Fields.{certname_at, whole_at, between_at}

-- ---- texts and numbers

not_empty : (x : List ℕ) → 0 < length x → x ≢ []
not_empty [] lt = absurd (omega (arith, lt))
not_empty (b ∷ bs) lt = λ e. absurd cc

some_bytes : (x : List ℕ) → x ≢ [] → ltb 0 (length x) ≡ true
some_bytes [] not = absurd (not refl)
some_bytes (b ∷ bs) not = lt-ltb 0 (length (b ∷ bs)) (omega arith)

pub certnames : IsField bytes_text certname_at IsCertname
unfolding certname_at
certnames = as_tested texts (λ s. ltb 0 (length s)) IsCertname (λ x fits t. (not_empty x (ltb-true _ _ t), fits)) (λ x c. c.1) (λ x c. some_bytes x c.0)

pub if_texts : IsField (optional bytes_text) (optional_at text_at) IfText
if_texts = as_option texts IfText tt (λ x fits. fits) (λ x fits. fits)

abbrev pub IsWhole : ℕ → Type 0
IsWhole n = n < 10 ^ 18

wholes : IsField long_text whole_at IsWhole
unfolding whole_at
wholes = as_tested number64 (λ n. ltb n (10 ^ 18)) IsWhole (λ n fits t. ltb-true _ _ t) (λ n lt. omega (arith, lt)) (λ n lt. lt-ltb _ _ lt)

pub if_wholes : IsField (optional long_text) (optional_at whole_at) IfWhole
if_wholes = as_option wholes IfWhole tt (λ x fits. fits) (λ x fits. fits)

abbrev pub IsBetween : ℕ → ℕ → ℕ → Type 0
IsBetween low high n = (low ≤ n) × (n ≤ high)

pub betweens : (low high : ℕ) → high < 2 ^ 32 → IsField short_text (between_at low high) (IsBetween low high)
unfolding between_at
betweens low high few =
    as_tested number32 (λ n. leb low n && leb n high) (IsBetween low high)
    (λ n fits t. let two = both_true (leb low n) (leb n high) t in (leb-true _ _ two.0, leb-true _ _ two.1))
    (λ n is. omega (arith, is.1, few))
    (λ n is. λ i. le-leb low n is.0 i && le-leb n high is.1 i)

pub if_longs : IsField (optional long_text) (optional_at (number_at w64)) IfReceipt
if_longs = as_option number64 IfReceipt tt (λ x fits. fits) (λ x fits. fits)

pub if_moments : IsField (optional moment_text) (optional_at moment_at) IfMoment
if_moments = as_option moments IfMoment tt (λ x fits. fits) (λ x fits. fits)

abbrev pub AnyIfBool : Option Bool → Type 0
AnyIfBool b = Unit {0}

pub if_bools : IsField (optional bool_text) (optional_at bool_at) AnyIfBool
if_bools = as_option bools AnyIfBool tt (λ x fits. tt) (λ x fits. tt)
