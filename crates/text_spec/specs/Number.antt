-- Numbers (RFC 8259, section 6): their spellings, the value of a spelling, and how two spellings compare.
use Rattle.std.specs.Prelude.{◌≡◌, ℕ, ◌+◌, ◌*◌, ◌/◌, ◌%◌, ◌^◌, ◌<◌, ℤ, pos, neg_ℤ, ◌*ℤ◌, unsigned_abs, List, [], ◌∷◌, ◌++◌, length, Bool, false, ◌&&◌, ◌||◌, ◌==◌, nat_lt, if◌then◌else◌, Option, Some, None, ◌⊎◌}
use Rattle.std.specs.declared.cmp.Ordering.{Ordering}
use Rattle.std.specs.declared.cmp.Ordering.TheVariants.{Equal}
use Rattle.std.specs.Ordering.{int_cmp}
use Rattle.std.specs.Char.{is_ascii_digit}
use Rattle.std.specs.Str.{bytes_eq}
use Rattle.std.specs.Str.Parse.{digits_value, AllDigits, IsNumeral}

-- ---- the spellings

pub record Exponent : Type 0 where
  pub letter : ℕ
  pub sign : List ℕ
  pub digits : List ℕ

pub record NumberText : Type 0 where
  pub minus : Bool
  pub whole : List ℕ
  pub fraction : Option (List ℕ)
  pub exponent : Option Exponent

abbrev pub fraction_text : Option (List ℕ) → List ℕ
fraction_text None = []
fraction_text (Some digits) = 46 ∷ digits

abbrev pub exponent_text : Option Exponent → List ℕ
exponent_text None = []
exponent_text (Some e) = e.letter ∷ (e.sign ++ e.digits)

abbrev pub number_text : NumberText → List ℕ
number_text n = (if n.minus then 45 ∷ [] else []) ++ n.whole ++ fraction_text n.fraction ++ exponent_text n.exponent

-- 0, or digits that don't begin with 0
abbrev pub IsWhole : List ℕ → Type 0
IsWhole [] = ⊥
IsWhole (d ∷ ds) = AllDigits 10 (d ∷ ds) × (d ≡ 48 → ds ≡ [])

abbrev pub IsFraction : Option (List ℕ) → Type 0
IsFraction None = Unit {0}
IsFraction (Some digits) = IsNumeral 10 digits

abbrev pub IsExponent : Option Exponent → Type 0
IsExponent None = Unit {0}
IsExponent (Some e) =
    ((e.letter ≡ 101) ⊎ (e.letter ≡ 69)) × ((e.sign ≡ []) ⊎ (e.sign ≡ 43 ∷ []) ⊎ (e.sign ≡ 45 ∷ []))
    × IsNumeral 10 e.digits

abbrev pub IsNumberText : NumberText → Type 0
IsNumberText n = IsWhole n.whole × IsFraction n.fraction × IsExponent n.exponent

-- the text is a number
abbrev pub IsNumber : List ℕ → Type 0
IsNumber text = (n : NumberText) × IsNumberText n × (text ≡ number_text n)

-- ---- the value: plus or minus coefficient * 10 ^ raised / 10 ^ lowered

abbrev pub fraction_digits : Option (List ℕ) → List ℕ
fraction_digits None = []
fraction_digits (Some digits) = digits

-- the digits before and after the point, as one whole number
abbrev pub coefficient : NumberText → ℕ
coefficient n = digits_value 10 (n.whole ++ fraction_digits n.fraction)

abbrev pub is_negative : Exponent → Bool
is_negative e = bytes_eq e.sign (45 ∷ [])

-- the power of ten of an exponent without a minus sign, and of one with a minus sign
abbrev pub exponent_up : Option Exponent → ℕ
exponent_up None = 0
exponent_up (Some e) = if is_negative e then 0 else digits_value 10 e.digits

abbrev pub exponent_down : Option Exponent → ℕ
exponent_down None = 0
exponent_down (Some e) = if is_negative e then digits_value 10 e.digits else 0

abbrev pub raised : NumberText → ℕ
raised n = exponent_up n.exponent

abbrev pub lowered : NumberText → ℕ
lowered n = exponent_down n.exponent + length (fraction_digits n.fraction)

abbrev pub signed : Bool → ℕ → ℤ
signed minus n = if minus then neg_ℤ (pos n) else pos n

-- the number equals m / 10^18, and |m| is less than 10^37: both sides are multiplied by 10 ^ lowered * 10^18, so that no fraction
-- is left
pub record IsScaled (spelling : List ℕ) (m : ℤ) : Type 0 where
  pub number : NumberText
  pub is_number : IsNumberText number
  pub spelt : spelling ≡ number_text number
  pub equal : m *ℤ pos (10 ^ lowered number) ≡ signed number.minus (coefficient number * 10 ^ (raised number + 18))
  pub small : unsigned_abs m < 10 ^ 37

-- ---- the same as a function of a number's spelling: its parts and their value. It means nothing for other texts

abbrev pub digits_front : List ℕ → List ℕ
digits_front [] = []
digits_front (x ∷ xs) = if is_ascii_digit x then x ∷ digits_front xs else []

abbrev pub behind_digits : List ℕ → List ℕ
behind_digits [] = []
behind_digits (x ∷ xs) = if is_ascii_digit x then behind_digits xs else x ∷ xs

abbrev pub begins_with_minus : List ℕ → Bool
begins_with_minus [] = false
begins_with_minus (x ∷ xs) = x == 45

abbrev pub behind_minus : List ℕ → List ℕ
behind_minus [] = []
behind_minus (x ∷ xs) = if x == 45 then xs else x ∷ xs

abbrev pub fraction_front : List ℕ → Option (List ℕ)
fraction_front [] = None
fraction_front (x ∷ xs) = if x == 46 then Some (digits_front xs) else None

abbrev pub behind_fraction : List ℕ → List ℕ
behind_fraction [] = []
behind_fraction (x ∷ xs) = if x == 46 then behind_digits xs else x ∷ xs

abbrev pub sign_front : List ℕ → List ℕ
sign_front [] = []
sign_front (x ∷ xs) = if (x == 43) || (x == 45) then x ∷ [] else []

abbrev pub behind_sign : List ℕ → List ℕ
behind_sign [] = []
behind_sign (x ∷ xs) = if (x == 43) || (x == 45) then xs else x ∷ xs

abbrev pub exponent_front : List ℕ → Option Exponent
exponent_front [] = None
exponent_front (x ∷ xs) = Some (record { letter = x; sign = sign_front xs; digits = behind_sign xs })

-- the parts of a text that is a number
abbrev pub number_in : List ℕ → NumberText
number_in text =
    let unsigned = behind_minus text in
    let behind_whole = behind_digits unsigned in
    record {
      minus = begins_with_minus text;
      whole = digits_front unsigned;
      fraction = fraction_front behind_whole;
      exponent = exponent_front (behind_fraction behind_whole);
    }

abbrev pub scaled_value : NumberText → Option ℤ
scaled_value n =
    let whole = coefficient n * 10 ^ (raised n + 18) in
    let unit = 10 ^ lowered n in
    if (whole % unit == 0) && nat_lt (whole / unit) (10 ^ 37) then Some (signed n.minus (whole / unit)) else None

-- the m of `IsScaled` for a number's spelling, if there is one
unfoldable pub scaled : List ℕ → Option ℤ
scaled spelling = scaled_value (number_in spelling)

-- ---- comparison

-- two scaled numbers compare by value; an unscaled number equals only its own spelling
abbrev pub compare_scaled : Option ℤ → Option ℤ → Bool → Option Ordering
compare_scaled (Some m) (Some n) alike = Some (int_cmp m n)
compare_scaled (Some m) None alike = if alike then Some Equal else None
compare_scaled None n alike = if alike then Some Equal else None

abbrev pub compare : List ℕ → List ℕ → Option Ordering
compare s t = compare_scaled (scaled s) (scaled t) (bytes_eq s t)
