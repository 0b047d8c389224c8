-- A machine that reads the bytes of a number (RFC 8259, section 6), with one state per position in the grammar.
use Rattle.std.specs.Prelude.{ℕ, List, [], ◌∷◌, Bool, true, false, ◌||◌, ◌==◌, if◌then◌else◌, Option, Some, None}
use Rattle.std.specs.Char.{is_ascii_digit}
use Rattle.std.specs.Option.{option_map_or}
use Rattle.json_tree.specs.declared.number.NumberState.{NumberState}
use Rattle.json_tree.specs.declared.number.NumberState.TheVariants.{Start, AfterMinus, AfterZero, InWhole, AfterPoint, InFraction, AfterE, AfterSign, InExponent}

abbrev pub to_digits : ℕ → NumberState → Option NumberState → Option NumberState
to_digits b s other = if is_ascii_digit b then Some s else other

-- the first digit; only a point or an exponent may follow a 0
abbrev pub to_whole : ℕ → Option NumberState
to_whole b = if b == 48 then Some AfterZero else to_digits b InWhole None

abbrev pub to_exponent : ℕ → Option NumberState
to_exponent b = if (b == 101) || (b == 69) then Some AfterE else None

abbrev pub to_point : ℕ → Option NumberState
to_point b = if b == 46 then Some AfterPoint else to_exponent b

-- the state after one more byte, if the number can continue with it
abbrev pub number_step : NumberState → ℕ → Option NumberState
number_step Start b = if b == 45 then Some AfterMinus else to_whole b
number_step AfterMinus b = to_whole b
number_step AfterZero b = to_point b
number_step InWhole b = to_digits b InWhole (to_point b)
number_step AfterPoint b = to_digits b InFraction None
number_step InFraction b = to_digits b InFraction (to_exponent b)
number_step AfterE b = if (b == 43) || (b == 45) then Some AfterSign else to_digits b InExponent None
number_step AfterSign b = to_digits b InExponent None
number_step InExponent b = to_digits b InExponent None

-- a number may end in this state
abbrev pub may_end : NumberState → Bool
may_end Start = false
may_end AfterMinus = false
may_end AfterZero = true
may_end InWhole = true
may_end AfterPoint = false
may_end InFraction = true
may_end AfterE = false
may_end AfterSign = false
may_end InExponent = true

-- the bytes complete a number
abbrev pub completes : NumberState → List ℕ → Bool
completes s [] = may_end s
completes s (b ∷ bs) = option_map_or (λ t. completes t bs) (number_step s b) false
