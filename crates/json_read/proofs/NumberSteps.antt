-- The steps of json_tree's machine of numbers are those of the machine that reads texts.
use Rattle.std.proofs.Common.{◌≡◌, ℕ, List, [], ◌∷◌, refl, sym, subst, Bool, true, false, ◌||◌, Option, Some, None, arith, ◌==◌, if◌then◌else◌}
use Rattle.std.specs.Prelude.{option_map, IfSome}
use Rattle.std.specs.Char.{is_ascii_digit}
use Rattle.json_machine.specs.text_spec.Number.{IsNumber}
use Rattle.json_machine.specs.Machine as machine
use Rattle.json_machine.specs.Machine.{number_verdict, number_ends}
use Rattle.json_machine.proofs.NumberSound.{minus_number, zero_number, digit_number}
use Rattle.json_machine.proofs.NumberEnds.{number_verdict-ends}
use Rattle.json_tree.specs.declared.number.NumberState.{NumberState}
use Rattle.json_tree.specs.declared.number.NumberState.TheVariants.{Start, AfterMinus, AfterZero, InWhole, AfterPoint, InFraction, AfterE, AfterSign, InExponent}
use Rattle.json_tree.specs.Numbers.{number_step, to_digits, to_whole, to_point, to_exponent, may_end}
use Rattle.json_read.specs.Numbers.{state_of, IsBegun, IsFirst}

-- a choice of a state that has begun, and its machine's state
abbrev Agrees : Option NumberState → Option machine.NumberState → Type 0
Agrees o m = (option_map state_of o ≡ m) × IfSome o IsBegun

agrees-if : (c : Bool) (o p : Option NumberState) (m n : Option machine.NumberState) → Agrees o m → Agrees p n → Agrees (if c then o else p) (if c then m else n)
agrees-if true o p m n so other = so
agrees-if false o p m n so other = other

none : Agrees None None
none = (refl, tt)

exponent : (b : ℕ) → Agrees (to_exponent b) (machine.to_power b)
exponent b = agrees-if ((b == 101) || (b == 69)) (Some AfterE) None (Some machine.after_e) None (refl, tt) none

point : (b : ℕ) → Agrees (to_point b) (machine.to_point b)
point b = agrees-if (b == 46) (Some AfterPoint) (to_exponent b) (Some machine.after_dot) (machine.to_power b) (refl, tt) (exponent b)

whole : (b : ℕ) → Agrees (to_whole b) (machine.number_step machine.after_minus b)
whole b = agrees-if (b == 48) (Some AfterZero) (to_digits b InWhole None) (Some machine.after_zero) (machine.to_digits b machine.in_whole None) (refl, tt)
    (agrees-if (is_ascii_digit b) (Some InWhole) None (Some machine.in_whole) None (refl, tt) none)

step : (s : NumberState) (b : ℕ) → IsBegun s → Agrees (number_step s b) (machine.number_step (state_of s) b)
step Start b h = absurd h
step AfterMinus b h = whole b
step AfterZero b h = point b
step InWhole b h = agrees-if (is_ascii_digit b) (Some InWhole) (to_point b) (Some machine.in_whole) (machine.to_point b) (refl, tt) (point b)
step AfterPoint b h = agrees-if (is_ascii_digit b) (Some InFraction) None (Some machine.in_fraction) None (refl, tt) none
step InFraction b h = agrees-if (is_ascii_digit b) (Some InFraction) (to_exponent b) (Some machine.in_fraction) (machine.to_power b) (refl, tt) (exponent b)
step AfterE b h = agrees-if ((b == 43) || (b == 45)) (Some AfterSign) (to_digits b InExponent None) (Some machine.after_sign) (machine.to_digits b machine.in_exponent None) (refl, tt)
    (agrees-if (is_ascii_digit b) (Some InExponent) None (Some machine.in_exponent) None (refl, tt) none)
step AfterSign b h = agrees-if (is_ascii_digit b) (Some InExponent) None (Some machine.in_exponent) None (refl, tt) none
step InExponent b h = agrees-if (is_ascii_digit b) (Some InExponent) None (Some machine.in_exponent) None (refl, tt) none

pub step_same : (s : NumberState) (b : ℕ) → IsBegun s → option_map state_of (number_step s b) ≡ machine.number_step (state_of s) b
step_same s b h = (step s b h).0

pub step_begun : (s : NumberState) (b : ℕ) → IsBegun s → IfSome (number_step s b) IsBegun
step_begun s b h = (step s b h).1

pub may_end_same : (s : NumberState) → IsBegun s → may_end s ≡ machine.may_end (state_of s)
may_end_same Start h = absurd h
may_end_same AfterMinus h = refl
may_end_same AfterZero h = refl
may_end_same InWhole h = refl
may_end_same AfterPoint h = refl
may_end_same InFraction h = refl
may_end_same AfterE h = refl
may_end_same AfterSign h = refl
may_end_same InExponent h = refl

pub first_begun : (s : NumberState) (b : ℕ) → IsFirst s b → IsBegun s
first_begun Start b h = absurd h
first_begun AfterMinus b h = tt
first_begun AfterZero b h = tt
first_begun InWhole b h = tt
first_begun AfterPoint b h = absurd h
first_begun InFraction b h = absurd h
first_begun AfterE b h = absurd h
first_begun AfterSign b h = absurd h
first_begun InExponent b h = absurd h

-- what the verdict on a number ends with is a number
pub ended_number : (s : NumberState) (b at : ℕ) (bs f : List ℕ) (k : ℕ) (rest : List ℕ) → IsFirst s b → number_verdict (state_of s) (b ∷ []) at bs ≡ number_ends f k rest → IsNumber f
ended_number Start b at bs f k rest h e = absurd h
ended_number AfterMinus b at bs f k rest h e =
    let y = number_verdict-ends bs at machine.after_minus (b ∷ []) f k rest e in
    subst IsNumber (sym y.2) (subst (λ x. IsNumber (x ∷ y.0)) (sym h) (minus_number y.0 y.1))
ended_number AfterZero b at bs f k rest h e =
    let y = number_verdict-ends bs at machine.after_zero (b ∷ []) f k rest e in
    subst IsNumber (sym y.2) (zero_number b y.0 h y.1)
ended_number InWhole b at bs f k rest h e =
    let y = number_verdict-ends bs at machine.in_whole (b ∷ []) f k rest e in
    let least = h.0 in
    let most = h.1 in
    let other : (b == 48) ≡ false = grind arith in
    let digit : is_ascii_digit b ≡ true = grind arith in
    subst IsNumber (sym y.2) (digit_number b y.0 other digit y.1)
ended_number AfterPoint b at bs f k rest h e = absurd h
ended_number InFraction b at bs f k rest h e = absurd h
ended_number AfterE b at bs f k rest h e = absurd h
ended_number AfterSign b at bs f k rest h e = absurd h
ended_number InExponent b at bs f k rest h e = absurd h
