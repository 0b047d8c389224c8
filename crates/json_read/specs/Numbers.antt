-- How the code's states of numbers relate to the machine's.
use Rattle.std.specs.Prelude.{◌≡◌, ◌≤◌, ℕ, List, drop, Result, Ok, Err, slice_range}
use Rattle.json_machine.specs.Machine as machine
use Rattle.json_machine.specs.Machine.{NumberVerdict, number_ends, number_stuck}
use Rattle.json_tree.specs.declared.number.NumberState.{NumberState}
use Rattle.json_tree.specs.declared.number.NumberState.TheVariants.{Start, AfterMinus, AfterZero, InWhole, AfterPoint, InFraction, AfterE, AfterSign, InExponent}

-- at least one byte of the number was read
abbrev pub IsBegun : NumberState → Type 0
IsBegun Start = ⊥
IsBegun AfterMinus = Unit {0}
IsBegun AfterZero = Unit {0}
IsBegun InWhole = Unit {0}
IsBegun AfterPoint = Unit {0}
IsBegun InFraction = Unit {0}
IsBegun AfterE = Unit {0}
IsBegun AfterSign = Unit {0}
IsBegun InExponent = Unit {0}

-- the machine's state once a number has begun; the machine has no start state
abbrev pub state_of : NumberState → machine.NumberState
state_of Start = machine.after_minus
state_of AfterMinus = machine.after_minus
state_of AfterZero = machine.after_zero
state_of InWhole = machine.in_whole
state_of AfterPoint = machine.after_dot
state_of InFraction = machine.in_fraction
state_of AfterE = machine.after_e
state_of AfterSign = machine.after_sign
state_of InExponent = machine.in_exponent

-- a number begins with the byte, and this is the state after it
abbrev pub IsFirst : NumberState → ℕ → Type 0
IsFirst Start b = ⊥
IsFirst AfterMinus b = b ≡ 45
IsFirst AfterZero b = b ≡ 48
IsFirst InWhole b = (49 ≤ b) × (b ≤ 57)
IsFirst AfterPoint b = ⊥
IsFirst InFraction b = ⊥
IsFirst AfterE b = ⊥
IsFirst AfterSign b = ⊥
IsFirst InExponent b = ⊥

abbrev pub ends_as : Result ℕ ℕ → List ℕ → List ℕ → NumberVerdict
ends_as (Ok at) s rest = number_ends s at rest
ends_as (Err at) s rest = number_stuck at

abbrev pub number_found : List ℕ → ℕ → Result ℕ ℕ → NumberVerdict
number_found bytes start (Ok end) = number_ends (slice_range bytes start end) end (drop end bytes)
number_found bytes start (Err at) = number_stuck at
