-- What a reader of patterns answers.
use Rattle.std.specs.Prelude.{ℕ, List, ◌++◌, Bool, true, false, Option, Some, None, Result, Err}
use Rattle.pattern_port.specs.declared.patterns.PatternFault.{PatternFault}
use Rattle.pattern_port.specs.declared.patterns.PatternFault.TheVariants.{Refused}

-- the pattern was refused
abbrev pub IsRefused : {C : Type 0} → Result C PatternFault → Type 0
IsRefused (Err Refused) = Unit {0}
IsRefused _ = ⊥

abbrev pub is_refused : {C : Type 0} → Result C PatternFault → Bool
is_refused (Err Refused) = true
is_refused _ = false

-- a text that was read as a pattern, and whether it was refused
abbrev pub Asked : Type 0
Asked = List ℕ × Bool

-- the list with more entries at its end, if it is known
abbrev pub asked_more : Option (List Asked) → List Asked → Option (List Asked)
asked_more None more = None
asked_more (Some before) more = Some (before ++ more)
