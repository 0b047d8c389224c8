-- How the code's states of strings relate to the machine's.
use Rattle.std.specs.Prelude.{◌≡◌, ◌≢◌, ◌⊎◌, ◌<◌, ◌≤◌, ℕ, List, [], ◌∷◌, ◌++◌, drop, slice_range, Bool, ◌||◌, ◌==◌, nat_lt, nat_le, Option, Some, None, Result, Ok, Err}
use Rattle.std.specs.Char.{encode_utf8}
use Rattle.json_machine.specs.Machine as machine
use Rattle.json_machine.specs.Machine.{TextState, Reading, within, TextVerdict, text_ends, text_stuck, text_verdict}
use Rattle.json_read.specs.declared.escape.Escape.{Escape}
use Rattle.json_read.specs.declared.escape.Escape.TheVariants.{Start, Hex, HexD, Unit2, Unit1, Unit0, High1, High0, LowEscape, LowU, LowHex, LowD, Low1, Low0}
use Rattle.json_read.specs.declared.escape.EscapeStep.{EscapeStep}
use Rattle.json_read.specs.declared.escape.EscapeStep.TheVariants.{Goes, Gives, Wrong}
use Rattle.json_read.specs.declared.fault.ReadFault.{ReadFault}
use Rattle.json_read.specs.declared.fault.ReadFault.TheVariants.{NotJson, TooDeep, Memory}
use Rattle.json_read.specs.declared.plain.Plain.{Plain}
use Rattle.json_read.specs.declared.plain.Plain.TheVariants.{Inside, Tail2, Tail1, Tail0, TailE0, TailEd, TailF0, TailF4}

abbrev pub plain_of : Plain → TextState
plain_of Inside = machine.inside
plain_of Tail2 = machine.tail 2
plain_of Tail1 = machine.tail 1
plain_of Tail0 = machine.tail 0
plain_of TailE0 = machine.tail_e0
plain_of TailEd = machine.tail_ed
plain_of TailF0 = machine.tail_f0
plain_of TailF4 = machine.tail_f4

abbrev pub plain_on : List ℕ → ℕ → Option Plain → Option Reading
plain_on s b None = None
plain_on s b (Some t) = Some (within (plain_of t) (s ++ b ∷ []))

abbrev pub IsPlainAscii : ℕ → Type 0
IsPlainAscii b = (32 ≤ b) × (b < 128) × (b ≢ 34) × (b ≢ 92)

abbrev pub is_other : ℕ → Bool
is_other b = (b == 34) || (b == 92) || nat_lt b 32 || nat_le 128 b

-- a quote or a backslash
abbrev pub IsStop : ℕ → Type 0
IsStop b = (b ≡ 34) ⊎ (b ≡ 92)

abbrev pub plain_found : List ℕ → ℕ → List ℕ → Result ℕ ℕ → TextVerdict
plain_found bytes start s (Ok end) = text_verdict machine.inside (s ++ slice_range bytes start end) end (drop end bytes)
plain_found bytes start s (Err at) = text_stuck at

abbrev pub escape_of : Escape → TextState
escape_of Start = machine.escape
escape_of Hex = machine.hex
escape_of HexD = machine.hex_d
escape_of (Unit2 v) = machine.unit 2 v
escape_of (Unit1 v) = machine.unit 1 v
escape_of (Unit0 v) = machine.unit 0 v
escape_of (High1 v) = machine.high 1 v
escape_of (High0 v) = machine.high 0 v
escape_of (LowEscape h) = machine.low_escape h
escape_of (LowU h) = machine.low_u h
escape_of (LowHex h) = machine.low_hex h
escape_of (LowD h) = machine.low_d h
escape_of (Low1 h v) = machine.low h 1 v
escape_of (Low0 h v) = machine.low h 0 v

abbrev IsHigh : ℕ → Type 0
IsHigh h = (55_296 ≤ h) × (h < 56_320)

-- each number fits the digits that were read for it
abbrev pub IsSmall : Escape → Type 0
IsSmall Start = Unit {0}
IsSmall Hex = Unit {0}
IsSmall HexD = Unit {0}
IsSmall (Unit2 v) = v < 16
IsSmall (Unit1 v) = v < 256
IsSmall (Unit0 v) = v < 4096
IsSmall (High1 v) = (216 ≤ v) × (v < 220)
IsSmall (High0 v) = (3456 ≤ v) × (v < 3520)
IsSmall (LowEscape h) = IsHigh h
IsSmall (LowU h) = IsHigh h
IsSmall (LowHex h) = IsHigh h
IsSmall (LowD h) = IsHigh h
IsSmall (Low1 h v) = IsHigh h × (220 ≤ v) × (v < 224)
IsSmall (Low0 h v) = IsHigh h × (3520 ≤ v) × (v < 3584)

abbrev pub IsSmallStep : EscapeStep → Type 0
IsSmallStep (Goes e) = IsSmall e
IsSmallStep (Gives c) = c < 1_114_112
IsSmallStep Wrong = Unit {0}

abbrev pub escape_on : List ℕ → EscapeStep → Option Reading
escape_on s (Goes e) = Some (within (escape_of e) s)
escape_on s (Gives c) = Some (within machine.inside (s ++ encode_utf8 c))
escape_on s Wrong = None

abbrev pub escape_found : List ℕ → List ℕ → Result (ℕ × ℕ) ℕ → TextVerdict
escape_found bytes s (Ok r) = text_verdict machine.inside (s ++ encode_utf8 r.0) r.1 (drop r.1 bytes)
escape_found bytes s (Err at) = text_stuck at

-- the bytes that were pushed, and the verdict from there on
abbrev pub plain_pushed : List ℕ → List ℕ → Result ℕ ReadFault → TextVerdict → Type 0
plain_pushed bytes out (Ok end) v = v ≡ text_verdict machine.inside out end (drop end bytes)
plain_pushed bytes out (Err (NotJson at)) v = v ≡ text_stuck at
plain_pushed bytes out (Err (TooDeep at)) v = ⊥
plain_pushed bytes out (Err Memory) v = Unit {0}

-- the verdict on a string at its end
abbrev pub text_found : List ℕ → Result (List ℕ × ℕ) ReadFault → TextVerdict → Type 0
text_found bytes (Ok p) v = v ≡ text_ends p.0 p.1 (drop p.1 bytes)
text_found bytes (Err (NotJson at)) v = v ≡ text_stuck at
text_found bytes (Err (TooDeep at)) v = ⊥
text_found bytes (Err Memory) v = Unit {0}
