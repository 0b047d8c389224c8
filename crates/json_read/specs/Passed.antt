-- How skipping a value without a tree relates to the verdict of the machine: some frames and some mode exist at each step.
use Rattle.std.specs.Prelude.{◌≡◌, ℕ, ◌+◌, ◌<◌, ◌≤◌, List, [], ◌++◌, length, drop, map, reverse, Result, Ok, Err}
use Rattle.json_machine.specs.text_spec.Json as spec
use Rattle.json_machine.specs.text_spec.Json.{Json}
use Rattle.json_machine.specs.Machine as machine
use Rattle.json_machine.specs.Machine.{Frame, Mode, TextVerdict, text_ends, text_stuck, Verdict, verdict}
use Rattle.json_read.specs.Found.{Faulted}
use Rattle.json_read.specs.declared.fault.ReadFault.{ReadFault}
use Rattle.json_read.specs.declared.passed.Kind.{Kind}
use Rattle.json_read.specs.declared.passed.Kind.TheVariants.{Array, Object}
use Rattle.json_read.specs.declared.passed.Stage.{Stage}
use Rattle.json_read.specs.declared.passed.Stage.TheVariants.{Value, FirstItem, FirstKey, NextKey, After}

abbrev pub kind_of : Frame → Kind
kind_of (machine.in_array js) = Array
kind_of (machine.in_object ms k) = Object

-- the innermost kind is the last of the code's list
abbrev pub IsStack : List Kind → List Frame → Type 0
IsStack kinds fs = map kind_of fs ≡ reverse kinds

-- any value but a text
abbrev pub IsOther : Json → Type 0
IsOther spec.null = Unit {0}
IsOther (spec.boolean b) = Unit {0}
IsOther (spec.number s) = Unit {0}
IsOther (spec.string s) = ⊥
IsOther (spec.array js) = Unit {0}
IsOther (spec.object ms) = Unit {0}

-- the machine's mode with `depth` containers of the value open; the value itself is no text
abbrev pub IsAt : ℕ → Stage → Mode → Type 0
IsAt depth Value m = m ≡ machine.value
IsAt depth FirstItem m = m ≡ machine.first_item
IsAt depth FirstKey m = m ≡ machine.first_key
IsAt depth NextKey m = (ms : List (List ℕ × Json)) × (m ≡ machine.next_key ms)
IsAt depth After m = (j : Json) × (depth ≡ 0 → IsOther j) × (m ≡ machine.owed [] j)

-- the level stays within 127: a container is opened with its first item or its first colon
abbrev pub HasRoom : ℕ → Stage → Type 0
HasRoom depth Value = (1 ≤ depth) × (depth < 127)
HasRoom depth FirstItem = depth + 1 < 127
HasRoom depth FirstKey = depth + 1 < 127
HasRoom depth NextKey = depth + 1 < 127
HasRoom depth After = depth < 127

-- the string ends
abbrev pub Closes : List ℕ → Result ℕ ℕ → TextVerdict → Type 0
Closes bytes (Ok end) v = (s : List ℕ) × (v ≡ text_ends s end (drop end bytes))
Closes bytes (Err at) v = v ≡ text_stuck at

-- a value has begun within these frames
abbrev pub Begun : List ℕ → List Frame → ℕ → Result (Stage × ℕ) ReadFault → Verdict → Type 0
Begun bytes fs depth (Ok p) v = (m : Mode) × IsAt depth p.0 m × (v ≡ verdict 127 fs m p.1 (drop p.1 bytes))
Begun bytes fs depth (Err e) v = Faulted e v

-- the value continues above the frames `base`
abbrev pub Passes : List ℕ → List Frame → List Kind → Result (Stage × ℕ) ReadFault → Verdict → Type 0
Passes bytes base kinds (Ok p) v =
    (fs : List Frame) × (m : Mode) × IsStack kinds fs × IsAt (length kinds) p.0 m
    × (v ≡ verdict 127 (fs ++ base) m p.1 (drop p.1 bytes))
Passes bytes base kinds (Err e) v = Faulted e v

-- the value is complete
abbrev pub Skipped : List ℕ → List Frame → Result ℕ ReadFault → Verdict → Type 0
Skipped bytes base (Ok end) v = (j : Json) × IsOther j × (v ≡ verdict 127 base (machine.owed [] j) end (drop end bytes))
Skipped bytes base (Err e) v = Faulted e v
