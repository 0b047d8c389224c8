-- How the steps to the head of a payload relate to the verdict of the machine.
use Rattle.std.specs.Prelude.{◌≡◌, ℕ, ℤ, List, [], ◌∷◌, ◌++◌, drop, Bool, true, false, codes, Option, Some, None, Result, Ok, Err}
use Rattle.json_machine.specs.text_spec.Json as spec
use Rattle.json_machine.specs.text_spec.Json.{Json, members_of, settled, find_member}
use Rattle.json_machine.specs.Machine as machine
use Rattle.json_machine.specs.Machine.{Frame, Verdict, spelled, verdict}
use Rattle.json_read.specs.declared.fault.ReadFault.{ReadFault}
use Rattle.json_read.specs.declared.fault.ReadFault.TheVariants.{NotJson, TooDeep, Memory}
use Rattle.json_read.specs.Found.{Faulted}
use Rattle.json_read.specs.Heads.{text_in, nonempty, stamp_in}

-- the head is the expected one, unless memory runs out
abbrev pub Heads : Result (Option (List ℕ × ℤ)) ReadFault → Option (List ℕ × ℤ) → Type 0
Heads (Ok head) told = head ≡ told
Heads (Err (NotJson at)) told = None ≡ told
Heads (Err (TooDeep at)) told = None ≡ told
Heads (Err Memory) told = Unit {0}

-- a value is complete within these frames, and the result holds its text
abbrev pub TextFound : List ℕ → List Frame → Result (Option (List ℕ) × ℕ) ReadFault → Verdict → Type 0
TextFound bytes fs (Ok p) v = (j : Json) × (p.0 ≡ text_in (Some j)) × (v ≡ verdict 127 fs (machine.owed [] j) p.1 (drop p.1 bytes))
TextFound bytes fs (Err e) v = Faulted e v

-- a member of the outermost object is complete, after the members ms
abbrev pub MemberFound : List ℕ → List (List ℕ × Json) → Result (List ℕ × Option (List ℕ) × ℕ) ReadFault → Verdict → Type 0
MemberFound bytes ms (Ok p) v = (j : Json) × (p.1 ≡ text_in (Some j)) × (v ≡ verdict 127 (machine.in_object ms p.0 ∷ []) (machine.owed [] j) p.2 (drop p.2 bytes))
MemberFound bytes ms (Err e) v = Faulted e v

-- another member follows, or the outermost object is complete
abbrev pub Separated : List ℕ → List (List ℕ × Json) → List ℕ → Json → Result (Bool × ℕ) ReadFault → Verdict → Type 0
Separated bytes ms k j (Ok (true, end)) v = v ≡ verdict 127 [] (machine.next_key (ms ++ (k, j) ∷ [])) end (drop end bytes)
Separated bytes ms k j (Ok (false, end)) v =
    v ≡ verdict 127 [] (machine.owed [] (spec.object (members_of (settled [] (ms ++ (k, j) ∷ []))))) end (drop end bytes)
Separated bytes ms k j (Err e) v = Faulted e v

abbrev pub Ended : Json → Result Unit ReadFault → Verdict → Type 0
Ended j (Ok u) v = v ≡ spelled j
Ended j (Err e) v = Faulted e v

-- the last value with this name among the members
abbrev pub last_of : List ℕ → List (List ℕ × Json) → Option Json
last_of name ms = find_member name (settled [] ms)

-- what the reader keeps of the members ms
abbrev pub Watches : List (List ℕ × Json) → Option (List ℕ) → Option ℤ → Type 0
Watches ms name moment =
    (name ≡ nonempty (text_in (last_of (codes "certname") ms)))
    × (moment ≡ stamp_in (text_in (last_of (codes "producer_timestamp") ms)))
