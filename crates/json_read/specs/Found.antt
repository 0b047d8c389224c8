-- How the results of the reader's functions relate to the verdict of the machine.
use Rattle.std.specs.Prelude.{◌≡◌, ◌⊎◌, ◌+◌, ◌≤◌, ℕ, suc, List, [], ◌∷◌, Bool, true, false, length, drop, map, reverse, slice_index, Option, Result, Ok, Err, Some, None}
use Rattle.json_machine.specs.text_spec.Json as spec
use Rattle.json_machine.specs.text_spec.Json.{levels, items_of, items_levels, members_of, members_levels, settled}
use Rattle.json_tree.specs.Tree.{json_of, pairs}
use Rattle.json_machine.specs.Machine as machine
use Rattle.json_machine.specs.Machine.{OwedVerdict, owed_ends, owed_stuck, TextVerdict, text_ends, text_stuck, Verdict, spelled, not_json, too_deep, is_space, step, verdict, begins}
use Rattle.json_tree.specs.declared.tree.Json.{Json}
use Rattle.json_read.specs.declared.stack.Frame.{Frame}
use Rattle.json_read.specs.declared.stack.Frame.TheVariants.{Array, Object}
use Rattle.json_read.specs.declared.stack.Mode.{Mode}
use Rattle.json_read.specs.declared.stack.Mode.TheVariants.{Value, FirstItem, FirstKey, After}
use Rattle.json_read.specs.declared.fault.ReadFault.{ReadFault}
use Rattle.json_read.specs.declared.fault.ReadFault.TheVariants.{NotJson, TooDeep, Memory}

abbrev pub frame_of : Frame → machine.Frame
frame_of (Array js) = machine.in_array js
frame_of (Object ms k) = machine.in_object (pairs ms.items) k

-- the innermost frame is the last of the code's list
abbrev pub frames_of : List Frame → List machine.Frame
frames_of fs = reverse (map frame_of fs)

abbrev pub mode_of : Mode → machine.Mode
mode_of Value = machine.value
mode_of FirstItem = machine.first_item
mode_of FirstKey = machine.first_key
mode_of (After j) = machine.owed [] (json_of j)

abbrev pub Faulted : ReadFault → Verdict → Type 0
Faulted (NotJson at) v = v ≡ not_json at
Faulted (TooDeep at) v = v ≡ too_deep at
Faulted Memory v = Unit {0}

abbrev pub Reads : Result Json ReadFault → Verdict → Type 0
Reads (Ok j) v = v ≡ spelled (json_of j)
Reads (Err e) v = Faulted e v

-- v is the verdict from this mode and offset on, within these frames
abbrev pub Found : List ℕ → List machine.Frame → Result (Mode × ℕ) ReadFault → Verdict → Type 0
Found bytes fs (Ok p) v = v ≡ verdict 127 fs (mode_of p.0) p.1 (drop p.1 bytes)
Found bytes fs (Err e) v = Faulted e v

-- the same for a complete value that is no array and no object
abbrev pub FoundScalar : List ℕ → List machine.Frame → Result (Json × ℕ) ReadFault → Verdict → Type 0
FoundScalar bytes fs (Ok p) v = v ≡ verdict 127 fs (machine.owed [] (json_of p.0)) p.1 (drop p.1 bytes)
FoundScalar bytes fs (Err e) v = Faulted e v

-- an opening bracket or brace
abbrev pub IsOpening : ℕ → Type 0
IsOpening b = (b ≡ 91) ⊎ (b ≡ 123)

-- A run of members after a brace or comma, read in one loop while their values are scalars: the members so far, and where the
-- object ends or where a value begins after the key k.
abbrev pub MembersRun : List ℕ → List machine.Frame → List (List ℕ × spec.Json) → Result (Option (List ℕ) × ℕ) ReadFault → Verdict → Type 0
MembersRun bytes fs ms (Ok (None, at)) v = v ≡ verdict 127 fs (machine.owed [] (spec.object (members_of (settled [] ms)))) (at + 1) (drop (at + 1) bytes)
MembersRun bytes fs ms (Ok (Some k, at)) v = v ≡ begins 127 (machine.in_object ms k ∷ fs) (slice_index bytes at) at (drop (at + 1) bytes)
MembersRun bytes fs ms (Err e) v = Faulted e v

-- The same for items after a bracket or comma: where the array ends, or where a value begins.
abbrev pub ItemsRun : List ℕ → List machine.Frame → List spec.Json → Result (Bool × ℕ) ReadFault → Verdict → Type 0
ItemsRun bytes fs js (Ok (true, at)) v = v ≡ verdict 127 fs (machine.owed [] (spec.array (items_of js))) (at + 1) (drop (at + 1) bytes)
ItemsRun bytes fs js (Ok (false, at)) v = v ≡ begins 127 (machine.in_array js ∷ fs) (slice_index bytes at) at (drop (at + 1) bytes)
ItemsRun bytes fs js (Err e) v = Faulted e v

-- the key, and where its value begins
abbrev pub KeyFound : List ℕ → List machine.Frame → List (List ℕ × spec.Json) → Result (List ℕ × ℕ) ReadFault → Verdict → Type 0
KeyFound bytes fs ms (Ok p) v = v ≡ begins 127 (machine.in_object ms p.0 ∷ fs) (slice_index bytes p.1) p.1 (drop (p.1 + 1) bytes)
KeyFound bytes fs ms (Err e) v = Faulted e v

-- where the value of this key begins
abbrev pub ColonFound : List ℕ → List machine.Frame → List (List ℕ × spec.Json) → List ℕ → Result ℕ ReadFault → Verdict → Type 0
ColonFound bytes fs ms k (Ok at) v = v ≡ begins 127 (machine.in_object ms k ∷ fs) (slice_index bytes at) at (drop (at + 1) bytes)
ColonFound bytes fs ms k (Err e) v = Faulted e v

abbrev pub PassesSpace : machine.Mode → Type 0
PassesSpace m = (n : ℕ) (fs : List machine.Frame) (b : ℕ) → is_space b ≡ true → step n fs m b ≡ Some (fs, m)

abbrev pub owed_found : List ℕ → Result ℕ ℕ → OwedVerdict
owed_found bytes (Ok end) = owed_ends end (drop end bytes)
owed_found bytes (Err at) = owed_stuck at

-- the values nest within the limit, counting the open containers around them
abbrev pub Fits : List machine.Frame → Type 0
Fits [] = Unit {0}
Fits (machine.in_array js ∷ fs) = (items_levels (items_of js) + suc (length fs) ≤ 127) × Fits fs
Fits (machine.in_object ms k ∷ fs) = (members_levels (members_of ms) + suc (length fs) ≤ 127) × Fits fs

abbrev pub FitsMode : ℕ → Mode → Type 0
FitsMode depth Value = depth ≤ 127
FitsMode depth FirstItem = suc depth ≤ 127
FitsMode depth FirstKey = suc depth ≤ 127
FitsMode depth (After j) = levels (json_of j) + depth ≤ 127

-- the value is read, unless memory runs out
abbrev pub IsReadOf : spec.Json → Result Json ReadFault → Type 0
IsReadOf v (Ok j) = json_of j ≡ v
IsReadOf v (Err (NotJson at)) = ⊥
IsReadOf v (Err (TooDeep at)) = ⊥
IsReadOf v (Err Memory) = Unit {0}
