-- A machine that reads a JSON text byte by byte. Only laws and private clauses use it.
--
-- Numbers and strings have machines of their own, which know nothing of the open containers. The machine of values holds their
-- state on top of a stack of the open arrays and objects, innermost first. An object is pushed when the colon after a key
-- arrives, an array when its first item begins. So every frame is complete, and the nesting level is the length of the stack. One
-- mode, `owed`, covers literals, closed strings and closed containers: once no byte is owed, the value is complete.
--
-- From every state that these types allow, some bytes complete the text (proofs/Completion). This makes the position of a fault
-- exact. So \uD is a state apart from \u, and the states inside a character depend on what its first byte allows. If you add a
-- state, add its completion there.
use Rattle.std.specs.Prelude.{ℕ, zero, suc, ◌+◌, ◌-◌, ◌*◌, List, [], ◌∷◌, ◌++◌, length, Bool, true, false, ◌&&◌, ◌||◌, ◌==◌, nat_lt, nat_le, if◌then◌else◌, Option, Some, None, option_map, codes}
use Rattle.std.specs.Char.{encode_utf8, digit_value, is_ascii_digit}
use Rattle.text_spec.specs.Json as spec
use Rattle.text_spec.specs.Json.{Json, items_of, members_of, settled}
use Rattle.text_spec.specs.JsonText.{is_short, short_meaning}
pub use Rattle.json_machine.specs.Verdict.{Verdict, spelled, not_json, too_deep}

-- ---- numbers (RFC 8259, section 6), by what was read last

pub data NumberState : Type 0 where
  after_minus : NumberState
  after_zero : NumberState
  in_whole : NumberState
  after_dot : NumberState
  in_fraction : NumberState
  after_e : NumberState
  after_sign : NumberState
  in_exponent : NumberState

abbrev pub to_power : ℕ → Option NumberState
to_power b = if (b == 101) || (b == 69) then Some after_e else None

abbrev pub to_point : ℕ → Option NumberState
to_point b = if b == 46 then Some after_dot else to_power b

abbrev pub to_digits : ℕ → NumberState → Option NumberState → Option NumberState
to_digits b s other = if is_ascii_digit b then Some s else other

abbrev pub number_step : NumberState → ℕ → Option NumberState
number_step after_minus b = if b == 48 then Some after_zero else to_digits b in_whole None
number_step after_zero b = to_point b
number_step in_whole b = to_digits b in_whole (to_point b)
number_step after_dot b = to_digits b in_fraction None
number_step in_fraction b = to_digits b in_fraction (to_power b)
number_step after_e b = if (b == 43) || (b == 45) then Some after_sign else to_digits b in_exponent None
number_step after_sign b = to_digits b in_exponent None
number_step in_exponent b = to_digits b in_exponent None

-- the number may end in this state
abbrev pub may_end : NumberState → Bool
may_end after_minus = false
may_end after_zero = true
may_end in_whole = true
may_end after_dot = false
may_end in_fraction = true
may_end after_e = false
may_end after_sign = false
may_end in_exponent = true

-- ---- strings (section 7)

pub data TextState : Type 0 where
  inside : TextState
  -- one byte of a character and n more must follow; the last four are after a first byte of E0, ED, F0 or F4
  tail : ℕ → TextState
  tail_e0 : TextState
  tail_ed : TextState
  tail_f0 : TextState
  tail_f4 : TextState
  escape : TextState
  -- after \u; after \uD; one digit and n more must follow the digits v, of no surrogate or of a high one
  hex : TextState
  hex_d : TextState
  unit : ℕ → ℕ → TextState
  high : ℕ → ℕ → TextState
  -- after a high surrogate; after its \; after its \u; after its \uD; one digit and n more must follow
  low_escape : ℕ → TextState
  low_u : ℕ → TextState
  low_hex : ℕ → TextState
  low_d : ℕ → TextState
  low : ℕ → ℕ → ℕ → TextState

-- a string that is being read, with its bytes so far, or a string that has been read
pub data Reading : Type 0 where
  within : TextState → List ℕ → Reading
  closed : List ℕ → Reading

-- appends the byte to the string
abbrev pub on : TextState → List ℕ → ℕ → Option Reading
on t s b = Some (within t (s ++ b ∷ []))

-- after the first byte of a character of several bytes
abbrev pub lead : ℕ → List ℕ → Option Reading
lead b s =
    if nat_lt b 0xC2 then None
    else (if nat_lt b 0xE0 then on (tail 0) s b
    else (if b == 0xE0 then on tail_e0 s b
    else (if b == 0xED then on tail_ed s b
    else (if nat_lt b 0xF0 then on (tail 1) s b
    else (if b == 0xF0 then on tail_f0 s b
    else (if nat_lt b 0xF4 then on (tail 2) s b
    else (if b == 0xF4 then on tail_f4 s b
    else None)))))))

abbrev pub after_tail : ℕ → TextState
after_tail zero = inside
after_tail (suc n) = tail n

abbrev pub tail_on : ℕ → ℕ → TextState → List ℕ → ℕ → Option Reading
tail_on lo hi t s b = if nat_le lo b && nat_le b hi then on t s b else None

-- n more digits must follow the digits v
abbrev pub unit_left : ℕ → ℕ → List ℕ → Reading
unit_left zero v s = within inside (s ++ encode_utf8 v)
unit_left (suc n) v s = within (unit n v) s

abbrev pub high_left : ℕ → ℕ → List ℕ → Reading
high_left zero v s = within (low_escape v) s
high_left (suc n) v s = within (high n v) s

abbrev pub low_left : ℕ → ℕ → ℕ → List ℕ → Reading
low_left h zero v s = within inside (s ++ encode_utf8 (65_536 + (h - 55_296) * 1_024 + (v - 56_320)))
low_left h (suc n) v s = within (low h n v) s

abbrev pub is_hex : ℕ → Bool
is_hex b = nat_lt (digit_value b) 16

abbrev pub text_step : TextState → List ℕ → ℕ → Option Reading
text_step inside s b =
    if b == 34 then Some (closed s)
    else (if b == 92 then Some (within escape s)
    else (if nat_lt b 32 then None
    else (if nat_lt b 128 then on inside s b
    else lead b s)))
text_step (tail n) s b = tail_on 128 191 (after_tail n) s b
text_step tail_e0 s b = tail_on 160 191 (tail 0) s b
text_step tail_ed s b = tail_on 128 159 (tail 0) s b
text_step tail_f0 s b = tail_on 144 191 (tail 1) s b
text_step tail_f4 s b = tail_on 128 143 (tail 1) s b
text_step escape s b = if is_short b then Some (within inside (s ++ short_meaning b ∷ [])) else (if b == 117 then Some (within hex s) else None)
text_step hex s b =
    if digit_value b == 13 then Some (within hex_d s)
    else (if is_hex b then Some (within (unit 2 (digit_value b)) s) else None)
text_step hex_d s b =
    if nat_lt (digit_value b) 8 then Some (within (unit 1 (208 + digit_value b)) s)
    else (if nat_lt (digit_value b) 12 then Some (within (high 1 (208 + digit_value b)) s) else None)
text_step (unit n v) s b = if is_hex b then Some (unit_left n (v * 16 + digit_value b) s) else None
text_step (high n v) s b = if is_hex b then Some (high_left n (v * 16 + digit_value b) s) else None
text_step (low_escape h) s b = if b == 92 then Some (within (low_u h) s) else None
text_step (low_u h) s b = if b == 117 then Some (within (low_hex h) s) else None
text_step (low_hex h) s b = if digit_value b == 13 then Some (within (low_d h) s) else None
text_step (low_d h) s b = if nat_le 12 (digit_value b) && is_hex b then Some (within (low h 1 (208 + digit_value b)) s) else None
text_step (low h n v) s b = if is_hex b then Some (low_left h n (v * 16 + digit_value b) s) else None

abbrev pub and_then : {A B : Type 0} → Option A → (A → Option B) → Option B
and_then None f = None
and_then (Some a) f = f a

-- a reading that ends with the bytes
abbrev pub text_on : Reading → Bool → (TextState → List ℕ → Option Reading) → Option Reading
text_on (within t s) ended f = f t s
text_on (closed s) ended f = if ended then Some (closed s) else None

abbrev pub is_nil : List ℕ → Bool
is_nil [] = true
is_nil (b ∷ bs) = false

abbrev pub text_run : TextState → List ℕ → List ℕ → Option Reading
text_run t s [] = Some (within t s)
text_run t s (b ∷ bs) = and_then (text_step t s b) (λ q. text_on q (is_nil bs) (λ t s. text_run t s bs))

-- ---- values, arrays and objects (sections 2 to 5)

-- an array with its items so far, or an object with its members so far and the key of the value being read
pub data Frame : Type 0 where
  in_array : List Json → Frame
  in_object : List (List ℕ × Json) → List ℕ → Frame

pub data Mode : Type 0 where
  value : Mode
  -- after [ and after {
  first_item : Mode
  first_key : Mode
  -- after a comma in an object with these members; within a key; after a key
  next_key : List (List ℕ × Json) → Mode
  key : List (List ℕ × Json) → TextState → List ℕ → Mode
  colon : List (List ℕ × Json) → List ℕ → Mode
  -- these bytes must still follow to complete this value
  owed : List ℕ → Json → Mode
  number : NumberState → List ℕ → Mode
  string : TextState → List ℕ → Mode

abbrev pub State : Type 0
State = List Frame × Mode

abbrev pub is_space : ℕ → Bool
is_space x = (x == 32) || (x == 9) || (x == 10) || (x == 13)

abbrev pub open_level : ℕ → List Frame → Mode → Option State
open_level n fs m = if nat_lt (length fs) n then Some (fs, m) else None

-- a value begins with the byte b
abbrev pub begin : ℕ → List Frame → ℕ → Option State
begin n fs b =
    if b == 91 then open_level n fs first_item
    else (if b == 123 then open_level n fs first_key
    else (if b == 34 then Some (fs, string inside [])
    else (if b == 110 then Some (fs, owed (codes "ull") spec.null)
    else (if b == 116 then Some (fs, owed (codes "rue") (spec.boolean true))
    else (if b == 102 then Some (fs, owed (codes "alse") (spec.boolean false))
    else (if b == 45 then Some (fs, number after_minus (b ∷ []))
    else (if b == 48 then Some (fs, number after_zero (b ∷ []))
    else (if is_ascii_digit b then Some (fs, number in_whole (b ∷ []))
    else None))))))))

-- the byte b follows the value j
abbrev pub close : List Frame → Json → ℕ → Option State
close [] j b = None
close (in_array js ∷ fs) j b =
    if b == 44 then Some (in_array (js ++ j ∷ []) ∷ fs, value)
    else (if b == 93 then Some (fs, owed [] (spec.array (items_of (js ++ j ∷ [])))) else None)
close (in_object ms k ∷ fs) j b =
    if b == 44 then Some (fs, next_key (ms ++ (k, j) ∷ []))
    else (if b == 125 then Some (fs, owed [] (spec.object (members_of (settled [] (ms ++ (k, j) ∷ []))))) else None)

-- the byte b follows the value j, or is white space
abbrev pub after : List Frame → Json → ℕ → Option State
after fs j b = if is_space b then Some (fs, owed [] j) else close fs j b

abbrev pub open_key : List Frame → List (List ℕ × Json) → ℕ → Option State
open_key fs ms b = if b == 34 then Some (fs, key ms inside []) else None

abbrev pub as_string : List Frame → Reading → State
as_string fs (within t s) = (fs, string t s)
as_string fs (closed s) = (fs, owed [] (spec.string s))

abbrev pub as_key : List Frame → List (List ℕ × Json) → Reading → State
as_key fs ms (within t s) = (fs, key ms t s)
as_key fs ms (closed k) = (fs, colon ms k)

-- the byte b continues the number s, or follows it
abbrev pub number_on : List Frame → Bool → List ℕ → ℕ → Option NumberState → Option State
number_on fs ends s b (Some t) = Some (fs, number t (s ++ b ∷ []))
number_on fs ends s b None = if ends then after fs (spec.number s) b else None

-- ---- one byte; n levels may be open

abbrev pub step : ℕ → List Frame → Mode → ℕ → Option State
step n fs value b = if is_space b then Some (fs, value) else begin n fs b
step n fs first_item b =
    if is_space b then Some (fs, first_item)
    else (if b == 93 then Some (fs, owed [] (spec.array spec.no_items)) else begin n (in_array [] ∷ fs) b)
step n fs first_key b =
    if is_space b then Some (fs, first_key)
    else (if b == 125 then Some (fs, owed [] (spec.object spec.no_members)) else open_key fs [] b)
step n fs (next_key ms) b = if is_space b then Some (fs, next_key ms) else open_key fs ms b
step n fs (key ms t s) b = option_map (as_key fs ms) (text_step t s b)
step n fs (colon ms k) b =
    if is_space b then Some (fs, colon ms k)
    else (if b == 58 then Some (in_object ms k ∷ fs, value) else None)
step n fs (owed [] j) b = after fs j b
step n fs (owed (c ∷ cs) j) b = if b == c then Some (fs, owed cs j) else None
step n fs (number t s) b = number_on fs (may_end t) s b (number_step t b)
step n fs (string t s) b = option_map (as_string fs) (text_step t s b)

-- the value of the text, if the text may end here
abbrev pub finish : List Frame → Mode → Option Json
finish [] (owed [] j) = Some j
finish [] (number t s) = if may_end t then Some (spec.number s) else None
finish fs m = None

-- the value of the whole text
abbrev pub read : ℕ → List Frame → Mode → List ℕ → Option Json
read n fs m [] = finish fs m
read n fs m (b ∷ bs) = and_then (step n fs m b) (λ q. read n q.0 q.1 bs)

-- the state of the machine after a part of the text
abbrev pub run : ℕ → List Frame → Mode → List ℕ → Option State
run n fs m [] = Some (fs, m)
run n fs m (b ∷ bs) = and_then (step n fs m b) (λ q. run n q.0 q.1 bs)

-- ---- the verdict on a text, with the offsets of faults; `at` is the offset of the first byte

pub data TextVerdict : Type 0 where
  -- the string's bytes, the offset after its closing quote, and the bytes that follow
  text_ends : List ℕ → ℕ → List ℕ → TextVerdict
  text_stuck : ℕ → TextVerdict

abbrev pub text_next : Option Reading → ℕ → List ℕ → (TextState → List ℕ → TextVerdict) → TextVerdict
text_next None at bs f = text_stuck at
text_next (Some (within t s)) at bs f = f t s
text_next (Some (closed s)) at bs f = text_ends s (at + 1) bs

abbrev pub text_verdict : TextState → List ℕ → ℕ → List ℕ → TextVerdict
text_verdict t s at [] = text_stuck at
text_verdict t s at (b ∷ bs) = text_next (text_step t s b) at bs (λ t s. text_verdict t s (at + 1) bs)

pub data NumberVerdict : Type 0 where
  number_ends : List ℕ → ℕ → List ℕ → NumberVerdict
  number_stuck : ℕ → NumberVerdict

abbrev pub number_next : Option NumberState → NumberVerdict → (NumberState → NumberVerdict) → NumberVerdict
number_next None stop f = stop
number_next (Some t) stop f = f t

abbrev pub number_stop : Bool → List ℕ → ℕ → List ℕ → NumberVerdict
number_stop true s at bs = number_ends s at bs
number_stop false s at bs = number_stuck at

abbrev pub number_verdict : NumberState → List ℕ → ℕ → List ℕ → NumberVerdict
number_verdict t s at [] = number_stop (may_end t) s at []
number_verdict t s at (b ∷ bs) = number_next (number_step t b) (number_stop (may_end t) s at (b ∷ bs)) (λ t. number_verdict t (s ++ b ∷ []) (at + 1) bs)

abbrev pub at_end : Option Json → ℕ → Verdict
at_end (Some j) at = spelled j
at_end None at = not_json at

-- the byte b is refused; one more level might allow it
abbrev pub refused : Option State → ℕ → Verdict
refused (Some q) at = too_deep at
refused None at = not_json at

abbrev pub next : Option State → Verdict → (State → Verdict) → Verdict
next None fault f = fault
next (Some q) fault f = f q

abbrev pub verdict : ℕ → List Frame → Mode → ℕ → List ℕ → Verdict
verdict n fs m at [] = at_end (finish fs m) at
verdict n fs m at (b ∷ bs) = next (step n fs m b) (refused (step (suc n) fs m b) at) (λ q. verdict n q.0 q.1 (at + 1) bs)

-- ---- parts of a verdict

-- the verdict on the owed bytes
pub data OwedVerdict : Type 0 where
  owed_ends : ℕ → List ℕ → OwedVerdict
  owed_stuck : ℕ → OwedVerdict

abbrev pub owed_verdict : List ℕ → ℕ → List ℕ → OwedVerdict
owed_verdict [] at bs = owed_ends at bs
owed_verdict (c ∷ cs) at [] = owed_stuck at
owed_verdict (c ∷ cs) at (b ∷ bs) = if b == c then owed_verdict cs (at + 1) bs else owed_stuck at

-- the byte b at `at` is no white space, and bs follow it: a value begins, a level opens, a key begins, or a value was complete
-- before it
abbrev pub begins : ℕ → List Frame → ℕ → ℕ → List ℕ → Verdict
begins n fs b at bs = next (begin n fs b) (refused (begin (suc n) fs b) at) (λ q. verdict n q.0 q.1 (at + 1) bs)

abbrev pub opens : ℕ → List Frame → Mode → ℕ → List ℕ → Verdict
opens n fs m at bs = next (open_level n fs m) (refused (open_level (suc n) fs m) at) (λ q. verdict n q.0 q.1 (at + 1) bs)

abbrev pub key_begins : ℕ → List Frame → List (List ℕ × Json) → ℕ → ℕ → List ℕ → Verdict
key_begins n fs ms b at bs = next (open_key fs ms b) (refused (open_key fs ms b) at) (λ q. verdict n q.0 q.1 (at + 1) bs)

abbrev pub closes : ℕ → List Frame → Json → ℕ → ℕ → List ℕ → Verdict
closes n fs j b at bs = next (close fs j b) (refused (close fs j b) at) (λ q. verdict n q.0 q.1 (at + 1) bs)
