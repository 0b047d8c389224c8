-- Steps of the loops over the bytes, and what a value begins with.
use Rattle.std.proofs.Common.{◌≡◌, ◌∙◌, ◌⊎◌, inl, inr, ℕ, zero, suc, ◌+◌, ◌-◌, ◌<◌, ◌≤◌, List, [], ◌∷◌, ◌++◌, length, take, take-add, drop, get_or, append_assoc, refl, sym, ap, true, false, Some, None, Result, Ok, Err, arith, length-drop, nat_lt, ◌==◌, if◌then◌else◌}
use Rattle.std.specs.Prelude.{slice_range, is_ok, OnOk}
use Rattle.std.specs.Char.{is_ascii_digit}
use Rattle.std.proofs.lemmas.List.{drop_more, take_more, get_or-drop, drop-drop}
use Rattle.std.proofs.lemmas.Bool.{cases_lt}
use Rattle.json_machine.proofs.of_plain_laws.Booleans.{eq_not}
use Rattle.json_machine.proofs.Cases.{lt_true, lt_false}
use Rattle.json_machine.specs.Machine.{NumberState, after_minus, after_zero, in_whole, number_step, number_verdict, TextVerdict, text_ends, text_stuck, owed_stuck, owed_verdict, Frame, Mode, number, verdict, begins, opens, too_deep}
use Rattle.json_machine.proofs.NumberReads.{begin_digit}
use Rattle.json_machine.specs.text_spec.Json.{Json}
use Rattle.json_machine.specs.Machine.{TextState, within, lead, text_step, text_next, inside, text_verdict, key_begins, first_item, in_array, is_space}
use Rattle.json_machine.proofs.Verdicts.{by_string, by_key, verdict-key}
use Rattle.json_read.specs.declared.fault.ReadFault.{ReadFault}
use Rattle.json_read.specs.declared.fault.ReadFault.TheVariants.{NotJson, TooDeep, Memory}
use Rattle.json_read.specs.Strings.{text_found, IsPlainAscii}
use Rattle.json_read.specs.Found.{Faulted}

pub slice_more : (xs : List ℕ) (start at : ℕ) → start ≤ at → at < length xs → slice_range xs start (at + 1) ≡ slice_range xs start at ++ get_or xs at 0 ∷ []
slice_more xs start at le lt =
    let one : at + 1 - start ≡ at - start + 1 = omega arith in
    let back : start + (at - start) ≡ at = omega arith in
    ap (λ n. take n (drop start xs)) one
    ∙ take_more (drop start xs) (at - start) 0 (omega (arith, length-drop start xs))
    ∙ ap (λ x. take (at - start) (drop start xs) ++ x ∷ []) (get_or-drop start xs (at - start) 0 ∙ ap (λ i. get_or xs i 0) back)

pub one_byte : (xs : List ℕ) (at b : ℕ) → at < length xs → get_or xs at 0 ≡ b → slice_range xs at (at + 1) ≡ b ∷ []
one_byte xs at b lt e =
    let none : at - at ≡ 0 = omega arith in
    slice_more xs at at (omega arith) lt ∙ (λ i. take (none i) (drop at xs) ++ e i ∷ [])

pub number_more : (bytes : List ℕ) (start at : ℕ) (t u : NumberState) → start ≤ at → at < length bytes → number_step t (get_or bytes at 0) ≡ Some u → number_verdict t (slice_range bytes start at) at (drop at bytes) ≡ number_verdict u (slice_range bytes start (at + 1)) (at + 1) (drop (at + 1) bytes)
number_more bytes start at t u le lt e =
    ap (number_verdict t (slice_range bytes start at) at) (drop_more bytes at 0 lt)
    ∙ rw e (ap (λ s. number_verdict u s (at + 1) (drop (at + 1) bytes)) (sym (slice_more bytes start at le lt)))

pub err_string : (bytes : List ℕ) (e : ReadFault) (fs : List Frame) (v : TextVerdict) → text_found bytes (Err e) v → Faulted e (by_string 127 fs v)
err_string bytes (NotJson at) fs v h = ap (by_string 127 fs) h
err_string bytes (TooDeep at) fs v h = absurd h
err_string bytes Memory fs v h = tt

pub err_key : (bytes : List ℕ) (e : ReadFault) (fs : List Frame) (ms : _) (v : TextVerdict) → text_found bytes (Err e) v → Faulted e (by_key 127 fs ms v)
err_key bytes (NotJson at) fs ms v h = ap (by_key 127 fs ms) h
err_key bytes (TooDeep at) fs ms v h = absurd h
err_key bytes Memory fs ms v h = tt

-- bytes are owed where the text ends
pub owed_past : (owed : List ℕ) (i at : ℕ) → i < length owed → owed_verdict (drop i owed) at [] ≡ owed_stuck at
owed_past owed i at lt = ap (λ cs. owed_verdict cs at []) (drop_more owed i 0 lt)

pub begins_minus : (fs : List Frame) (b at : ℕ) (bs : List ℕ) → b ≡ 45 → begins 127 fs b at bs ≡ verdict 127 fs (number after_minus (b ∷ [])) (at + 1) bs
begins_minus fs b at bs e = rw e refl

pub begins_zero : (fs : List Frame) (b at : ℕ) (bs : List ℕ) → b ≡ 48 → begins 127 fs b at bs ≡ verdict 127 fs (number after_zero (b ∷ [])) (at + 1) bs
begins_zero fs b at bs e = rw e refl

pub begins_digit : (fs : List Frame) (b at : ℕ) (bs : List ℕ) → 49 ≤ b → b ≤ 57 → begins 127 fs b at bs ≡ verdict 127 fs (number in_whole (b ∷ [])) (at + 1) bs
begins_digit fs b at bs l u =
    let digit : is_ascii_digit b ≡ true = grind arith in
    let apart : (b == 48) ≡ false = grind arith in
    rw (begin_digit 127 fs false b apart digit) refl

pub no_room : (fs : List Frame) (m : Mode) (depth at : ℕ) (bs : List ℕ) → length fs ≡ depth → 127 ≤ depth → depth ≤ 127 → opens 127 fs m at bs ≡ too_deep at
no_room fs m depth at bs e l u =
    let shut : nat_lt (length fs) 127 ≡ false = grind arith in
    let ajar : nat_lt (length fs) 128 ≡ true = grind arith in
    rw (shut, ajar) refl

pub key_quote : (fs : List Frame) (ms : List (List ℕ × Json)) (b at : ℕ) (bs : List ℕ) → b ≡ 34 → key_begins 127 fs ms b at bs ≡ by_key 127 fs ms (text_verdict inside [] (at + 1) bs)
key_quote fs ms b at bs e = rw e (verdict-key 127 fs ms bs (at + 1) inside [])

pub item_begins : (fs : List Frame) (b at : ℕ) (bs : List ℕ) → is_space b ≡ false → ¬ (b ≡ 93) → verdict 127 fs first_item at (b ∷ bs) ≡ begins 127 (in_array [] ∷ fs) b at bs
item_begins fs b at bs black other =
    let apart : (b == 93) ≡ false = grind arith in
    rw (black, apart) refl

pub plain_more : (bytes : List ℕ) (start at : ℕ) (t u : TextState) (s : List ℕ) → start ≤ at → at < length bytes → text_step t (s ++ slice_range bytes start at) (get_or bytes at 0) ≡ Some (within u (s ++ slice_range bytes start at ++ get_or bytes at 0 ∷ [])) → text_verdict t (s ++ slice_range bytes start at) at (drop at bytes) ≡ text_verdict u (s ++ slice_range bytes start (at + 1)) (at + 1) (drop (at + 1) bytes)
plain_more bytes start at t u s le lt e =
    ap (text_verdict t (s ++ slice_range bytes start at) at) (drop_more bytes at 0 lt)
    ∙ ap (λ o. text_next o at (drop (at + 1) bytes) (λ t s. text_verdict t s (at + 1) (drop (at + 1) bytes))) e
    ∙ ap (λ z. text_verdict u z (at + 1) (drop (at + 1) bytes)) (append_assoc s (slice_range bytes start at) (get_or bytes at 0 ∷ []) ∙ ap (λ z. s ++ z) (sym (slice_more bytes start at le lt)))

pub quote_ends : (bytes : List ℕ) (at : ℕ) (s : List ℕ) → at < length bytes → get_or bytes at 0 ≡ 34 → text_verdict inside s at (drop at bytes) ≡ text_ends s (at + 1) (drop (at + 1) bytes)
quote_ends bytes at s lt e =
    ap (text_verdict inside s at) (drop_more bytes at 0 lt)
    ∙ rw e refl

pub pushed_on : {T E : Type 0} (r : Result T E) (old new xs ys : List ℕ) → new ≡ (if is_ok r then old ++ xs else old) → xs ≡ ys → OnOk r (new ≡ old ++ ys)
pushed_on (Ok x) old new xs ys e same = e ∙ ap (λ z. old ++ z) same
pushed_on (Err x) old new xs ys e same = tt

pub ascii_step : (b : ℕ) (z : List ℕ) → (32 ≤ b) × (b < 128) × ¬ (b ≡ 34) × ¬ (b ≡ 92) → text_step inside z b ≡ Some (within inside (z ++ b ∷ []))
ascii_step b z h =
    let quote : (b == 34) ≡ false = grind (arith, h.2) in
    let back : (b == 92) ≡ false = grind (arith, h.3) in
    let low : nat_lt b 32 ≡ false = grind (arith, h.0) in
    let high : nat_lt b 128 ≡ true = grind (arith, h.1) in
    rw (quote, back, low, high) refl

-- behind the first byte of a character
pub first_more : (bytes : List ℕ) (start : ℕ) (u : TextState) (s : List ℕ) → start < length bytes → text_step inside s (get_or bytes start 0) ≡ Some (within u (s ++ get_or bytes start 0 ∷ [])) → text_verdict inside s start (drop start bytes) ≡ text_verdict u (s ++ slice_range bytes start (start + 1)) (start + 1) (drop (start + 1) bytes)
first_more bytes start u s lt e =
    ap (text_verdict inside s start) (drop_more bytes start 0 lt)
    ∙ ap (λ o. text_next o start (drop (start + 1) bytes) (λ t s. text_verdict t s (start + 1) (drop (start + 1) bytes))) e
    ∙ ap (λ z. text_verdict u (s ++ z) (start + 1) (drop (start + 1) bytes)) (sym (one_byte bytes start (get_or bytes start 0) lt refl))

pub text_stops : (bytes : List ℕ) (at : ℕ) (t : TextState) (s : List ℕ) → at < length bytes → text_step t s (get_or bytes at 0) ≡ None → text_verdict t s at (drop at bytes) ≡ text_stuck at
text_stops bytes at t s lt e =
    ap (text_verdict t s at) (drop_more bytes at 0 lt)
    ∙ ap (λ o. text_next o at (drop (at + 1) bytes) (λ t s. text_verdict t s (at + 1) (drop (at + 1) bytes))) e

-- a byte that is neither a stop nor plain ASCII begins a character, or none
pub lead_same : (b : ℕ) (s : List ℕ) → ¬ ((b ≡ 34) ⊎ (b ≡ 92)) → (32 ≤ b → 128 ≤ b) → text_step inside s b ≡ lead b s
lead_same b s other high = elim (cases_lt b 32) [
  | inl l ↦ rw (lead_quote, lead_back, lt_true b 32 l, lt_true b 194 (omega (arith, l))) refl
  | inr l ↦ rw (lead_quote, lead_back, lt_false b 32 l, lt_false b 128 (high l)) refl
]
  where
    lead_quote : (b == 34) ≡ false
    lead_quote = eq_not b 34 (λ e. other (inl e))

    lead_back : (b == 92) ≡ false
    lead_back = eq_not b 92 (λ e. other (inr e))

-- pieces of the bytes that follow each other
pub slice_joined : (xs : List ℕ) (start mid end : ℕ) → start ≤ mid → mid ≤ end → slice_range xs start mid ++ slice_range xs mid end ≡ slice_range xs start end
slice_joined xs start mid end a b =
    let whole : (mid - start) + (end - mid) ≡ end - start = omega arith in
    let past : start + (mid - start) ≡ mid = omega arith in
    ap (λ ys. take (mid - start) (drop start xs) ++ take (end - mid) ys) (sym (drop-drop (mid - start) start xs ∙ ap (λ n. drop n xs) past))
    ∙ sym (take-add (mid - start) (end - mid) (drop start xs))
    ∙ ap (λ n. take n (drop start xs)) whole

pub pieces_joined : (xs s : List ℕ) (start a b end : ℕ) → start ≤ a → a ≤ b → b ≤ end → s ++ slice_range xs start a ++ slice_range xs a b ++ slice_range xs b end ≡ s ++ slice_range xs start end
pieces_joined xs s start a b end h k l =
    ap (λ z. z ++ slice_range xs b end) (append_assoc s (slice_range xs start a) (slice_range xs a b) ∙ ap (λ z. s ++ z) (slice_joined xs start a b h k))
    ∙ append_assoc s (slice_range xs start b) (slice_range xs b end)
    ∙ ap (λ z. s ++ z) (slice_joined xs start b end (omega (arith, h, k)) l)

-- so many plain bytes are passed at once
pub plain_run : (bytes : List ℕ) (start at end n : ℕ) (s : List ℕ) → at + n ≡ end → start ≤ at → end ≤ length bytes → ((k : ℕ) → at ≤ k → k < end → IsPlainAscii (get_or bytes k 0)) → text_verdict inside (s ++ slice_range bytes start at) at (drop at bytes) ≡ text_verdict inside (s ++ slice_range bytes start end) end (drop end bytes)
plain_run bytes start at end zero s e le lt all = ap (λ i. text_verdict inside (s ++ slice_range bytes start i) i (drop i bytes)) (omega (arith, e))
plain_run bytes start at end (suc n) s e le lt all =
    plain_more bytes start at inside inside s le (omega (arith, e, lt)) (ascii_step (get_or bytes at 0) (s ++ slice_range bytes start at) (all at (omega arith) (omega (arith, e))))
    ∙ plain_run bytes start (at + 1) end n s (omega (arith, e)) (omega (arith, le)) lt (λ k l u. all k (omega (arith, l)) u)
