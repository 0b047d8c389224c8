-- Law 2: each state of the machine has a completion, bytes that end a text from there.
use Rattle.std.proofs.Common.{◌≡◌, ℕ, zero, suc, List, [], ◌∷◌, ◌++◌, refl, Bool, true, false, Option, Some, None}
use Rattle.text_spec.specs.Json.{Json}
use Rattle.json_machine.specs.Machine.{NumberState, after_minus, after_zero, in_whole, after_dot, in_fraction, after_e, after_sign, in_exponent, may_end, TextState, inside, tail, tail_e0, tail_ed, tail_f0, tail_f4, escape, hex, hex_d, unit, high, low_escape, low_u, low_hex, low_d, low, Reading, within, closed, text_run, Frame, in_array, in_object, Mode, value, first_item, first_key, next_key, key, colon, owed, number, string, read}
use Rattle.json_machine.proofs.Runs.{read-string, read-key, read-owed}

no_truth : false ≡ true → ⊥
no_truth h = cc

-- ---- strings

abbrev pub is_closed : Option Reading → Bool
is_closed None = false
is_closed (Some (within t s)) = false
is_closed (Some (closed s)) = true

abbrev pub zeros : ℕ → List ℕ → List ℕ
zeros zero ds = 48 ∷ ds
zeros (suc n) ds = 48 ∷ zeros n ds

abbrev pub tails : ℕ → List ℕ
tails zero = 128 ∷ 34 ∷ []
tails (suc n) = 128 ∷ tails n

abbrev pub low_pair : List ℕ
low_pair = 92 ∷ 117 ∷ 68 ∷ 67 ∷ 48 ∷ 48 ∷ 34 ∷ []

abbrev pub text_end : TextState → List ℕ
text_end inside = 34 ∷ []
text_end (tail n) = tails n
text_end tail_e0 = 160 ∷ 128 ∷ 34 ∷ []
text_end tail_ed = 128 ∷ 128 ∷ 34 ∷ []
text_end tail_f0 = 144 ∷ 128 ∷ 128 ∷ 34 ∷ []
text_end tail_f4 = 128 ∷ 128 ∷ 128 ∷ 34 ∷ []
text_end escape = 34 ∷ 34 ∷ []
text_end hex = 48 ∷ 48 ∷ 48 ∷ 48 ∷ 34 ∷ []
text_end hex_d = 48 ∷ 48 ∷ 48 ∷ 34 ∷ []
text_end (unit n v) = zeros n (34 ∷ [])
text_end (high n v) = zeros n low_pair
text_end (low_escape h) = low_pair
text_end (low_u h) = 117 ∷ 68 ∷ 67 ∷ 48 ∷ 48 ∷ 34 ∷ []
text_end (low_hex h) = 68 ∷ 67 ∷ 48 ∷ 48 ∷ 34 ∷ []
text_end (low_d h) = 67 ∷ 48 ∷ 48 ∷ 34 ∷ []
text_end (low h n v) = zeros n (34 ∷ [])

tail_ends : (n : ℕ) (s : List ℕ) → is_closed (text_run (tail n) s (tails n)) ≡ true
tail_ends zero s = refl
tail_ends (suc n) s = tail_ends n (s ++ 128 ∷ [])

unit_ends : (n v : ℕ) (s : List ℕ) → is_closed (text_run (unit n v) s (zeros n (34 ∷ []))) ≡ true
unit_ends zero v s = refl
unit_ends (suc n) v s = unit_ends n _ s

high_ends : (n v : ℕ) (s : List ℕ) → is_closed (text_run (high n v) s (zeros n low_pair)) ≡ true
high_ends zero v s = refl
high_ends (suc n) v s = high_ends n _ s

low_ends : (h n v : ℕ) (s : List ℕ) → is_closed (text_run (low h n v) s (zeros n (34 ∷ []))) ≡ true
low_ends h zero v s = refl
low_ends h (suc n) v s = low_ends h n _ s

pub text_ends : (t : TextState) (s : List ℕ) → is_closed (text_run t s (text_end t)) ≡ true
text_ends inside s = refl
text_ends (tail n) s = tail_ends n s
text_ends tail_e0 s = refl
text_ends tail_ed s = refl
text_ends tail_f0 s = refl
text_ends tail_f4 s = refl
text_ends escape s = refl
text_ends hex s = refl
text_ends hex_d s = refl
text_ends (unit n v) s = unit_ends n v s
text_ends (high n v) s = high_ends n v s
text_ends (low_escape h) s = refl
text_ends (low_u h) s = refl
text_ends (low_hex h) s = refl
text_ends (low_d h) s = refl
text_ends (low h n v) s = low_ends h n v s

closed_is : (o : Option Reading) → is_closed o ≡ true → (f : List ℕ) × (o ≡ Some (closed f))
closed_is None h = absurd (no_truth h)
closed_is (Some (within t s)) h = absurd (no_truth h)
closed_is (Some (closed s)) h = (s, refl)

-- ---- values

abbrev pub closing : List Frame → List ℕ
closing [] = []
closing (in_array js ∷ fs) = 93 ∷ closing fs
closing (in_object ms k ∷ fs) = 125 ∷ closing fs

abbrev pub number_end : NumberState → List ℕ
number_end after_minus = 48 ∷ []
number_end after_zero = []
number_end in_whole = []
number_end after_dot = 48 ∷ []
number_end in_fraction = []
number_end after_e = 48 ∷ []
number_end after_sign = 48 ∷ []
number_end in_exponent = []

abbrev pub member_end : List Frame → List ℕ
member_end fs = 58 ∷ 34 ∷ 34 ∷ 125 ∷ closing fs

abbrev pub completion : List Frame → Mode → List ℕ
completion fs value = 34 ∷ 34 ∷ closing fs
completion fs first_item = 93 ∷ closing fs
completion fs first_key = 125 ∷ closing fs
completion fs (next_key ms) = 34 ∷ 34 ∷ member_end fs
completion fs (key ms t s) = text_end t ++ member_end fs
completion fs (colon ms k) = member_end fs
completion fs (owed cs j) = cs ++ closing fs
completion fs (number t s) = number_end t ++ closing fs
completion fs (string t s) = text_end t ++ closing fs

abbrev pub is_some : Option Json → Bool
is_some None = false
is_some (Some j) = true

closes : (n : ℕ) (fs : List Frame) (j : Json) → is_some (read n fs (owed [] j) (closing fs)) ≡ true
closes n [] j = refl
closes n (in_array js ∷ fs) j = closes n fs _
closes n (in_object ms k ∷ fs) j = closes n fs _

-- a number that may end is ended by what closes
number_closes : (n : ℕ) (fs : List Frame) (t : NumberState) (s : List ℕ) → may_end t ≡ true → is_some (read n fs (number t s) (closing fs)) ≡ true
number_closes n [] after_zero s h = refl
number_closes n [] in_whole s h = refl
number_closes n [] in_fraction s h = refl
number_closes n [] in_exponent s h = refl
number_closes n (in_array js ∷ fs) after_zero s h = closes n fs _
number_closes n (in_array js ∷ fs) in_whole s h = closes n fs _
number_closes n (in_array js ∷ fs) in_fraction s h = closes n fs _
number_closes n (in_array js ∷ fs) in_exponent s h = closes n fs _
number_closes n (in_object ms k ∷ fs) after_zero s h = closes n fs _
number_closes n (in_object ms k ∷ fs) in_whole s h = closes n fs _
number_closes n (in_object ms k ∷ fs) in_fraction s h = closes n fs _
number_closes n (in_object ms k ∷ fs) in_exponent s h = closes n fs _
number_closes n fs after_minus s h = absurd (no_truth h)
number_closes n fs after_dot s h = absurd (no_truth h)
number_closes n fs after_e s h = absurd (no_truth h)
number_closes n fs after_sign s h = absurd (no_truth h)

number_completes : (n : ℕ) (fs : List Frame) (t : NumberState) (s : List ℕ) → is_some (read n fs (number t s) (number_end t ++ closing fs)) ≡ true
number_completes n fs after_minus s = number_closes n fs after_zero _ refl
number_completes n fs after_zero s = number_closes n fs after_zero s refl
number_completes n fs in_whole s = number_closes n fs in_whole s refl
number_completes n fs after_dot s = number_closes n fs in_fraction _ refl
number_completes n fs in_fraction s = number_closes n fs in_fraction s refl
number_completes n fs after_e s = number_closes n fs in_exponent _ refl
number_completes n fs after_sign s = number_closes n fs in_exponent _ refl
number_completes n fs in_exponent s = number_closes n fs in_exponent s refl

-- ---- law 2
pub completes : (n : ℕ) (fs : List Frame) (m : Mode) → is_some (read n fs m (completion fs m)) ≡ true
completes n fs value = closes n fs _
completes n fs first_item = closes n fs _
completes n fs first_key = closes n fs _
completes n fs (next_key ms) = closes n fs _
completes n fs (key ms t s) =
    let e = closed_is (text_run t s (text_end t)) (text_ends t s) in
    rw (read-key n fs e.0 (member_end fs) ms (text_end t) t s e.1) (closes n fs _)
completes n fs (colon ms k) = closes n fs _
completes n fs (owed cs j) = rw (read-owed n fs j cs (closing fs)) (closes n fs j)
completes n fs (number t s) = number_completes n fs t s
completes n fs (string t s) =
    let e = closed_is (text_run t s (text_end t)) (text_ends t s) in
    rw (read-string n fs e.0 (closing fs) (text_end t) t s e.1) (closes n fs _)
