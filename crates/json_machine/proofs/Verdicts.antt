-- The verdict on a text goes by the verdict on the string, number or literal that stands there.
use Rattle.std.proofs.Common.{◌≡◌, ℕ, ◌+◌, List, [], ◌∷◌, ◌++◌, refl, Bool, true, false, Option, Some, None}
use Rattle.std.specs.Prelude.{option_map}
use Rattle.text_spec.specs.Json as spec
use Rattle.text_spec.specs.Json.{Json}
use Rattle.std.specs.Prelude.{◌==◌, if◌then◌else◌}
use Rattle.json_machine.specs.Machine.{OwedVerdict, owed_ends, owed_stuck, owed_verdict, NumberState, may_end, number_step, number_on, TextState, Reading, within, closed, text_step, Frame, key, colon, owed, number, string, as_string, as_key, TextVerdict, text_ends, text_stuck, text_next, text_verdict, NumberVerdict, number_ends, number_stuck, number_next, number_stop, number_verdict, Verdict, not_json, refused, next, verdict}

abbrev pub by_string : ℕ → List Frame → TextVerdict → Verdict
by_string n fs (text_ends f k rest) = verdict n fs (owed [] (spec.string f)) k rest
by_string n fs (text_stuck k) = not_json k

abbrev pub by_key : ℕ → List Frame → List (List ℕ × Json) → TextVerdict → Verdict
by_key n fs ms (text_ends f k rest) = verdict n fs (colon ms f) k rest
by_key n fs ms (text_stuck k) = not_json k

abbrev pub by_number : ℕ → List Frame → NumberVerdict → Verdict
by_number n fs (number_ends s k rest) = verdict n fs (owed [] (spec.number s)) k rest
by_number n fs (number_stuck k) = not_json k

string_step : (n : ℕ) (fs : List Frame) (o : Option Reading) (at : ℕ) (bs : List ℕ) → ((t : TextState) (s : List ℕ) → verdict n fs (string t s) (at + 1) bs ≡ by_string n fs (text_verdict t s (at + 1) bs)) → next (option_map (as_string fs) o) (refused (option_map (as_string fs) o) at) (λ q. verdict n q.0 q.1 (at + 1) bs) ≡ by_string n fs (text_next o at bs (λ t s. text_verdict t s (at + 1) bs))
string_step n fs None at bs more = refl
string_step n fs (Some (within t s)) at bs more = more t s
string_step n fs (Some (closed s)) at bs more = refl

pub verdict-string : (n : ℕ) (fs : List Frame) (bs : List ℕ) (at : ℕ) (t : TextState) (s : List ℕ) → verdict n fs (string t s) at bs ≡ by_string n fs (text_verdict t s at bs)
verdict-string n [] [] at t s = refl
verdict-string n (f ∷ fs) [] at t s = refl
verdict-string n fs (b ∷ bs) at t s = string_step n fs (text_step t s b) at bs (verdict-string n fs bs (at + 1))

key_step : (n : ℕ) (fs : List Frame) (ms : List (List ℕ × Json)) (o : Option Reading) (at : ℕ) (bs : List ℕ) → ((t : TextState) (s : List ℕ) → verdict n fs (key ms t s) (at + 1) bs ≡ by_key n fs ms (text_verdict t s (at + 1) bs)) → next (option_map (as_key fs ms) o) (refused (option_map (as_key fs ms) o) at) (λ q. verdict n q.0 q.1 (at + 1) bs) ≡ by_key n fs ms (text_next o at bs (λ t s. text_verdict t s (at + 1) bs))
key_step n fs ms None at bs more = refl
key_step n fs ms (Some (within t s)) at bs more = more t s
key_step n fs ms (Some (closed s)) at bs more = refl

pub verdict-key : (n : ℕ) (fs : List Frame) (ms : List (List ℕ × Json)) (bs : List ℕ) (at : ℕ) (t : TextState) (s : List ℕ) → verdict n fs (key ms t s) at bs ≡ by_key n fs ms (text_verdict t s at bs)
verdict-key n [] ms [] at t s = refl
verdict-key n (f ∷ fs) ms [] at t s = refl
verdict-key n fs ms (b ∷ bs) at t s = key_step n fs ms (text_step t s b) at bs (verdict-key n fs ms bs (at + 1))

number_goes : (n : ℕ) (fs : List Frame) (o : Option NumberState) (e : Bool) (s : List ℕ) (b at : ℕ) (bs : List ℕ) → ((t : NumberState) (s : List ℕ) → verdict n fs (number t s) (at + 1) bs ≡ by_number n fs (number_verdict t s (at + 1) bs)) → next (number_on fs e s b o) (refused (number_on fs e s b o) at) (λ q. verdict n q.0 q.1 (at + 1) bs) ≡ by_number n fs (number_next o (number_stop e s at (b ∷ bs)) (λ t. number_verdict t (s ++ b ∷ []) (at + 1) bs))
number_goes n fs None true s b at bs more = refl
number_goes n fs None false s b at bs more = refl
number_goes n fs (Some t) true s b at bs more = more t _
number_goes n fs (Some t) false s b at bs more = more t _

number_last : (n : ℕ) (fs : List Frame) (t : NumberState) (e : Bool) (s : List ℕ) (at : ℕ) → may_end t ≡ e → verdict n fs (number t s) at [] ≡ by_number n fs (number_stop e s at [])
number_last n [] t true s at e = rw e refl
number_last n [] t false s at e = rw e refl
number_last n (f ∷ fs) t true s at e = refl
number_last n (f ∷ fs) t false s at e = refl

pub verdict-number : (n : ℕ) (fs : List Frame) (bs : List ℕ) (at : ℕ) (t : NumberState) (s : List ℕ) → verdict n fs (number t s) at bs ≡ by_number n fs (number_verdict t s at bs)
verdict-number n fs [] at t s = number_last n fs t (may_end t) s at refl
verdict-number n fs (b ∷ bs) at t s = number_goes n fs (number_step t b) (may_end t) s b at bs (verdict-number n fs bs (at + 1))

abbrev pub by_owed : ℕ → List Frame → Json → OwedVerdict → Verdict
by_owed n fs j (owed_ends k rest) = verdict n fs (owed [] j) k rest
by_owed n fs j (owed_stuck k) = not_json k

owed_step : (n : ℕ) (fs : List Frame) (j : Json) (e : Bool) (cs : List ℕ) (at : ℕ) (bs : List ℕ) → verdict n fs (owed cs j) (at + 1) bs ≡ by_owed n fs j (owed_verdict cs (at + 1) bs) → next (if e then Some (fs, owed cs j) else None) (refused (if e then Some (fs, owed cs j) else None) at) (λ q. verdict n q.0 q.1 (at + 1) bs) ≡ by_owed n fs j (if e then owed_verdict cs (at + 1) bs else owed_stuck at)
owed_step n fs j true cs at bs more = more
owed_step n fs j false cs at bs more = refl

pub verdict-owed : (n : ℕ) (fs : List Frame) (j : Json) (cs : List ℕ) (at : ℕ) (bs : List ℕ) → verdict n fs (owed cs j) at bs ≡ by_owed n fs j (owed_verdict cs at bs)
verdict-owed n fs j [] at bs = refl
verdict-owed n [] j (c ∷ cs) at [] = refl
verdict-owed n (f ∷ fs) j (c ∷ cs) at [] = refl
verdict-owed n fs j (c ∷ cs) at (b ∷ bs) = owed_step n fs j (b == c) cs at bs (verdict-owed n fs j cs (at + 1) bs)
