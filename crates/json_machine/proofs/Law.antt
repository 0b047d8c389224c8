-- The machine's verdict is true of the text: laws 1 to 3 put together.
use Rattle.std.proofs.Common.{◌≡◌, ◌∙◌, inl, inr, ℕ, suc, ◌+◌, ◌==◌, List, [], ◌∷◌, ◌++◌, length, take, drop, refl, sym, ap, subst, Bool, true, false, Option, Some, None, arith, append_assoc, nat_lt, if◌then◌else◌}
use Rattle.std.proofs.lemmas.List.{append-nil, length-append, take-append-drop}
use Rattle.std.proofs.lemmas.Bool.{cases_lt}
use Rattle.text_spec.proofs.of_plain_laws.Lists.{take-whole}
use Rattle.text_spec.proofs.of_plain_laws.Options.{none_some, some_same}
use Rattle.text_spec.specs.Json.{Json}
use Rattle.text_spec.specs.JsonText.{SpellsWithin, Spells, Begins, NotJsonAt, TooDeepAt, element_text}
use Rattle.json_machine.specs.Verdict.{Verdict, spelled, not_json, too_deep, Means}
use Rattle.json_machine.specs.Machine.{in_array, first_item, first_key, next_key, key, colon, owed, number, string, is_space, open_level, begin, Frame, Mode, value, State, step, finish, and_then, read, run, at_end, refused, next, verdict}
use Rattle.json_machine.proofs.Runs.{read-append, run-append}
use Rattle.json_machine.proofs.Completion.{is_some, completion, completes}
use Rattle.json_machine.proofs.Trees.{read-element}
use Rattle.json_machine.proofs.Sound.{read_spells}

-- ---- the value: laws 1 and 3

pub spells_read : (n : ℕ) (bytes : List ℕ) (v : Json) → SpellsWithin n bytes v → read n [] value bytes ≡ Some v
spells_read n bytes v s =
    ap (read n [] value) (s.bytes_are ∙ sym (append-nil (element_text s.tree)))
    ∙ read-element n s.tree [] [] s.is_tree (omega (arith, s.levels)) refl
    ∙ ap Some (sym s.value_is)

-- a text spells one value
pub one_value : (n : ℕ) (bytes : List ℕ) (v w : Json) → SpellsWithin n bytes v → SpellsWithin n bytes w → v ≡ w
one_value n bytes v w a b = some_same w v (sym (spells_read n bytes w b) ∙ spells_read n bytes v a)

-- ---- fronts: law 2

some_is : (o : Option Json) → is_some o ≡ true → (v : Json) × (o ≡ Some v)
some_is None h = absurd (never h)
  where
    never : false ≡ true → ⊥
    never h = cc
some_is (Some v) h = (v, refl)

-- where the machine stands, some text goes on
pub run_begins : (n : ℕ) (front : List ℕ) (q : State) → run n [] value front ≡ Some q → Begins n front
run_begins n front q e =
    let more = completion q.0 q.1 in
    let c = some_is (read n q.0 q.1 more) (completes n q.0 q.1) in
    record { rest = more; value = c.0; spells = read_spells n c.0 (front ++ more) (read-append n front more [] value ∙ ap (λ o. and_then o (λ q. read n q.0 q.1 more)) e ∙ c.1) }

-- where it refuses a byte, none does
pub stuck_begins : (n : ℕ) (front : List ℕ) (b : ℕ) (q : State) → run n [] value front ≡ Some q → step n q.0 q.1 b ≡ None → Begins n (front ++ b ∷ []) → ⊥
stuck_begins n front b q e stuck g =
    let whole : read n [] value (front ++ b ∷ [] ++ g.rest) ≡ Some g.value = spells_read n (front ++ b ∷ [] ++ g.rest) g.value g.spells in
    let past : read n [] value (front ++ (b ∷ g.rest)) ≡ None = read-append n front (b ∷ g.rest) [] value ∙ ap (λ o. and_then o (λ q. read n q.0 q.1 (b ∷ g.rest))) e ∙ ap (λ o. and_then o (λ q. read n q.0 q.1 g.rest)) stuck in
    none_some g.value (sym past ∙ sym (ap (read n [] value) (append_assoc front (b ∷ []) g.rest)) ∙ whole)

-- ---- the verdict

-- where and how the machine stops
pub record Stops (n : ℕ) (fs : List Frame) (m : Mode) (at : ℕ) (bs : List ℕ) (k : ℕ) : Type 0 where
  pub front : List ℕ
  pub behind : List ℕ
  pub state : State
  pub place : k ≡ at + length front
  pub bytes : bs ≡ front ++ behind
  pub ran : run n fs m front ≡ Some state

-- it refuses a byte, or the end
abbrev pub Refuses : ℕ → State → List ℕ → Type 0
Refuses n q [] = finish q.0 q.1 ≡ None
Refuses n q (b ∷ bs) = (step n q.0 q.1 b ≡ None) × (step (suc n) q.0 q.1 b ≡ None)

abbrev pub IsTooDeep : ℕ → State → List ℕ → Type 0
IsTooDeep n q [] = ⊥
IsTooDeep n q (b ∷ bs) = (step n q.0 q.1 b ≡ None) × ((p : State) × (step (suc n) q.0 q.1 b ≡ Some p))

abbrev pub Says : ℕ → List Frame → Mode → ℕ → List ℕ → Verdict → Type 0
Says n fs m at bs (spelled v) = read n fs m bs ≡ Some v
Says n fs m at bs (not_json k) = (s : Stops n fs m at bs k) × Refuses n s.state s.behind
Says n fs m at bs (too_deep k) = (s : Stops n fs m at bs k) × IsTooDeep n s.state s.behind

abbrev here : (n : ℕ) (fs : List Frame) (m : Mode) (at : ℕ) (bs : List ℕ) → Stops n fs m at bs at
here n fs m at bs = record { front = []; behind = bs; state = (fs, m); place = omega arith; bytes = refl; ran = refl }

abbrev one_on : (n : ℕ) (fs : List Frame) (m : Mode) (q : State) (at b : ℕ) (bs : List ℕ) (k : ℕ) → step n fs m b ≡ Some q → Stops n q.0 q.1 (at + 1) bs k → Stops n fs m at (b ∷ bs) k
one_on n fs m q at b bs k e s = record {
  front = b ∷ s.front;
  behind = s.behind;
  state = s.state;
  place = omega (arith, s.place);
  bytes = ap (λ x. b ∷ x) s.bytes;
  ran = ap (λ o. and_then o (λ q. run n q.0 q.1 s.front)) e ∙ s.ran;
}

says_on : (n : ℕ) (fs : List Frame) (m : Mode) (q : State) (at b : ℕ) (bs : List ℕ) (v : Verdict) → step n fs m b ≡ Some q → Says n q.0 q.1 (at + 1) bs v → Says n fs m at (b ∷ bs) v
says_on n fs m q at b bs (spelled v) e h = ap (λ o. and_then o (λ q. read n q.0 q.1 bs)) e ∙ h
says_on n fs m q at b bs (not_json k) e h = (one_on n fs m q at b bs k e h.0, h.1)
says_on n fs m q at b bs (too_deep k) e h = (one_on n fs m q at b bs k e h.0, h.1)

refused_says : (n : ℕ) (fs : List Frame) (m : Mode) (at b : ℕ) (bs : List ℕ) (o : Option State) → step n fs m b ≡ None → step (suc n) fs m b ≡ o → Says n fs m at (b ∷ bs) (refused o at)
refused_says n fs m at b bs None e d = (here n fs m at (b ∷ bs), (e, d))
refused_says n fs m at b bs (Some p) e d = (here n fs m at (b ∷ bs), (e, (p, d)))

end_says : (n : ℕ) (fs : List Frame) (m : Mode) (at : ℕ) (o : Option Json) → finish fs m ≡ o → Says n fs m at [] (at_end o at)
end_says n fs m at None e = (here n fs m at [], e)
end_says n fs m at (Some v) e = e

step_says : (n : ℕ) (fs : List Frame) (m : Mode) (at b : ℕ) (bs : List ℕ) (o : Option State) → step n fs m b ≡ o → ((gs : List Frame) (l : Mode) → Says n gs l (at + 1) bs (verdict n gs l (at + 1) bs)) → Says n fs m at (b ∷ bs) (next o (refused (step (suc n) fs m b) at) (λ q. verdict n q.0 q.1 (at + 1) bs))
step_says n fs m at b bs None e more = refused_says n fs m at b bs (step (suc n) fs m b) e refl
step_says n fs m at b bs (Some q) e more = says_on n fs m q at b bs _ e (more q.0 q.1)

pub verdict-says : (n : ℕ) (bs : List ℕ) (fs : List Frame) (m : Mode) (at : ℕ) → Says n fs m at bs (verdict n fs m at bs)
verdict-says n [] fs m at = end_says n fs m at (finish fs m) refl
verdict-says n (b ∷ bs) fs m at = step_says n fs m at b bs (step n fs m b) refl (λ gs l. verdict-says n bs gs l (at + 1))

-- ---- what is taken is taken where more levels are allowed

else_if : {A : Type 0} (c d : Bool) (x u y w z : Option A) (q : A) → (x ≡ Some q → u ≡ Some q) → (y ≡ Some q → w ≡ Some q) → (if c then x else (if d then y else z)) ≡ Some q → (if c then u else (if d then w else z)) ≡ Some q
else_if true d x u y w z q f g h = f h
else_if false true x u y w z q f g h = g h
else_if false false x u y w z q f g h = h

if_else : {A : Type 0} (c : Bool) (x y w : Option A) (q : A) → (y ≡ Some q → w ≡ Some q) → (if c then x else y) ≡ Some q → (if c then x else w) ≡ Some q
if_else true x y w q g h = h
if_else false x y w q g h = g h

lt_more : (a n : ℕ) (c : Bool) → nat_lt a n ≡ c → nat_lt a n ≡ true → nat_lt a (suc n) ≡ true
lt_more a n c e h = grind arith

open_more : (n : ℕ) (fs : List Frame) (m : Mode) (q : State) (c : Bool) → nat_lt (length fs) n ≡ c → open_level n fs m ≡ Some q → open_level (suc n) fs m ≡ Some q
open_more n fs m q true e h = rw (lt_more (length fs) n true e e) (rw e at h)
open_more n fs m q false e h = none_some q (rw e at h)

begin-more : (n : ℕ) (fs : List Frame) (b : ℕ) (q : State) → begin n fs b ≡ Some q → begin (suc n) fs b ≡ Some q
begin-more n fs b q h = else_if (b == 91) (b == 123) _ _ _ _ _ q (open_more n fs first_item q _ refl) (open_more n fs first_key q _ refl) h

step-more : (n : ℕ) (fs : List Frame) (m : Mode) (b : ℕ) (q : State) → step n fs m b ≡ Some q → step (suc n) fs m b ≡ Some q
step-more n fs value b q h = if_else (is_space b) _ _ _ q (begin-more n fs b q) h
step-more n fs first_item b q h = if_else (is_space b) _ _ _ q (if_else (b == 93) _ _ _ q (begin-more n (in_array [] ∷ fs) b q)) h
step-more n fs first_key b q h = h
step-more n fs (next_key ms) b q h = h
step-more n fs (key ms t s) b q h = h
step-more n fs (colon ms k) b q h = h
step-more n fs (owed [] j) b q h = h
step-more n fs (owed (c ∷ cs) j) b q h = h
step-more n fs (number t s) b q h = h
step-more n fs (string t s) b q h = h

run_more_step : (n : ℕ) (fs : List Frame) (m : Mode) (b : ℕ) (bs : List ℕ) (q : State) (o : Option State) → step n fs m b ≡ o → and_then o (λ p. run n p.0 p.1 bs) ≡ Some q → ((gs : List Frame) (l : Mode) → run n gs l bs ≡ Some q → run (suc n) gs l bs ≡ Some q) → run (suc n) fs m (b ∷ bs) ≡ Some q
run_more_step n fs m b bs q None e h more = none_some q h
run_more_step n fs m b bs q (Some p) e h more = ap (λ o. and_then o (λ p. run (suc n) p.0 p.1 bs)) (step-more n fs m b p e) ∙ more p.0 p.1 h

run-more : (n : ℕ) (bs : List ℕ) (q : State) (fs : List Frame) (m : Mode) → run n fs m bs ≡ Some q → run (suc n) fs m bs ≡ Some q
run-more n [] q fs m h = h
run-more n (b ∷ bs) q fs m h = run_more_step n fs m b bs q (step n fs m b) refl h (run-more n bs q)

-- ---- the faults

take_one : (xs : List ℕ) (b : ℕ) (ys : List ℕ) → take (length xs + 1) (xs ++ b ∷ ys) ≡ xs ++ b ∷ []
take_one [] b ys = refl
take_one (x ∷ xs) b ys =
    let n : suc (length xs) + 1 ≡ suc (length xs + 1) = omega arith in
    ap (λ m. take m (x ∷ (xs ++ b ∷ ys))) n ∙ ap (λ zs. x ∷ zs) (take_one xs b ys)

-- a text begins with each of its fronts
pub front_begins : (n : ℕ) (bytes : List ℕ) (v : Json) (k : ℕ) → SpellsWithin n bytes v → Begins n (take k bytes)
front_begins n bytes v k h = record { rest = drop k bytes; value = v; spells = subst (λ xs. SpellsWithin n xs v) (sym (take-append-drop k bytes)) h }

deeper : (bytes : List ℕ) (v : Json) → SpellsWithin 127 bytes v → SpellsWithin 128 bytes v
deeper bytes v s = record { tree = s.tree; is_tree = s.is_tree; bytes_are = s.bytes_are; value_is = s.value_is; levels = omega (arith, s.levels) }

-- how a refusal looks from the whole
module _ (bytes front behind : List ℕ) (k : ℕ) (q : State) (place : k ≡ 0 + length front) (whole : bytes ≡ front ++ behind) (ran : run 127 [] value front ≡ Some q) where
  size : k ≡ length front
  size = omega (arith, place)

  at_front : take k bytes ≡ front
  at_front = (λ i. take (size i) (whole i)) ∙ take-whole front behind

  past_front : (b : ℕ) (bs : List ℕ) → behind ≡ b ∷ bs → take (k + 1) bytes ≡ front ++ b ∷ []
  past_front b bs e = (λ i. take (size i + 1) ((whole ∙ ap (λ x. front ++ x) e) i)) ∙ take_one front b bs

  begun : Begins 127 (take k bytes)
  begun = subst (Begins 127) (sym at_front) (run_begins 127 front q ran)

  length_is : length bytes ≡ k + length behind
  length_is = omega (arith, ap length whole, length-append front behind, size)

ends_here : (n : ℕ) (bytes front : List ℕ) (q : State) (v : Json) → bytes ≡ front ++ [] → run n [] value front ≡ Some q → finish q.0 q.1 ≡ None → SpellsWithin n bytes v → ⊥
ends_here n bytes front q v whole ran stop s =
    none_some v (sym (read-append n front [] [] value ∙ ap (λ o. and_then o (λ q. read n q.0 q.1 [])) ran ∙ stop) ∙ sym (ap (read n [] value) whole) ∙ spells_read n bytes v s)

not_json_case : (bytes front behind : List ℕ) (k : ℕ) (q : State) → k ≡ 0 + length front → bytes ≡ front ++ behind → run 127 [] value front ≡ Some q → Refuses 127 q behind → NotJsonAt bytes k
not_json_case bytes front [] k q place whole ran stop = record {
  within = omega (arith, length_is bytes front [] k q place whole ran);
  begins = begun bytes front [] k q place whole ran;
  longest = λ l. absurd (omega (arith, l, length_is bytes front [] k q place whole ran));
  whole = λ e v s. ends_here 127 bytes front q v whole ran stop s;
}
not_json_case bytes front (b ∷ bs) k q place whole ran stop = record {
  within = omega (arith, length_is bytes front (b ∷ bs) k q place whole ran);
  begins = begun bytes front (b ∷ bs) k q place whole ran;
  longest = λ l g. stuck_begins 128 front b q (run-more 127 front q [] value ran) stop.1 (subst (Begins 128) (past_front bytes front (b ∷ bs) k q place whole ran b bs refl) g);
  whole = λ e. absurd (omega (arith, e, length_is bytes front (b ∷ bs) k q place whole ran));
}

too_deep_case : (bytes front behind : List ℕ) (k : ℕ) (q : State) → k ≡ 0 + length front → bytes ≡ front ++ behind → run 127 [] value front ≡ Some q → IsTooDeep 127 q behind → TooDeepAt bytes k
too_deep_case bytes front [] k q place whole ran stop = absurd stop
too_deep_case bytes front (b ∷ bs) k q place whole ran stop =
    let one = past_front bytes front (b ∷ bs) k q place whole ran b bs refl in
    let p = stop.1.0 in
    let on : run 128 [] value (front ++ b ∷ []) ≡ Some p = run-append 128 front (b ∷ []) [] value ∙ ap (λ o. and_then o (λ q. run 128 q.0 q.1 (b ∷ []))) (run-more 127 front q [] value ran) ∙ ap (λ o. and_then o (λ q. run 128 q.0 q.1 [])) stop.1.1 in
    record {
      within = omega (arith, length_is bytes front (b ∷ bs) k q place whole ran);
      begins = begun bytes front (b ∷ bs) k q place whole ran;
      deeper = subst (Begins 128) (sym one) (run_begins 128 (front ++ b ∷ []) p on);
      barred = λ g. stuck_begins 127 front b q ran stop.0 (subst (Begins 127) one g);
    }

-- ---- what the verdict on the whole says

says_means : (bytes : List ℕ) (w : Verdict) → Says 127 [] value 0 bytes w → Means bytes w
says_means bytes (spelled v) h = read_spells 127 v bytes h
says_means bytes (not_json k) h = not_json_case bytes h.0.front h.0.behind k h.0.state h.0.place h.0.bytes h.0.ran h.1
says_means bytes (too_deep k) h = too_deep_case bytes h.0.front h.0.behind k h.0.state h.0.place h.0.bytes h.0.ran h.1

pub verdict_means : (bytes : List ℕ) → Means bytes (verdict 127 [] value 0 bytes)
verdict_means bytes = says_means bytes (verdict 127 [] value 0 bytes) (verdict-says 127 bytes [] value 0)

pub only_spelled : (bytes : List ℕ) (v : Json) (w : Verdict) → Spells bytes v → Means bytes w → w ≡ spelled v
only_spelled bytes v (spelled u) s h = ap spelled (one_value 127 bytes u v h s)
only_spelled bytes v (not_json k) s h = elim (cases_lt k (length bytes)) [
  | inl l ↦ absurd (h.longest l (front_begins 128 bytes v (k + 1) (deeper bytes v s)))
  | inr l ↦ absurd (h.whole (omega (arith, l, h.within)) v s)
]
only_spelled bytes v (too_deep k) s h = absurd (h.barred (front_begins 127 bytes v (k + 1) s))

-- each text is read
pub spells_verdict : (bytes : List ℕ) (v : Json) → Spells bytes v → verdict 127 [] value 0 bytes ≡ spelled v
spells_verdict bytes v s = only_spelled bytes v (verdict 127 [] value 0 bytes) s (verdict_means bytes)
