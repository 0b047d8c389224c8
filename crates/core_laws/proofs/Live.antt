-- What waits after a restart, without what is worn out: how it changes with each event.
use Rattle.std.proofs.Common.{◌≡◌, ◌∙◌, ℕ, suc, ◌<◌, ◌≤◌, ◌==◌, List, [], ◌∷◌, ◌++◌, arith, refl, sym, ap, Bool, true, false, if◌then◌else◌}
use Rattle.std.specs.Prelude.{nat_lt}
use Rattle.std.specs.List.{AllByRecursion, flat_map}
use Rattle.std.proofs.lemmas.Grind.{flat_map-append}
use Rattle.core_machine.proofs.of_plain_laws.Booleans.{eq_is}
use Rattle.core_machine.specs.core_spec.declared.entry.Entry.{Entry}
use Rattle.core_machine.specs.core_spec.declared.event.Event.TheVariants.{Restart}
use Rattle.core_machine.specs.Steps.{marked, failed, at_receipt, left_by}
use Rattle.core_machine.proofs.PendingSteps.{flat_map-flat_map, flat_map-same, every}
use Rattle.core_laws.specs.Replay.{if_few}

abbrev pub live : List Entry → List Entry
live = flat_map if_few

-- a change of each entry that leaves what is live to another one
commutes : (f g : Entry → List Entry) (es : List Entry) → ((e : Entry) → flat_map if_few (f e) ≡ flat_map g (if_few e)) → live (flat_map f es) ≡ flat_map g (live es)
commutes f g es h =
    flat_map-flat_map if_few f es
    ∙ flat_map-same (λ e. flat_map if_few (f e)) (λ e. flat_map g (if_few e)) es (every (λ e. flat_map if_few (f e) ≡ flat_map g (if_few e)) es h)
    ∙ sym (flat_map-flat_map g if_few es)

-- ---- claims and releases

mark_step : (b m : Bool) (e : Entry) (es fs : List Entry) → live es ≡ fs → live ((if b then marked m e ∷ [] else e ∷ []) ++ es) ≡ if_few e ++ fs
mark_step true m e es fs h = ap (λ gs. if_few e ++ gs) h
mark_step false m e es fs h = ap (λ gs. if_few e ++ gs) h

pub live_marked : (r : ℕ) (m : Bool) (es : List Entry) → live (flat_map (at_receipt r (λ e. marked m e ∷ [])) es) ≡ live es
live_marked r m [] = refl
live_marked r m (e ∷ es) = mark_step (r == e.receipt) m e (flat_map (at_receipt r (λ e. marked m e ∷ [])) es) (live es) (live_marked r m es)

pub live_restarted : (es : List Entry) → live (flat_map (left_by Restart) es) ≡ live es
live_restarted [] = refl
live_restarted (e ∷ es) = ap (λ gs. if_few e ++ gs) (live_restarted es)

pub live_same : (es : List Entry) → live (flat_map (λ e. e ∷ []) es) ≡ live es
live_same [] = refl
live_same (e ∷ es) = ap (λ gs. if_few e ++ gs) (live_same es)

-- ---- submits, endings and failures

pub live_submitted : (es : List Entry) (e : Entry) → if_few e ≡ e ∷ [] → live (flat_map (λ e. e ∷ []) es ++ e ∷ []) ≡ live es ++ e ∷ []
live_submitted es e h = flat_map-append if_few (flat_map (λ e. e ∷ []) es) (e ∷ []) ∙ (λ i. live_same es i ++ (h i ++ []))

out_one : (b c : Bool) (r : ℕ) (e : Entry) → (r == e.receipt) ≡ b → nat_lt e.attempts 16 ≡ c → flat_map if_few (at_receipt r (λ e. []) e) ≡ flat_map (at_receipt r (λ e. [])) (if_few e)
out_one true true r e h k = rw (h, k, h) refl
out_one true false r e h k = rw (h, k) refl
out_one false true r e h k = rw (h, k, h) refl
out_one false false r e h k = rw (h, k) refl

pub live_out : (r : ℕ) (es : List Entry) → live (flat_map (at_receipt r (λ e. [])) es) ≡ flat_map (at_receipt r (λ e. [])) (live es)
live_out r es = commutes (at_receipt r (λ e. [])) (at_receipt r (λ e. [])) es (λ e. out_one (r == e.receipt) (nat_lt e.attempts 16) r e refl refl)

still_worn : (n : ℕ) → nat_lt n 16 ≡ false → nat_lt (suc n) 16 ≡ false
still_worn n h = grind (arith, h)

failed_one : (b c : Bool) (r : ℕ) (e : Entry) → (r == e.receipt) ≡ b → nat_lt e.attempts 16 ≡ c
    → flat_map if_few (at_receipt r (λ e. failed e ∷ []) e) ≡ flat_map (at_receipt r (λ e. if_few (failed e))) (if_few e)
failed_one true true r e h k = rw (h, k, h) refl
failed_one true false r e h k = let worn = still_worn e.attempts k in rw (h, k, worn) refl
failed_one false true r e h k = rw (h, k, h) refl
failed_one false false r e h k = rw (h, k) refl

pub live_failed : (r : ℕ) (es : List Entry) → live (flat_map (at_receipt r (λ e. failed e ∷ [])) es) ≡ flat_map (at_receipt r (λ e. if_few (failed e))) (live es)
live_failed r es = commutes (at_receipt r (λ e. failed e ∷ [])) (at_receipt r (λ e. if_few (failed e))) es (λ e. failed_one (r == e.receipt) (nat_lt e.attempts 16) r e refl refl)

-- ---- what is worn out

-- each entry of the receipt is worn out
abbrev pub IsWorn : ℕ → List Entry → Type 0
IsWorn r = AllByRecursion (λ (e : Entry). e.receipt ≡ r → 16 ≤ e.attempts)

worn_step : (b : Bool) (r : ℕ) (e : Entry) (es fs : List Entry) → (r == e.receipt) ≡ b → (e.receipt ≡ r → 16 ≤ e.attempts) → live es ≡ fs → live ((if b then [] else e ∷ []) ++ es) ≡ if_few e ++ fs
worn_step true r e es fs h worn same =
    let many : 16 ≤ e.attempts = worn (sym (eq_is r e.receipt h)) in
    let out : nat_lt e.attempts 16 ≡ false = grind (arith, many) in
    rw out same
worn_step false r e es fs h worn same = ap (λ gs. if_few e ++ gs) same

pub live_worn : (r : ℕ) (es : List Entry) → IsWorn r es → live (flat_map (at_receipt r (λ e. [])) es) ≡ live es
live_worn r [] h = refl
live_worn r (e ∷ es) h = worn_step (r == e.receipt) r e (flat_map (at_receipt r (λ e. [])) es) (live es) refl h.0 (live_worn r es h.1)

-- where nothing is, all is live
pub all_live : (es : List Entry) → AllByRecursion (λ (e : Entry). e.attempts < 16) es → live es ≡ flat_map (left_by Restart) es
all_live [] h = refl
all_live (e ∷ es) h = let few : nat_lt e.attempts 16 ≡ true = grind (arith, h.0) in rw few (ap (λ gs. marked false e ∷ gs) (all_live es h.1))
