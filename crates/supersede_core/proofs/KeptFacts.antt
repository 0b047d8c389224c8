-- What holds of each entry whatever is done with it: its receipt is below a number, and it failed fewer than sixteen times.
use Rattle.std.proofs.Common.{◌≡◌, ℕ, suc, ◌<◌, ◌==◌, List, [], ◌∷◌, ◌++◌, arith, refl, sym, subst, Bool, true, false, if◌then◌else◌}
use Rattle.std.specs.List.{AllByRecursion, flat_map}
use Rattle.entry_tree.specs.core_spec.declared.entry.Entry.{Entry}
use Rattle.entry_tree.specs.core_machine.Claims.{attempts_of}
use Rattle.entry_tree.specs.core_machine.Steps.{marked, at_receipt}
use Rattle.entry_tree.specs.core_spec.Pending.{NoneIsWornOut}
use Rattle.supersede_core.specs.Waiting.{Rises, AreBelow, counted}

changed_step : (P : Entry → Type 0) (b : Bool) (x e : Entry) (es : List Entry) → (P e → P x) → P e → AllByRecursion P es → AllByRecursion P ((if b then x ∷ [] else e ∷ []) ++ es)
changed_step P true x e es g h k = (g h, k)
changed_step P false x e es g h k = (h, k)

all_changed : (P : Entry → Type 0) (r : ℕ) (f : Entry → Entry) (es : List Entry) → ((e : Entry) → P e → P (f e)) → AllByRecursion P es → AllByRecursion P (flat_map (at_receipt r (λ e. f e ∷ [])) es)
all_changed P r f [] g h = tt
all_changed P r f (e ∷ es) g h = changed_step P (r == e.receipt) (f e) e (flat_map (at_receipt r (λ e. f e ∷ [])) es) (g e) h.0 (all_changed P r f es g h.1)

left_step : (P : Entry → Type 0) (b : Bool) (e : Entry) (es : List Entry) → P e → AllByRecursion P es → AllByRecursion P ((if b then [] else e ∷ []) ++ es)
left_step P true e es h k = k
left_step P false e es h k = (h, k)

pub all_left : (P : Entry → Type 0) (r : ℕ) (es : List Entry) → AllByRecursion P es → AllByRecursion P (flat_map (at_receipt r (λ e. [])) es)
all_left P r [] h = tt
all_left P r (e ∷ es) h = left_step P (r == e.receipt) e (flat_map (at_receipt r (λ e. [])) es) h.0 (all_left P r es h.1)

-- ---- receipts below a number

pub marked_below : (r n : ℕ) (b : Bool) (es new : List Entry) → new ≡ flat_map (at_receipt r (λ e. marked b e ∷ [])) es → AreBelow n es → AreBelow n new
marked_below r n b es new e h = subst (AreBelow n) (sym e) (all_changed (λ e. e.receipt < n) r (marked b) es (λ e k. k) h)

pub counted_below : (r n : ℕ) (es new : List Entry) → new ≡ flat_map (at_receipt r (λ e. counted e ∷ [])) es → AreBelow n es → AreBelow n new
counted_below r n es new e h = subst (AreBelow n) (sym e) (all_changed (λ e. e.receipt < n) r counted es (λ e k. k) h)

pub taken_below : (r n : ℕ) (es new : List Entry) → new ≡ flat_map (at_receipt r (λ e. [])) es → AreBelow n es → AreBelow n new
taken_below r n es new e h = subst (AreBelow n) (sym e) (all_left (λ e. e.receipt < n) r es h)

-- ---- fewer than sixteen failures

pub marked_few : (r : ℕ) (b : Bool) (es new : List Entry) → new ≡ flat_map (at_receipt r (λ e. marked b e ∷ [])) es → NoneIsWornOut es → NoneIsWornOut new
marked_few r b es new e h = subst NoneIsWornOut (sym e) (all_changed (λ e. e.attempts < 16) r (marked b) es (λ e k. k) h)

pub taken_few : (r : ℕ) (es new : List Entry) → new ≡ flat_map (at_receipt r (λ e. [])) es → NoneIsWornOut es → NoneIsWornOut new
taken_few r es new e h = subst NoneIsWornOut (sym e) (all_left (λ e. e.attempts < 16) r es h)

-- ---- a failure that is counted

pub above : (r n : ℕ) (change : Entry → List Entry) (es : List Entry) → r ≡ n → AllByRecursion (λ (f : Entry). n < f.receipt) es → flat_map (at_receipt r change) es ≡ es
above r n change [] e h = refl
above r n change (f ∷ es) e h = let other : (r == f.receipt) ≡ false = (let less : r < f.receipt = omega (arith, h.0, e) in grind arith) in rw other (λ i. f ∷ above r n change es e h.1 i)

few_counted_step : (r : ℕ) (b : Bool) (e : Entry) (es : List Entry) → (r == e.receipt) ≡ b → suc (if b then e.attempts else attempts_of r es) < 16 → e.attempts < 16 → AllByRecursion (λ (g : Entry). e.receipt < g.receipt) es → NoneIsWornOut es
    → (suc (attempts_of r es) < 16 → NoneIsWornOut (flat_map (at_receipt r (λ e. counted e ∷ [])) es)) → NoneIsWornOut ((if b then counted e ∷ [] else e ∷ []) ++ flat_map (at_receipt r (λ e. counted e ∷ [])) es)
few_counted_step r true e es f g h up k next = (g, subst NoneIsWornOut (sym (above r e.receipt (λ e. counted e ∷ []) es (grind arith) up)) k)
few_counted_step r false e es f g h up k next = (h, next g)

few_counted : (r : ℕ) (es : List Entry) → suc (attempts_of r es) < 16 → Rises es → NoneIsWornOut es → NoneIsWornOut (flat_map (at_receipt r (λ e. counted e ∷ [])) es)
few_counted r [] g u h = tt
few_counted r (e ∷ es) g u h = few_counted_step r (r == e.receipt) e es refl g h.0 u.0 h.1 (λ n. few_counted r es n u.1 h.1)

pub counted_few : (r n : ℕ) (es new : List Entry) → new ≡ flat_map (at_receipt r (λ e. counted e ∷ [])) es → n ≡ suc (attempts_of r es) → Rises es → NoneIsWornOut es → n < 16 → NoneIsWornOut new
counted_few r n es new e f u h l = subst NoneIsWornOut (sym e) (few_counted r es (subst (λ m. m < 16) f l) u h)
