-- Entries are changed, taken out and added, and their receipts still rise.
use Rattle.std.proofs.Common.{◌≡◌, ℕ, ◌<◌, ◌==◌, List, [], ◌∷◌, ◌++◌, arith, sym, subst, Bool, true, false, if◌then◌else◌}
use Rattle.std.specs.List.{AllByRecursion, flat_map}
use Rattle.entry_tree.specs.core_spec.declared.entry.Entry.{Entry}
use Rattle.entry_tree.specs.core_machine.Steps.{at_receipt}
use Rattle.supersede_core.specs.Waiting.{Rises}

abbrev AllAbove : ℕ → List Entry → Type 0
AllAbove n = AllByRecursion (λ (e : Entry). n < e.receipt)

all_changed_step : (n : ℕ) (b : Bool) (x e : Entry) (es : List Entry) → x.receipt ≡ e.receipt → n < e.receipt → AllAbove n es → AllAbove n ((if b then x ∷ [] else e ∷ []) ++ es)
all_changed_step n true x e es same h k = (omega (arith, h, same), k)
all_changed_step n false x e es same h k = (h, k)

all_changed : (n r : ℕ) (f : Entry → Entry) (es : List Entry) → ((e : Entry) → (f e).receipt ≡ e.receipt) → AllAbove n es → AllAbove n (flat_map (at_receipt r (λ e. f e ∷ [])) es)
all_changed n r f [] same h = tt
all_changed n r f (e ∷ es) same h = all_changed_step n (r == e.receipt) (f e) e (flat_map (at_receipt r (λ e. f e ∷ [])) es) (same e) h.0 (all_changed n r f es same h.1)

changed_rises_step : (b : Bool) (x e : Entry) (es : List Entry) → x.receipt ≡ e.receipt → AllAbove e.receipt es → Rises es → Rises ((if b then x ∷ [] else e ∷ []) ++ es)
changed_rises_step true x e es same h k = (subst (λ n. AllAbove n es) (sym same) h, k)
changed_rises_step false x e es same h k = (h, k)

pub changed_rises : (r : ℕ) (f : Entry → Entry) (es : List Entry) → ((e : Entry) → (f e).receipt ≡ e.receipt) → Rises es → Rises (flat_map (at_receipt r (λ e. f e ∷ [])) es)
changed_rises r f [] same h = tt
changed_rises r f (e ∷ es) same h = changed_rises_step (r == e.receipt) (f e) e (flat_map (at_receipt r (λ e. f e ∷ [])) es) (same e) (all_changed e.receipt r f es same h.0) (changed_rises r f es same h.1)

all_left_step : (n : ℕ) (b : Bool) (e : Entry) (es : List Entry) → n < e.receipt → AllAbove n es → AllAbove n ((if b then [] else e ∷ []) ++ es)
all_left_step n true e es h k = k
all_left_step n false e es h k = (h, k)

all_left : (n r : ℕ) (es : List Entry) → AllAbove n es → AllAbove n (flat_map (at_receipt r (λ e. [])) es)
all_left n r [] h = tt
all_left n r (e ∷ es) h = all_left_step n (r == e.receipt) e (flat_map (at_receipt r (λ e. [])) es) h.0 (all_left n r es h.1)

left_rises_step : (b : Bool) (e : Entry) (es : List Entry) → AllAbove e.receipt es → Rises es → Rises ((if b then [] else e ∷ []) ++ es)
left_rises_step true e es h k = k
left_rises_step false e es h k = (h, k)

pub left_rises : (r : ℕ) (es : List Entry) → Rises es → Rises (flat_map (at_receipt r (λ e. [])) es)
left_rises r [] h = tt
left_rises r (e ∷ es) h = left_rises_step (r == e.receipt) e (flat_map (at_receipt r (λ e. [])) es) (all_left e.receipt r es h.0) (left_rises r es h.1)

all_more : (n : ℕ) (es : List Entry) (x : Entry) → AllByRecursion (λ (e : Entry). n < e.receipt) es → n < x.receipt → AllByRecursion (λ (e : Entry). n < e.receipt) (es ++ x ∷ [])
all_more n [] x h l = (l, tt)
all_more n (e ∷ es) x h l = (h.0, all_more n es x h.1 l)

pub more_rises : (es : List Entry) (x : Entry) → Rises es → AllByRecursion (λ (e : Entry). e.receipt < x.receipt) es → Rises (es ++ x ∷ [])
more_rises [] x h l = (tt, tt)
more_rises (e ∷ es) x h l = (all_more e.receipt es x h.0 l.0, more_rises es x h.1 l.1)
