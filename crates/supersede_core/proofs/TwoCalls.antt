-- What two calls make together.
use Rattle.std.proofs.Common.{◌≡◌, ℕ, ◌==◌, List, [], ◌∷◌, ◌++◌, arith, refl, ap, Bool, true, false, if◌then◌else◌}
use Rattle.std.specs.List.{flat_map}
use Rattle.entry_tree.specs.core_spec.declared.entry.Entry.{Entry}
use Rattle.entry_tree.specs.core_machine.Steps.{marked, failed, at_receipt}
use Rattle.supersede_core.specs.Waiting.{counted, AddIsUndone, FailureIsCounted}

pub add_is_undone : AddIsUndone
add_is_undone [] x h = let own : (x.receipt == x.receipt) ≡ true = grind arith in rw own refl
add_is_undone (e ∷ es) x h = let other : (x.receipt == e.receipt) ≡ false = (let less = h.0 in grind arith) in rw other (ap (λ fs. e ∷ fs) (add_is_undone es x h.1))

counted_step : (r : ℕ) (e : Entry) (es fs : List Entry) (b : Bool) → (r == e.receipt) ≡ b
    → flat_map (at_receipt r (λ e. marked false e ∷ [])) es ≡ fs
    → flat_map (at_receipt r (λ e. marked false e ∷ [])) ((if b then counted e ∷ [] else e ∷ []) ++ es) ≡ (if b then failed e ∷ [] else e ∷ []) ++ fs
counted_step r e es fs true h next = rw h (ap (λ fs. failed e ∷ fs) next)
counted_step r e es fs false h next = rw h (ap (λ fs. e ∷ fs) next)

pub failure_is_counted : FailureIsCounted
failure_is_counted r [] = refl
failure_is_counted r (e ∷ es) = counted_step r e (flat_map (at_receipt r (λ e. counted e ∷ [])) es) (flat_map (at_receipt r (λ e. failed e ∷ [])) es) (r == e.receipt) refl (failure_is_counted r es)
