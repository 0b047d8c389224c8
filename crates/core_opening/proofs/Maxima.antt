-- The greatest of a number and the receipts of the entries.
use Rattle.std.proofs.Common.{◌≡◌, ◌∙◌, ℕ, zero, suc, ◌+◌, max, List, [], ◌∷◌, drop, slice_get, Some, ap, arith}
use Rattle.ttl_sweeps.proofs.of_plain_laws.Options.{none_some, some_is}
use Rattle.core_state.specs.core_spec.declared.entry.Entry.{Entry}
use Rattle.core_opening.specs.Opened.{greatest_of, IsGreatest}

drop_suc : (es : List Entry) (i : ℕ) (e : Entry) → slice_get es i ≡ Some e → drop i es ≡ e ∷ drop (suc i) es
drop_suc [] zero e is = none_some e is
drop_suc [] (suc i) e is = none_some e is
drop_suc (x ∷ xs) zero e is = ap (λ (y : Entry). y ∷ xs) (some_is x e is)
drop_suc (x ∷ xs) (suc i) e is = drop_suc xs i e is

pub drop_get : (es : List Entry) (i : ℕ) (e : Entry) → slice_get es i ≡ Some e → drop i es ≡ e ∷ drop (i + 1) es
drop_get es i e is = let next : suc i ≡ i + 1 = omega arith in drop_suc es i e is ∙ ap (λ (n : ℕ). e ∷ drop n es) next

pub greatest_is : (n : ℕ) (es : List Entry) → IsGreatest n es (greatest_of n es)
greatest_is n [] = record { below = tt; least = omega arith; most = λ m le below. le }
greatest_is n (e ∷ es) =
    let rest = greatest_is (max n e.receipt) es in
    record {
      below = (omega (arith, rest.least), rest.below);
      least = omega (arith, rest.least);
      most = λ m le below. rest.most m (omega (arith, le, below.0)) below.1;
    }
