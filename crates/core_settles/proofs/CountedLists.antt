-- What a claimed command's failure makes of the list.
use Rattle.std.proofs.Common.{◌≡◌, ◌∙◌, ◌⊎◌, inl, inr, ⊎_elim, ℕ, zero, suc, ◌<◌, ◌≤◌, ◌==◌, Bool, true, false, ◌&&◌, ◌||◌, if◌then◌else◌, List, [], ◌∷◌, ◌++◌, length, IsTrue, arith, refl, sym, ap}
use Rattle.std.specs.List.{flat_map}
use Rattle.core_claims.specs.core_spec.declared.entry.Entry.{Entry}
use Rattle.core_claims.specs.core_spec.Pending.{NoneIsWornOut}
use Rattle.core_claims.specs.core_machine.Claims.{attempts_of, is_claimed}
use Rattle.core_claims.specs.core_machine.Steps.{at_receipt}
use Rattle.core_claims.specs.supersede_core.Waiting.{stands, counted}

-- what is claimed waits
waits_step : (a b x y : Bool) → IsTrue ((a && b) || x) → (IsTrue x → IsTrue y) → IsTrue (a || y)
waits_step true b x y h next = refl
waits_step false b x y h next = next h

pub claimed_waits : (r : ℕ) (es : List Entry) → IsTrue (is_claimed r es) → IsTrue (stands r es)
claimed_waits r [] h = h
claimed_waits r (e ∷ es) h = waits_step (r == e.receipt) e.claimed (is_claimed r es) (stands r es) h (claimed_waits r es)

few_step : (b : Bool) (n m : ℕ) → n < 16 → m < 16 → (if b then n else m) < 16
few_step true n m h k = h
few_step false n m h k = k

pub few_attempts : (r : ℕ) (es : List Entry) → NoneIsWornOut es → attempts_of r es < 16
few_attempts r [] h = omega arith
few_attempts r (e ∷ es) h = few_step (r == e.receipt) e.attempts (attempts_of r es) h.0 (few_attempts r es h.1)

abbrev counted_at : ℕ → List Entry → List Entry
counted_at r = flat_map (at_receipt r (λ e. counted e ∷ []))

claimed_step : (r : ℕ) (b : Bool) (e : Entry) (es : List Entry) (x : Bool) → (r == e.receipt) ≡ b → is_claimed r es ≡ x → is_claimed r ((if b then counted e ∷ [] else e ∷ []) ++ es) ≡ ((b && e.claimed) || x)
claimed_step r true e es x f h = rw (f, h) refl
claimed_step r false e es x f h = rw (f, h) refl

-- it stays claimed as the failure is counted
pub still_claimed : (r : ℕ) (es : List Entry) → is_claimed r (counted_at r es) ≡ is_claimed r es
still_claimed r [] = refl
still_claimed r (e ∷ es) = claimed_step r (r == e.receipt) e (counted_at r es) (is_claimed r es) refl (still_claimed r es)

length_step : (b : Bool) (e : Entry) (es : List Entry) (n : ℕ) → length es ≡ n → length ((if b then counted e ∷ [] else e ∷ []) ++ es) ≡ suc n
length_step true e es n h = ap suc h
length_step false e es n h = ap suc h

pub counted_length : (r : ℕ) (es : List Entry) → length (counted_at r es) ≡ length es
counted_length r [] = refl
counted_length r (e ∷ es) = length_step (r == e.receipt) e (counted_at r es) (length es) (counted_length r es)

out_step : (r : ℕ) (b : Bool) (e : Entry) (fs gs : List Entry) → (r == e.receipt) ≡ b → flat_map (at_receipt r (λ e. [])) fs ≡ gs → flat_map (at_receipt r (λ e. [])) ((if b then counted e ∷ [] else e ∷ []) ++ fs) ≡ (if b then [] else e ∷ []) ++ gs
out_step r true e fs gs f h = rw f h
out_step r false e fs gs f h = rw f (ap (λ xs. e ∷ xs) h)

-- taking out what was counted is taking it out
pub out_of_counted : (r : ℕ) (es : List Entry) → flat_map (at_receipt r (λ e. [])) (counted_at r es) ≡ flat_map (at_receipt r (λ e. [])) es
out_of_counted r [] = refl
out_of_counted r (e ∷ es) = out_step r (r == e.receipt) e (counted_at r es) (flat_map (at_receipt r (λ e. [])) es) refl (out_of_counted r es)

-- ---- numbers

pub below_or : (n m : ℕ) → (n < m) ⊎ (m ≤ n)
below_or n zero = inr (omega arith)
below_or zero (suc m) = inl (omega arith)
below_or (suc n) (suc m) = ⊎_elim (λ l. inl (omega (arith, l))) (λ l. inr (omega (arith, l))) (below_or n m)

pub not_last : (n : ℕ) (b : Bool) → (15 ≤ n → IsTrue b) → b ≡ false → n < 15
not_last n b h f = ⊎_elim (λ l. l) (λ l. absurd (let is = h l in let apart : true ≡ false = sym is ∙ f in cc)) (below_or n 15)
