-- The store fails at most sixteen times at a command, and at most so often as its count of faults rises.
use Rattle.std.proofs.Common.{◌≡◌, inl, inr, ℕ, suc, ◌-◌, ◌<◌, ◌≤◌, ◌^◌, ◌==◌, [], ◌∷◌, arith, refl, subst, Bool, true, false, if◌then◌else◌}
use Rattle.core_machine.proofs.of_plain_laws.Booleans.{eq_is}
use Rattle.core_machine.specs.core_spec.declared.event.Event.TheVariants.{Submit, Claim, Release, Apply, Supersede, Fail, Discard, Sweep, Restart}
use Rattle.core_machine.specs.core_spec.History.{History, fails}
use Rattle.core_machine.specs.core_spec.Legal.{Rises}
use Rattle.core_laws.specs.Failures.{FailuresAreFew, FailuresAreCounted}
use Rattle.core_laws.proofs.Lives.{claimed_is_few}

one_more : (b : Bool) (q r : ℕ) (earlier : History) → (q == r) ≡ b → fails q earlier < 16 → fails r earlier ≤ 16 → (if b then suc (fails r earlier) else fails r earlier) ≤ 16
one_more true q r earlier e few h = let less : fails r earlier < 16 = subst (λ n. fails n earlier < 16) (eq_is q r e) few in omega (arith, less)
one_more false q r earlier e few h = h

pub failures_are_few : FailuresAreFew
failures_are_few ttls r [] l = omega arith
failures_are_few ttls r (Submit q c ∷ earlier) l = failures_are_few ttls r earlier l.1
failures_are_few ttls r (Claim q ∷ earlier) l = failures_are_few ttls r earlier l.1
failures_are_few ttls r (Release q ∷ earlier) l = failures_are_few ttls r earlier l.1
failures_are_few ttls r (Apply q t ∷ earlier) l = failures_are_few ttls r earlier l.1
failures_are_few ttls r (Supersede q p ∷ earlier) l = failures_are_few ttls r earlier l.1
failures_are_few ttls r (Fail q before after ∷ earlier) l = one_more (q == r) q r earlier refl (claimed_is_few ttls q earlier l.1 l.0.0) (failures_are_few ttls r earlier l.1)
failures_are_few ttls r (Discard q cause ∷ earlier) l = failures_are_few ttls r earlier l.1
failures_are_few ttls r (Sweep kinds m ∷ earlier) l = failures_are_few ttls r earlier l.1
failures_are_few ttls r (Restart ∷ earlier) l = failures_are_few ttls r earlier l.1

-- a failure below the last value of the count takes one from it
rose : (from before after count : ℕ) → Rises before after → after ≤ count → count < 2 ^ 64 - 1 → before < count
rose from before after count (inl less) h l = omega (arith, less, h)
rose from before after count (inr ends) h l = absurd (omega (arith, ends.1, h, l))

pub failures_are_counted : FailuresAreCounted
failures_are_counted ttls from count [] l low high began after = omega (arith, low)
failures_are_counted ttls from count (Submit q c ∷ earlier) l low high began after = failures_are_counted ttls from count earlier l.1 low high began after
failures_are_counted ttls from count (Claim q ∷ earlier) l low high began after = failures_are_counted ttls from count earlier l.1 low high began after
failures_are_counted ttls from count (Release q ∷ earlier) l low high began after = failures_are_counted ttls from count earlier l.1 low high began after
failures_are_counted ttls from count (Apply q t ∷ earlier) l low high began after = failures_are_counted ttls from count earlier l.1 low high began after
failures_are_counted ttls from count (Supersede q p ∷ earlier) l low high began after = failures_are_counted ttls from count earlier l.1 low high began after
failures_are_counted ttls from count (Fail q b a ∷ earlier) l low high began after =
    let less = rose from b a count l.0.1 after.0 high in
    let rest = failures_are_counted ttls from b earlier l.1 began.0 (omega (arith, less, high)) began.1 l.0.2 in
    omega (arith, less, rest)
failures_are_counted ttls from count (Discard q cause ∷ earlier) l low high began after = failures_are_counted ttls from count earlier l.1 low high began after
failures_are_counted ttls from count (Sweep kinds m ∷ earlier) l low high began after = failures_are_counted ttls from count earlier l.1 low high began after
failures_are_counted ttls from count (Restart ∷ earlier) l low high began after = omega (arith, low)
