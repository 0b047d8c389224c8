-- Failures of the store that were counted, and the counts of its disks.
use Rattle.std.proofs.Common.{◌≡◌, ◌⊎◌, inl, inr, ℕ, zero, suc, ◌+◌, ◌-◌, ◌^◌, ◌<◌, ◌≤◌, min, [], ◌∷◌, ◌++◌, arith, refl}
use Rattle.spool_text.specs.fleet_ports.Counts.{Rose}
use Rattle.fleet_hub.specs.fleet_rows.declared.settings.Ttls.{Ttls}
use Rattle.fleet_hub.specs.fleet_keeper.Keeper.{IsBounded}
use Rattle.fleet_hub.specs.core_spec.declared.event.Event.TheVariants.{Submit, Claim, Release, Apply, Supersede, Fail, Discard, Sweep, Restart}
use Rattle.fleet_hub.specs.core_spec.History.{History}
use Rattle.fleet_hub.specs.core_spec.Legal.{Rises, IsAfterFails, IsLegal}
use Rattle.calm_commands.proofs.Faults.{rose}
use Rattle.spool_run.specs.Rules.{HasNoRestart}
use Rattle.spool_run.specs.Runs.{fail_count}

-- ---- the spans of failures don't overlap

span_more : (n m before after count : ℕ) → min n m ≤ before → before < after → after ≤ count → min (1 + n) m ≤ count
span_more n m before after count h up within = omega arith

last_span : (n m after count : ℕ) → after ≡ m → after ≤ count → min (1 + n) m ≤ count
last_span n m after count top within = omega arith

fail_more : (n before after count : ℕ) → min n (2 ^ 64 - 1) ≤ before → Rises before after → after ≤ count → min (1 + n) (2 ^ 64 - 1) ≤ count
fail_more n before after count h (inl up) within = span_more n (2 ^ 64 - 1) before after count h up within
fail_more n before after count h (inr top) within = last_span n (2 ^ 64 - 1) after count top.1 within

pub fails_fit : (ttls : Ttls) (start : History) (run : History) (count : ℕ) → HasNoRestart run → IsLegal ttls (run ++ Restart ∷ start) → IsAfterFails count (run ++ Restart ∷ start) → min (fail_count run) (2 ^ 64 - 1) ≤ count
fails_fit ttls start [] count none legal fails = omega arith
fails_fit ttls start (Submit r c ∷ run) count none legal fails = fails_fit ttls start run count none legal.1 fails
fails_fit ttls start (Claim r ∷ run) count none legal fails = fails_fit ttls start run count none legal.1 fails
fails_fit ttls start (Release r ∷ run) count none legal fails = fails_fit ttls start run count none legal.1 fails
fails_fit ttls start (Apply r t ∷ run) count none legal fails = fails_fit ttls start run count none legal.1 fails
fails_fit ttls start (Supersede q p ∷ run) count none legal fails = fails_fit ttls start run count none legal.1 fails
fails_fit ttls start (Fail r before after ∷ run) count none legal fails =
    fail_more (fail_count run) before after count (fails_fit ttls start run before none legal.1 legal.0.2) legal.0.1 fails.0
fails_fit ttls start (Discard r cause ∷ run) count none legal fails = fails_fit ttls start run count none legal.1 fails
fails_fit ttls start (Sweep kinds m ∷ run) count none legal fails = fails_fit ttls start run count none legal.1 fails
fails_fit ttls start (Restart ∷ run) count none legal fails = absurd none

-- ---- the counts of two disks

-- they rose by n together
abbrev pub Together : ℕ → ℕ → ℕ → ℕ → ℕ → Type 0
Together n a0 b0 a1 b1 = (a0 + b0 + min n (2 ^ 64 - 1) ≤ a1 + b1) ⊎ (2 ^ 64 - 1 ≤ a1) ⊎ (2 ^ 64 - 1 ≤ b1)

pub together : (n f a0 b0 a1 b1 : ℕ) → min n (2 ^ 64 - 1) ≤ f → IsBounded (0, a0, b0) f a1 b1 → Together n a0 b0 a1 b1
together n f a0 b0 a1 b1 up (inl sum) = inl (omega (arith, sum))
together n f a0 b0 a1 b1 up (inr last) = inr last

some_rose : (n a0 b0 a1 b1 : ℕ) → Together (suc n) a0 b0 a1 b1 → Rose a0 a1 ⊎ Rose b0 b1
some_rose n a0 b0 a1 b1 (inl sum) = rose (min (suc n) (2 ^ 64 - 1)) a0 b0 a1 b1 (omega arith) (inl (omega (arith, sum)))
some_rose n a0 b0 a1 b1 (inr last) = rose (min (suc n) (2 ^ 64 - 1)) a0 b0 a1 b1 (omega arith) (inr last)

pub none_rose : (n a0 b0 a1 b1 : ℕ) → Together n a0 b0 a1 b1 → (Rose a0 a1 ⊎ Rose b0 b1 → ⊥) → n ≡ 0
none_rose zero a0 b0 a1 b1 h none = refl
none_rose (suc n) a0 b0 a1 b1 h none = absurd (none (some_rose n a0 b0 a1 b1 h))
