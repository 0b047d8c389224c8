-- How often the store fails at a command.
use Rattle.std.specs.Prelude.{ℕ, suc, ◌+◌, ◌-◌, ◌<◌, ◌≤◌, ◌^◌, [], ◌∷◌}
use Rattle.core_machine.specs.fleet_rows.declared.settings.Ttls.{Ttls}
use Rattle.core_machine.specs.core_spec.declared.event.Event.TheVariants.{Fail, Restart}
use Rattle.core_machine.specs.core_spec.History.{History, fails}
use Rattle.core_machine.specs.core_spec.Legal.{IsLegal, IsAfterFails}

-- the store fails at most sixteen times at a command
abbrev pub FailuresAreFew : Type 0
FailuresAreFew = (ttls : Ttls) (r : ℕ) (history : History) → IsLegal ttls history → fails r history ≤ 16

-- the number of failures since the last restart
abbrev pub fails_since : History → ℕ
fails_since [] = 0
fails_since (Fail r before after ∷ earlier) = suc (fails_since earlier)
fails_since (Restart ∷ earlier) = 0
fails_since (_ ∷ earlier) = fails_since earlier

-- each of these failures began at this fault count or above
abbrev pub BeganAt : ℕ → History → Type 0
BeganAt n [] = Unit {0}
BeganAt n (Fail r before after ∷ earlier) = (n ≤ before) × BeganAt n earlier
BeganAt n (Restart ∷ earlier) = Unit {0}
BeganAt n (_ ∷ earlier) = BeganAt n earlier

-- there are at most as many failures as the fault count rose, while it is below its greatest value
abbrev pub FailuresAreCounted : Type 0
FailuresAreCounted =
    (ttls : Ttls) (from count : ℕ) (history : History) → IsLegal ttls history → from ≤ count → count < 2 ^ 64 - 1
    → BeganAt from history → IsAfterFails count history → fails_since history + from ≤ count
