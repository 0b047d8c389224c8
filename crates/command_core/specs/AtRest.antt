-- What holds of a core between its calls.
use Rattle.std.specs.Prelude.{ℕ, Bool, List}
use Rattle.core_submits.specs.fleet_keeper.declared.keeper.Keeper as keeper
use Rattle.core_submits.specs.core_state.fleet_ports.declared.disk.Disk as disk
use Rattle.core_submits.specs.core_state.declared.state.CoreState.{CoreState}
use Rattle.core_submits.specs.core_state.Seen.{IsSound}
use Rattle.core_submits.specs.core_state.Spelling.{HasSpelling}

-- it is sound, and all that it holds has a spelling, so its logs can be compacted
pub record IsAtRest {D K : Type 0} (seen : D → List ℕ) (may_leave : D → List ℕ → Type 0) (keeper_down : K → Bool) (keeper_up : K → Type 0) (core : CoreState D K) : Type 0 where
  pub sound : IsSound seen may_leave keeper_down keeper_up core
  pub spelling : HasSpelling core

-- the same, with the ghosts of each trait as one value
abbrev pub CoreIsAtRest : {D K : Type 0} → disk.Ghosts D → keeper.Ghosts K → CoreState D K → Type 0
CoreIsAtRest d k = IsAtRest d.seen d.may_leave k.down k.is_up
