-- What a release does.
use Rattle.std.specs.Prelude.{◌≡◌, ◌≢◌, ℕ, ◌+◌, Bool, true, false, [], ◌∷◌, flat_map}
use Rattle.core_state.specs.core_spec.declared.event.Event.TheVariants.{Release}
use Rattle.core_state.specs.core_spec.History.{History, claimed, standing}
use Rattle.core_state.specs.core_machine.Claims.{is_claimed}
use Rattle.core_state.specs.core_machine.Steps.{marked, at_receipt}
use Rattle.core_state.specs.declared.state.CoreState.{CoreState}
use Rattle.core_state.specs.Changes.{OthersStay}
use Rattle.core_state.specs.Seen.{down_of}

-- a claimed command is released; for any other, nothing happens
pub data ReleaseGives (r : ℕ) (old new : History) : Type 0 where
  released : standing r old ≡ claimed → new ≡ Release r ∷ old → ReleaseGives r old new
  wasnt_claimed : standing r old ≢ claimed → new ≡ old → ReleaseGives r old new

-- the entry of the receipt is queued again
pub record HasReleased {D K : Type 0} (r : ℕ) (old new : CoreState D K) : Type 0 where
  pub queue : new.queue ≡ old.queue
  pub store : new.store ≡ old.store
  pub others : OthersStay old new
  pub pending : new.pending ≡ flat_map (at_receipt r (λ e. marked false e ∷ [])) old.pending
  pub events : new.events.list ≡ Release r ∷ old.events.list
  pub room : new.events.room + 1 ≡ old.events.room
  pub last : new.last ≡ old.last

pub data ReleaseDoes {D K : Type 0} (keeper_down : K → Bool) (r : ℕ) (old new : CoreState D K) : Type 0 where
  was_down : down_of keeper_down old ≡ true → new ≡ old → ReleaseDoes keeper_down r old new
  not_claimed : down_of keeper_down old ≡ false → is_claimed r old.pending ≡ false → new ≡ old → ReleaseDoes keeper_down r old new
  did_release : down_of keeper_down old ≡ false → is_claimed r old.pending ≡ true → HasReleased r old new → ReleaseDoes keeper_down r old new
