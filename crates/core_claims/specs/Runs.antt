-- What the steps of a claim do together.
use Rattle.std.specs.Prelude.{◌≡◌, ℕ, Bool, true, false, List, Option, Some, IsTrue}
use Rattle.core_state.specs.fleet_keeper.declared.keeper.Keeper as keeper
use Rattle.core_state.specs.fleet_ports.declared.disk.Disk as disk
use Rattle.core_state.specs.fleet_rows.declared.command.Command.{Command}
use Rattle.core_state.specs.record_spec.declared.store.StoreRecord.{StoreRecord}
use Rattle.core_state.specs.core_spec.History.{History}
use Rattle.core_state.specs.queue_log.Queued.{QueueLeaves}
use Rattle.core_state.specs.declared.state.CoreState.{CoreState}
use Rattle.core_state.specs.Changes.{OthersStay}
use Rattle.core_state.specs.Moments.{StandsAmid}
use Rattle.core_state.specs.Puts.{QueueCounts}
use Rattle.core_state.specs.Seen.{down_of, IsSound, IsSubmitted}
use Rattle.core_state.specs.StandsFor.{history_of, StandsFor}
use Rattle.core_claims.specs.Claims.{Superseded, IsSuperseding, Appended}
use Rattle.core_claims.specs.Turns.{TurnDoes}
use Rattle.core_claims.specs.declared.answers.Claimed.{Claimed}
use Rattle.core_claims.specs.declared.answers.Claimed.TheVariants as claimed

-- Commands were superseded, one after the other, and no fault was counted. The core is up and continues the history that it stood
-- for. The images at each moment stand for a part of it.
pub record SoFar {D K : Type 0} (tells store_tells : Bool) (seen : D → List ℕ) (may_leave : D → List ℕ → Type 0) (moment : D → ℕ) (left_since : D → ℕ → List ℕ → Type 0) (faults : D → ℕ)
    (kept : K → Option (List StoreRecord)) (images : K → Option (List StoreRecord) → Type 0) (keeper_up : K → Type 0) (keeper_down : K → Bool) (store_faults : K → ℕ) (old new : CoreState D K) : Type 0 where
  pub up : down_of keeper_down new ≡ false
  pub sound : IsSound seen may_leave keeper_down keeper_up new
  pub others : OthersStay old new
  pub store : new.store ≡ old.store
  pub last : new.last ≡ old.last
  pub more : History
  pub appended : Appended tells seen more old new
  pub submitted : (r : ℕ) (c : Command) → IsSubmitted r c old → IsSubmitted r c new
  pub calm : QueueCounts faults old.queue new.queue ⊥
  pub stands : (start : History) → StandsFor tells store_tells seen may_leave kept images keeper_down store_faults old start → StandsFor tells store_tells seen may_leave kept images keeper_down store_faults new start
  pub superseded : (start : History) → StandsFor tells store_tells seen may_leave kept images keeper_down store_faults old start → Superseded (history_of old start) (history_of new start)
  pub moments : (start : History) → StandsFor tells store_tells seen may_leave kept images keeper_down store_faults old start
      → QueueLeaves may_leave moment left_since old.queue new.queue (λ q. IsTrue tells → (s : Option (List StoreRecord)) → images old.store s → StandsAmid old.tables.ttls IsSuperseding (history_of old start) (history_of new start) q s)

-- the core was down; or steps superseded commands, and then one answered
pub data ClaimDoes {D K : Type 0} (tells store_tells : Bool) (seen : D → List ℕ) (may_leave : D → List ℕ → Type 0) (moment : D → ℕ) (left_since : D → ℕ → List ℕ → Type 0) (faults : D → ℕ)
    (kept : K → Option (List StoreRecord)) (images : K → Option (List StoreRecord) → Type 0) (keeper_up : K → Type 0) (keeper_down : K → Bool) (store_faults : K → ℕ) (result : Claimed) (old new : CoreState D K) : Type 0 where
  was_down : result ≡ claimed.Down → down_of keeper_down old ≡ true → new ≡ old → ClaimDoes tells store_tells seen may_leave moment left_since faults kept images keeper_up keeper_down store_faults result old new
  ran : (mid : CoreState D K) → SoFar tells store_tells seen may_leave moment left_since faults kept images keeper_up keeper_down store_faults old mid → TurnDoes tells seen may_leave moment left_since faults (Some result) mid new
      → down_of keeper_down old ≡ false → ClaimDoes tells store_tells seen may_leave moment left_since faults kept images keeper_up keeper_down store_faults result old new

-- the same, with the ghosts of each trait as one value
abbrev pub DoesClaim : {D K : Type 0} → disk.Ghosts D → keeper.Ghosts K → Claimed → CoreState D K → CoreState D K → Type 0
DoesClaim d k = ClaimDoes d.is_told k.is_told d.seen d.may_leave d.moment d.left_since d.fault_count k.kept k.images k.is_up k.down k.fault_count
