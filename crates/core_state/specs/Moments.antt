-- What may be on the disks at the moments within a call.
use Rattle.std.specs.Prelude.{◌≡◌, ◌⊎◌, ℕ, ◌≤◌, List, [], ◌++◌, Option}
use Rattle.queue_log.specs.fleet_keeper.declared.keeper.Keeper as keeper
use Rattle.queue_log.specs.fleet_ports.declared.disk.Disk as disk
use Rattle.supersede_core.specs.fleet_rows.declared.settings.Ttls.{Ttls}
use Rattle.supersede_core.specs.record_spec.declared.queue.QueueRecord.{QueueRecord}
use Rattle.supersede_core.specs.record_spec.declared.store.StoreRecord.{StoreRecord}
use Rattle.retry_discard.specs.core_spec.History.{History}
use Rattle.queue_log.specs.Queued.{queue_moment, QueueImages, QueueSince}
use Rattle.core_state.specs.declared.state.CoreState.{CoreState}
use Rattle.core_state.specs.StandsFor.{StandsAt}

-- time didn't go back from the first moment to the second, in either file
abbrev pub IsLater : ℕ × ℕ → ℕ × ℕ → Type 0
IsLater before now = (before.0 ≤ now.0) × (before.1 ≤ now.1)

-- The call writes the store first. At any moment since its start, an image of the store may meet one of the queue at the start.
-- Then an image of the store at the call's end may meet one of the queue since the start. Time doesn't go back.
pub record Within {D K : Type 0} (may_leave : D → List ℕ → Type 0) (moment : D → ℕ) (left_since : D → ℕ → List ℕ → Type 0)
    (images : K → Option (List StoreRecord) → Type 0) (keeper_moment : K → ℕ × ℕ) (images_since : K → ℕ × ℕ → Option (List StoreRecord) → Type 0)
    (old new : CoreState D K) (P : Option (List QueueRecord) → Option (List StoreRecord) → Type 0) : Type 0 where
  pub later_queue : IsLater (queue_moment moment old.queue) (queue_moment moment new.queue)
  pub later_store : IsLater (keeper_moment old.store) (keeper_moment new.store)
  pub store_first : (q : Option (List QueueRecord)) (s : Option (List StoreRecord)) → QueueImages may_leave old.queue q → images_since new.store (keeper_moment old.store) s → P q s
  pub then_queue : (q : Option (List QueueRecord)) (s : Option (List StoreRecord)) → QueueSince left_since new.queue (queue_moment moment old.queue) q → images new.store s → P q s

-- the same, with the ghosts of each trait as one value
abbrev pub CoreIsWithin : {D K : Type 0} → disk.Ghosts D → keeper.Ghosts K → CoreState D K → CoreState D K
    → (Option (List QueueRecord) → Option (List StoreRecord) → Type 0) → Type 0
CoreIsWithin d k = Within d.may_leave d.moment d.left_since k.images k.moment k.images_since

-- the second history continues the first
abbrev pub GoesOn : History → History → Type 0
GoesOn old new = (more : History) × (new ≡ more ++ old)

-- The images stand for the history at the call's start with a part of the events that the call added. They may also include the
-- events of the record that was being written.
pub record StandsAmid (ttls : Ttls) (Begins : History → History → Type 0) (old new : History) (queue_image : Option (List QueueRecord)) (store_image : Option (List StoreRecord)) : Type 0 where
  pub upto : History
  pub from_old : GoesOn old upto
  pub to_new : GoesOn upto new
  pub begun : History
  pub begins : (begun ≡ []) ⊎ Begins upto begun
  pub stands : StandsAt ttls queue_image store_image (begun ++ upto)
