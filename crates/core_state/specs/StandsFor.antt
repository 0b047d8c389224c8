-- Which history a core stands for.
use Rattle.std.specs.Prelude.{◌≡◌, ◌⊎◌, ℕ, Bool, true, false, List, [], ◌∷◌, ◌++◌, Option, Some, IsTrue}
use Rattle.queue_log.specs.fleet_keeper.declared.keeper.Keeper as keeper
use Rattle.queue_log.specs.fleet_ports.declared.disk.Disk as disk
use Rattle.supersede_core.specs.fleet_rows.declared.refusal.Cause.TheVariants.{Failures}
use Rattle.supersede_core.specs.fleet_rows.declared.settings.Ttls.{Ttls}
use Rattle.fleet_tables.specs.Stands as sheets
use Rattle.supersede_core.specs.record_spec.declared.queue.QueueRecord.{QueueRecord}
use Rattle.supersede_core.specs.record_spec.declared.store.StoreRecord.{StoreRecord}
use Rattle.retry_discard.specs.core_spec.declared.event.Event.{Event}
use Rattle.retry_discard.specs.core_spec.declared.event.Event.TheVariants.{Claim, Release, Fail, Discard, Restart}
use Rattle.retry_discard.specs.core_spec.Damage.{IsQueueLog}
use Rattle.retry_discard.specs.core_spec.Discards.{dead_of}
use Rattle.retry_discard.specs.core_spec.History.{History, last_receipt, trace_of}
use Rattle.retry_discard.specs.core_spec.Legal.{IsAfterFails}
use Rattle.retry_discard.specs.core_spec.Pending.{pending_of}
use Rattle.retry_discard.specs.core_spec.Stands.{QueueTells, StoreTells, Stands}
use Rattle.compact_laws.specs.core_laws.StandingLaws.{IsPlain}
use Rattle.queue_log.specs.Queued.{queued, QueueImages}
use Rattle.core_state.specs.declared.state.CoreState.{CoreState}
use Rattle.core_state.specs.Seen.{down_of, Held, held_of}

-- ---- in memory

-- What is held is what the history says. The history is legal, and no failure in it was counted above the store's fault count.
pub record IsHeld (held : Held) (count : ℕ) (history : History) : Type 0 where
  pub plain : IsPlain held.table.ttls history
  pub pending : held.pending ≡ pending_of history
  pub dead : held.dead ≡ dead_of history
  pub tables : sheets.Stands held.table (trace_of history)
  pub last : held.last ≡ last_receipt history
  pub after_fails : IsAfterFails count history

-- The records that the opening found stand for the history at the start. What is held is what that history and the core's events
-- say.
pub record HoldsFor (held : Held) (count : ℕ) (start : History) : Type 0 where
  pub found : Stands held.table.ttls held.found_queue held.found_store start
  pub says : IsHeld held count (held.events ++ start)

-- ---- on the disks

-- Records of the two logs tell the history, and those of the queue are a log. They are the contents of the logs, if these tell
-- content.
pub record LogsTell {D K : Type 0} (queue_tells store_tells : Bool) (seen : D → List ℕ) (kept : K → Option (List StoreRecord)) (core : CoreState D K) (history : History) : Type 0 where
  pub queue_records : List QueueRecord
  pub store_records : List StoreRecord
  pub queue : QueueTells queue_records history
  pub log : IsQueueLog queue_records
  pub store : StoreTells core.tables.ttls store_records history
  pub queue_is : IsTrue queue_tells → queued seen core.queue ≡ Some queue_records
  pub store_is : IsTrue store_tells → kept core.store ≡ Some store_records

-- the records of an image of each log stand for the history
pub record StandsAt (ttls : Ttls) (queue_image : Option (List QueueRecord)) (store_image : Option (List StoreRecord)) (history : History) : Type 0 where
  pub queue_records : List QueueRecord
  pub store_records : List StoreRecord
  pub queue_is : queue_image ≡ Some queue_records
  pub store_is : store_image ≡ Some store_records
  pub stands : Stands ttls queue_records store_records history

-- each image of the queue together with each of the store
abbrev pub EachImage : {D K : Type 0} → (D → List ℕ → Type 0) → (K → Option (List StoreRecord) → Type 0) → CoreState D K
    → (Option (List QueueRecord) → Option (List StoreRecord) → Type 0) → Type 0
EachImage may_leave images core P =
    (q : Option (List QueueRecord)) (s : Option (List StoreRecord)) → QueueImages may_leave core.queue q → images core.store s → P q s

-- the events that leave a record of their own
abbrev pub LeavesRecord : Event → Type 0
LeavesRecord (Claim r) = ⊥
LeavesRecord (Release r) = ⊥
LeavesRecord (Discard r Failures) = ⊥
LeavesRecord Restart = ⊥
LeavesRecord _ = Unit {0}

-- no event, or the events of one record
pub data AreOfOneRecord (events : History) : Type 0 where
  none : events ≡ [] → AreOfOneRecord events
  one : (e : Event) → LeavesRecord e → events ≡ e ∷ [] → AreOfOneRecord events
  -- a sixteenth failure and its discard
  sixteenth : (r before after : ℕ) → events ≡ Discard r Failures ∷ Fail r before after ∷ [] → AreOfOneRecord events

-- Each image stands for the history. If the core is down, some images may also include the events of one more record: the one
-- that the call which took the core down left open.
pub record ImagesStand {D K : Type 0} (may_leave : D → List ℕ → Type 0) (images : K → Option (List StoreRecord) → Type 0) (core : CoreState D K) (down : Bool) (history : History) : Type 0 where
  pub begun : History
  pub of_one : AreOfOneRecord begun
  pub each : EachImage may_leave images core (λ q s. StandsAt core.tables.ttls q s history ⊎ ((down ≡ true) × StandsAt core.tables.ttls q s (begun ++ history)))

-- ---- in memory and on the disks

-- the history that starts with this one and continues with the core's events
abbrev pub history_of : {D K : Type 0} → CoreState D K → History → History
history_of core start = core.events.list ++ start

-- The core stands for the history that starts with this one and continues with its events.
pub record StandsFor {D K : Type 0} (queue_tells store_tells : Bool) (seen : D → List ℕ) (may_leave : D → List ℕ → Type 0)
    (kept : K → Option (List StoreRecord)) (images : K → Option (List StoreRecord) → Type 0) (keeper_down : K → Bool) (fault_count : K → ℕ)
    (core : CoreState D K) (start : History) : Type 0 where
  pub holds : HoldsFor (held_of core) (fault_count core.store) start
  pub tells : down_of keeper_down core ≡ false → LogsTell queue_tells store_tells seen kept core (history_of core start)
  pub disks : ImagesStand may_leave images core (down_of keeper_down core) (history_of core start)

-- the same, with the ghosts of each trait as one value
abbrev pub CoreStandsFor : {D K : Type 0} → disk.Ghosts D → keeper.Ghosts K → CoreState D K → History → Type 0
CoreStandsFor d k = StandsFor d.is_told k.is_told d.seen d.may_leave k.kept k.images k.down k.fault_count
