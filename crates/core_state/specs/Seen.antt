-- What contracts see of a core's parts, and what holds of them whatever the history is.
use Rattle.std.specs.Prelude.{◌≡◌, ◌⊎◌, ℕ, ◌+◌, ◌<◌, ◌≤◌, ◌^◌, Bool, false, ◌||◌, List, [], ◌∷◌, length, if◌then◌else◌}
use Rattle.std.specs.List.{AllByRecursion}
use Rattle.queue_log.specs.fleet_keeper.declared.keeper.Keeper as keeper
use Rattle.queue_log.specs.fleet_ports.declared.disk.Disk as disk
use Rattle.supersede_core.specs.fleet_rows.declared.command.Command.{Command}
use Rattle.supersede_core.specs.history_spec.Lawful.{HasStamp}
use Rattle.fleet_tables.specs.table_machine.Table.{Table}
use Rattle.supersede_core.specs.record_spec.declared.queue.QueueRecord.{QueueRecord}
use Rattle.supersede_core.specs.record_spec.declared.queue.QueueRecord.TheVariants as queue
use Rattle.supersede_core.specs.record_spec.declared.store.StoreRecord.{StoreRecord}
use Rattle.retry_discard.specs.core_spec.declared.dead.Dead.{Dead}
use Rattle.retry_discard.specs.core_spec.declared.entry.Entry.{Entry}
use Rattle.retry_discard.specs.core_spec.declared.event.Event.TheVariants.{Submit}
use Rattle.retry_discard.specs.core_spec.History.{History}
use Rattle.retry_discard.specs.core_spec.Pending.{NoneIsWornOut}
use Rattle.supersede_core.specs.Waiting.{AreBelow}
use Rattle.queue_log.specs.Queued.{queue_down, QueueIsUp}
use Rattle.core_state.specs.declared.state.CoreState.{CoreState}
use Rattle.core_state.specs.declared.state.DownBy.{DownBy}
use Rattle.core_state.specs.declared.state.DownBy.TheVariants.{No, Queue, Store}

-- ---- a core that is down

-- the queue's log is down, or the keeper is, or a command that was applied has no Done
abbrev pub down_of : {D K : Type 0} → (K → Bool) → CoreState D K → Bool
down_of keeper_down core = core.undone || (queue_down core.queue || keeper_down core.store)

abbrev pub down_by_of : {D K : Type 0} → (K → Bool) → CoreState D K → DownBy
down_by_of keeper_down core = if keeper_down core.store then Store else (if core.undone || queue_down core.queue then Queue else No)

-- ---- the parts in memory

pub record Held : Type 0 where
  pub table : Table
  pub pending : List Entry
  pub dead : List Dead
  -- the events since the opening, newest first
  pub events : History
  pub last : ℕ
  -- the records that the opening found in the two logs, oldest first
  pub found_queue : List QueueRecord
  pub found_store : List StoreRecord

abbrev pub held_of : {D K : Type 0} → CoreState D K → Held
held_of core = record {
  table = core.tables;
  pending = core.pending;
  dead = core.discards.list;
  events = core.events.list;
  last = core.last;
  found_queue = core.found.queue.value;
  found_store = core.found.store.value;
}

abbrev pub events_of : {D K : Type 0} → CoreState D K → History
events_of core = core.events.list

-- ---- submitted commands

-- the record has this command under this receipt
abbrev pub TellsSubmit : ℕ → Command → QueueRecord → Type 0
TellsSubmit r c (queue.Held q n d) = (q ≡ r) × (d ≡ c)
TellsSubmit r c (queue.Dead q d why) = (q ≡ r) × (d ≡ c)
TellsSubmit r c (queue.Submit q d) = (q ≡ r) × (d ≡ c)
TellsSubmit r c _ = ⊥

abbrev pub HasRecord : ℕ → Command → List QueueRecord → Type 0
HasRecord r c [] = ⊥
HasRecord r c (x ∷ xs) = TellsSubmit r c x ⊎ HasRecord r c xs

abbrev pub HasSubmit : ℕ → Command → History → Type 0
HasSubmit r c [] = ⊥
HasSubmit r c (Submit q d ∷ earlier) = ((q ≡ r) × (d ≡ c)) ⊎ HasSubmit r c earlier
HasSubmit r c (_ ∷ earlier) = HasSubmit r c earlier

-- The command was submitted by a record that the opening found, or since then. This stays true, whatever follows.
abbrev pub IsSubmittedIn : ℕ → Command → List QueueRecord → History → Type 0
IsSubmittedIn r c found events = HasRecord r c found ⊎ HasSubmit r c events

abbrev pub IsSubmitted : {D K : Type 0} → ℕ → Command → CoreState D K → Type 0
IsSubmitted r c core = IsSubmittedIn r c core.found.queue.value core.events.list

-- ---- a sound core

-- the number of claimed commands
abbrev pub claimed_number : List Entry → ℕ
claimed_number [] = 0
claimed_number (e ∷ es) = (if e.claimed then 1 else 0) + claimed_number es

-- the command's receive time can be expressed by a stamp, and its payload fits a record
abbrev pub IsFit : Command → Type 0
IsFit c = HasStamp c.received × (length c.payload < 2 ^ 32)

-- Each pending command has a receipt that was given out and was submitted under it. Each is fit, and failed fewer than sixteen
-- times.
pub record AreSound (last : ℕ) (found : List QueueRecord) (events : History) (pending : List Entry) : Type 0 where
  pub below : AreBelow (last + 1) pending
  pub few : NoneIsWornOut pending
  pub submitted : AllByRecursion (λ (e : Entry). IsSubmittedIn e.receipt e.command found events) pending
  pub fit : AllByRecursion (λ (e : Entry). IsFit e.command) pending

-- A log that isn't down can be called, and each claimed command can be released without memory.
pub record IsSound {D K : Type 0} (seen : D → List ℕ) (may_leave : D → List ℕ → Type 0) (keeper_down : K → Bool) (keeper_up : K → Type 0) (core : CoreState D K) : Type 0 where
  pub queue : queue_down core.queue ≡ false → QueueIsUp seen may_leave core.queue
  pub store : keeper_down core.store ≡ false → keeper_up core.store
  pub pending : AreSound core.last core.found.queue.value core.events.list core.pending
  pub room : claimed_number core.pending ≤ core.events.room

-- the same, with the ghosts of each trait as one value
abbrev pub CoreIsSound : {D K : Type 0} → disk.Ghosts D → keeper.Ghosts K → CoreState D K → Type 0
CoreIsSound d k = IsSound d.seen d.may_leave k.down k.is_up
