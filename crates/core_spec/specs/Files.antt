-- What the bytes of the four files stand for. Two files belong to the queue's log, and two to the store's.
use Rattle.std.specs.Prelude.{ℕ, List}
use Rattle.log_spec.specs.PairImage.{counts, IsPairImage}
use Rattle.log_spec.specs.declared.side.Side.{Side}
use Rattle.table_spec.specs.fleet_rows.declared.settings.Ttls.{Ttls}
use Rattle.record_spec.specs.declared.queue.QueueRecord.{QueueRecord}
use Rattle.record_spec.specs.declared.store.StoreRecord.{StoreRecord}
use Rattle.core_spec.specs.Damage.{IsQueueFrame, IsStoreFrame, EachIs}
use Rattle.core_spec.specs.History.{History}
use Rattle.core_spec.specs.Stands.{Stands}

-- One of the two files counts, and its frames are the texts of these records.
pub record Hold {A : Type 0} (IsFrame : List ℕ → A → Type 0) (a b : List ℕ) (records : List A) : Type 0 where
  pub side : Side
  pub generation : ℕ
  pub frames : List (List ℕ)
  pub gate : ℕ
  pub image : IsPairImage a b (counts side generation frames gate)
  pub reads : EachIs IsFrame frames records

abbrev pub HoldQueue : List ℕ → List ℕ → List QueueRecord → Type 0
HoldQueue a b queued = Hold IsQueueFrame a b queued

abbrev pub HoldStore : List ℕ → List ℕ → List StoreRecord → Type 0
HoldStore a b kept = Hold IsStoreFrame a b kept

-- The records in the queue's files and the store's files stand for the history, under these lifetimes.
pub record FilesStand (ttls : Ttls) (history : History) (queue_a queue_b store_a store_b : List ℕ) : Type 0 where
  pub queued : List QueueRecord
  pub kept : List StoreRecord
  pub queue : HoldQueue queue_a queue_b queued
  pub store : HoldStore store_a store_b kept
  pub stands : Stands ttls queued kept history
