-- Damage of a log is a fact about its frames.
use Rattle.std.specs.Prelude.{◌≡◌, ℕ, List}
use Rattle.core_machine.specs.record_spec.declared.queue.QueueRecord.{QueueRecord}
use Rattle.core_machine.specs.record_spec.declared.store.StoreRecord.{StoreRecord}
use Rattle.core_machine.specs.core_spec.Damage.{IsQueueLog, IsStoreLog, IsQueueFrame, IsStoreFrame, EachIs, IsQueueDamage, IsStoreDamage}

-- no frame spells two records
abbrev pub QueueFramesAreOne : Type 0
QueueFramesAreOne = (frame : List ℕ) (x y : QueueRecord) → IsQueueFrame frame x → IsQueueFrame frame y → x ≡ y

abbrev pub StoreFramesAreOne : Type 0
StoreFramesAreOne = (frame : List ℕ) (x y : StoreRecord) → IsStoreFrame frame x → IsStoreFrame frame y → x ≡ y

-- the frames of a log have no damage
pub record LogsAreUndamaged : Type 0 where
  pub queue : QueueFramesAreOne → (frames : List (List ℕ)) (records : List QueueRecord) (at : ℕ) → EachIs IsQueueFrame frames records → IsQueueLog records → IsQueueDamage frames at → ⊥
  pub store : StoreFramesAreOne → (frames : List (List ℕ)) (records : List StoreRecord) (at : ℕ) → EachIs IsStoreFrame frames records → IsStoreLog records → IsStoreDamage frames at → ⊥

-- any frames are damaged at one position at most
pub record DamageHasOnePlace : Type 0 where
  pub queue : QueueFramesAreOne → (frames : List (List ℕ)) (at other : ℕ) → IsQueueDamage frames at → IsQueueDamage frames other → at ≡ other
  pub store : StoreFramesAreOne → (frames : List (List ℕ)) (at other : ℕ) → IsStoreDamage frames at → IsStoreDamage frames other → at ≡ other
