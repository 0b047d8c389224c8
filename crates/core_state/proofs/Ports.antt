-- What a disk and a keeper mean, and the laws of these meanings, as one record.
use Rattle.std.proofs.Common.{ℕ, Bool, List, Option, IsTrue}
use Rattle.supersede_core.specs.record_spec.declared.store.StoreRecord.{StoreRecord}
use Rattle.queue_log.specs.fleet_keeper.Records.{AllAre}
use Rattle.core_state.specs.Puts.{KeeperStays}

pub record Ports (D K : Type 0) : Type 1 where
  pub tells : Bool
  pub seen : D → List ℕ
  pub may_leave : D → List ℕ → Type 0
  pub moment : D → ℕ
  pub left_since : D → ℕ → List ℕ → Type 0
  pub faults : D → ℕ
  pub told : (d : D) (c : List ℕ) → may_leave d c → IsTrue tells
  pub told_since : (d : D) (t : ℕ) (c : List ℕ) → left_since d t c → IsTrue tells
  pub only_now : (d : D) (c : List ℕ) → left_since d (moment d) c → may_leave d c
  pub store_tells : Bool
  pub kept : K → Option (List StoreRecord)
  pub images : K → Option (List StoreRecord) → Type 0
  pub store_moment : K → ℕ × ℕ
  pub images_since : K → ℕ × ℕ → Option (List StoreRecord) → Type 0
  pub store_up : K → Type 0
  pub store_down : K → Bool
  pub store_size : K → ℕ
  pub store_generation : K → ℕ
  pub store_opened : K → ℕ × ℕ
  pub store_within : K → ℕ × ℕ × ℕ → Type 0
  pub store_faults : K → ℕ
  pub store_told : (k : K) (o : Option (List StoreRecord)) → images k o → IsTrue store_tells
  pub store_told_since : (k : K) (t : ℕ × ℕ) (o : Option (List StoreRecord)) → images_since k t o → IsTrue store_tells
  pub store_only_now : (k : K) (o : Option (List StoreRecord)) → images_since k (store_moment k) o → images k o
  pub store_stands : (k : K) → store_up k → AllAre (images k) (kept k)

-- the keeper is the one that was opened
abbrev pub keeper_stays : {D K : Type 0} → Ports D K → K → K → Type 0
keeper_stays p = KeeperStays p.store_generation p.store_opened p.store_within
