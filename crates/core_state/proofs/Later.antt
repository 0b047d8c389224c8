-- Time doesn't go back in a call.
use Rattle.std.proofs.Common.{◌≡◌, ℕ, List, Option, arith, ap}
use Rattle.queue_log.specs.log_spec.declared.side.Side.{Side}
use Rattle.queue_log.specs.log_spec.declared.side.Side.TheVariants.{A, B}
use Rattle.queue_log.specs.log_pair.declared.pair.Pair.{Pair}
use Rattle.queue_log.specs.log_pair.Pair.{disk_a, disk_b, Within}
use Rattle.supersede_core.specs.record_spec.declared.queue.QueueRecord.{QueueRecord}
use Rattle.queue_log.specs.fleet_keeper.Pairs.{records_at}
use Rattle.queue_log.specs.queue_records.Reading.{queue_at}
use Rattle.queue_log.specs.declared.queue.QueueLog.{QueueLog}
use Rattle.queue_log.specs.Queued.{queue_pair, queue_moment, queue_side, QueueLeaves}
use Rattle.core_state.specs.declared.state.CoreState.{CoreState}
use Rattle.core_state.specs.Moments.{IsLater}
use Rattle.core_state.proofs.Ports.{Ports}

pub same_later : (t u : ℕ × ℕ) → u ≡ t → IsLater t u
same_later t u same = let first = ap (λ (v : ℕ × ℕ). v.0) same in let second = ap (λ (v : ℕ × ℕ). v.1) same in (omega (arith, first), omega (arith, second))

-- in a run of puts
module _ {D : Type 0} (may_leave : D → List ℕ → Type 0) (moment : D → ℕ) (left_since : D → ℕ → List ℕ → Type 0) where
  pair_later : (P : List ℕ → List ℕ → Type 0) (side : Side) (old new : Pair D) → Within may_leave moment left_since side old new P
      → IsLater (moment (disk_a old), moment (disk_b old)) (moment (disk_a new), moment (disk_b new))
  pair_later P A old new run = (run.moments.later, (let same = ap moment run.untouched in omega (arith, same)))
  pair_later P B old new run = ((let same = ap moment run.untouched in omega (arith, same)), run.moments.later)

  pub put_later : (old new : QueueLog D) (P : Option (List QueueRecord) → Type 0) → QueueLeaves may_leave moment left_since old new P → IsLater (queue_moment moment old) (queue_moment moment new)
  put_later old new P leaves = pair_later (λ a b. P (records_at queue_at a b)) (queue_side old) (queue_pair old) (queue_pair new) leaves.run

-- where nothing is written
module _ {D K : Type 0} (p : Ports D K) (old new : CoreState D K) where
  pub same_queue_later : new.queue ≡ old.queue → IsLater (queue_moment p.moment old.queue) (queue_moment p.moment new.queue)
  same_queue_later same = same_later (queue_moment p.moment old.queue) (queue_moment p.moment new.queue) (ap (queue_moment p.moment) same)

  pub same_store_later : new.store ≡ old.store → IsLater (p.store_moment old.store) (p.store_moment new.store)
  same_store_later same = same_later (p.store_moment old.store) (p.store_moment new.store) (ap p.store_moment same)
