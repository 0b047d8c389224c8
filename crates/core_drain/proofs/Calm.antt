-- Counts of faults of the queue's disks, over calls.
use Rattle.std.proofs.Common.{◌≡◌, ◌∙◌, ℕ, arith, refl, sym, ap, subst, Some}
use Rattle.core_ends.specs.log_pair.Open.{PairCounts}
use Rattle.core_ends.specs.log_pair.Pair.{disk_a, disk_b}
use Rattle.core_ends.specs.queue_log.declared.queue.QueueLog.{QueueLog}
use Rattle.core_ends.specs.queue_log.Queued.{queue_pair}
use Rattle.core_ends.specs.core_state.Puts.{QueueCounts}
use Rattle.core_ends.specs.core_claims.declared.answers.Claimed.{Claimed}
use Rattle.core_ends.specs.core_claims.declared.answers.Claimed.TheVariants as claimed
use Rattle.core_ends.specs.core_settles.declared.answers.Settled.{Settled}
use Rattle.core_ends.specs.core_settles.declared.answers.Settled.TheVariants as settled
use Rattle.core_ends.specs.declared.ends.WorkEnd.{WorkEnd}
use Rattle.core_ends.specs.declared.ends.WorkEnd.TheVariants as end
use Rattle.core_ends.specs.Answers.{after_claim, after_settle}

counts_from : {G : Type 0} (a now_a later_a b now_b later_b : ℕ) → now_a ≡ a → now_b ≡ b → PairCounts now_a later_a now_b later_b G → PairCounts a later_a b later_b G
counts_from {G} a now_a later_a b now_b later_b same_a same_b h =
    subst (λ (n : ℕ). PairCounts n later_a b later_b G) same_a (subst (λ (n : ℕ). PairCounts now_a later_a n later_b G) same_b h)

module _ {D : Type 0} (faults : D → ℕ) where
  -- a fault that is told in other words
  pub counts_as : {F G : Type 0} (old new : QueueLog D) → (F → G) → (G → F) → QueueCounts faults old new F → QueueCounts faults old new G
  counts_as old new to back h = record { later_a = h.later_a; later_b = h.later_b; cause = λ g. h.cause (back g); calm = λ none. h.calm (λ f. none (to f)) }

  -- an answer that is no fault
  pub counts_calm : {F : Type 0} (old new : QueueLog D) → (F → ⊥) → QueueCounts faults old new F → QueueCounts faults old new ⊥
  counts_calm old new none h = counts_as old new none (λ f. absurd f) h

  -- nothing was written
  pub counts_still : {G : Type 0} (old new : QueueLog D) → new ≡ old → (G → ⊥) → QueueCounts faults old new G
  counts_still old new same none =
      let a = ap (λ (l : QueueLog D). faults (disk_a (queue_pair l))) same in
      let b = ap (λ (l : QueueLog D). faults (disk_b (queue_pair l))) same in
      record { later_a = omega (arith, a); later_b = omega (arith, b); cause = λ g. absurd (none g); calm = λ n. (a, b) }

  -- behind calls that answered none
  pub counts_then : {G : Type 0} (a b c : QueueLog D) → QueueCounts faults a b ⊥ → QueueCounts faults b c G → QueueCounts faults a c G
  counts_then a b c h k =
      let same = h.calm (λ f. f) in
      counts_from (faults (disk_a (queue_pair a))) (faults (disk_a (queue_pair b))) (faults (disk_a (queue_pair c))) (faults (disk_b (queue_pair a))) (faults (disk_b (queue_pair b))) (faults (disk_b (queue_pair c)))
      same.0 same.1 k

-- ---- which answer the fault is

pub claim_fault : (came : Claimed) → after_claim came ≡ Some end.QueueFault → came ≡ claimed.QueueFault
claim_fault (claimed.Job job) e = absurd cc
claim_fault claimed.Rest e = absurd cc
claim_fault claimed.Done e = absurd cc
claim_fault claimed.QueueFault e = refl
claim_fault claimed.Spent e = absurd cc
claim_fault claimed.Down e = absurd cc
claim_fault claimed.Memory e = absurd cc

pub settle_fault : (came : Settled) → after_settle came ≡ Some end.QueueFault → came ≡ settled.QueueFault
settle_fault settled.Applied e = absurd cc
settle_fault settled.Discarded e = absurd cc
settle_fault (settled.Failed attempts) e = absurd cc
settle_fault settled.StoreDown e = absurd cc
settle_fault settled.QueueFault e = refl
settle_fault settled.NotClaimed e = absurd cc
settle_fault settled.Spent e = absurd cc
settle_fault settled.Down e = absurd cc
settle_fault (settled.Memory given u) e = absurd cc

pub end_fault : (e : WorkEnd) → Some e ≡ Some end.QueueFault → e ≡ end.QueueFault
end_fault end.Done h = absurd cc
end_fault end.QueueFault h = refl
end_fault end.StoreDown h = absurd cc
end_fault end.Spent h = absurd cc
end_fault end.Down h = absurd cc
end_fault end.Memory h = absurd cc

-- want of memory is none
pub memory_is_calm : (e : WorkEnd) → e ≡ end.Memory → Some e ≡ Some end.QueueFault → ⊥
memory_is_calm e is h = let apart : end.Memory ≡ end.QueueFault = sym is ∙ end_fault e h in cc
