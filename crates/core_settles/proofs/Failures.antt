-- The record of a failure is put, and what follows.
use Rattle.std.proofs.Common.{◌≡◌, ◌∙◌, ℕ, Some, arith, refl, sym, subst}
use Rattle.core_claims.specs.fleet_rows.declared.change.Change.{Change}
use Rattle.core_claims.specs.record_spec.declared.queue.QueueRecord.TheVariants as queue
use Rattle.core_claims.specs.record_spec.declared.store.StoreRecord.TheVariants as store
use Rattle.core_claims.specs.fleet_keeper.declared.kept.Kept.TheVariants as kept
use Rattle.core_claims.specs.core_spec.declared.dead.Dead.{Dead}
use Rattle.core_claims.specs.core_spec.History.{History}
use Rattle.core_claims.specs.queue_log.declared.queue.QueueLog.{QueueLog}
use Rattle.core_claims.specs.declared.job.Job.{Job}
use Rattle.core_claims.specs.core_state.declared.state.CoreState.{CoreState}
use Rattle.core_claims.specs.core_state.Changes.{OthersStay, MemoryStays}
use Rattle.core_claims.specs.core_state.Puts.{HasPut, HasKept}
use Rattle.core_claims.proofs.of_core_state.Ports.{Ports, keeper_stays}
use Rattle.core_settles.specs.declared.answers.Settled.{Settled}
use Rattle.core_settles.specs.declared.answers.Settled.TheVariants as settled
use Rattle.core_settles.specs.Ends.{HasFreed, HasDiscarded, HasFailed, CountDoes, FailDoes, again, last, AfterDoes, StoreDoes}

module _ {D K : Type 0} where
  -- the core with another log of the queue
  abbrev pub with_queue : CoreState D K → QueueLog D → CoreState D K
  with_queue old q = record {
    alloc = old.alloc;
    queue = q;
    store = old.store;
    tables = old.tables;
    pending = old.pending;
    discards = old.discards;
    events = old.events;
    last = old.last;
    undone = old.undone;
    found = old.found;
    opened_a = old.opened_a;
    opened_b = old.opened_b;
  }

  others_from : (old new : CoreState D K) (q : QueueLog D) → OthersStay (with_queue old q) new → OthersStay old new
  others_from old new q o = record { tables = o.tables; dead = o.dead; undone = o.undone; found = o.found; opened_a = o.opened_a; opened_b = o.opened_b }

  pub freed_from : (r : ℕ) (old new : CoreState D K) (q : QueueLog D) → HasFreed r (with_queue old q) new → HasFreed r old new
  freed_from r old new q h = record { others = others_from old new q h.others; pending = h.pending; events = h.events; room = h.room; last = h.last }

  pub discarded_from : (dead : Dead) (more : History) (old new : CoreState D K) (q : QueueLog D) → HasDiscarded dead more (with_queue old q) new → HasDiscarded dead more old new
  discarded_from dead more old new q h = record {
    tables = h.tables;
    dead_is = h.dead_is;
    undone = h.undone;
    found = h.found;
    opened_a = h.opened_a;
    opened_b = h.opened_b;
    pending = h.pending;
    events = h.events;
    room = h.room;
    last = h.last;
  }

  failed_from : (r before after : ℕ) (old new : CoreState D K) (q : QueueLog D) → HasFailed r before after (with_queue old q) new → HasFailed r before after old new
  failed_from r before after old new q h = record { few = h.few; others = others_from old new q h.others; pending = h.pending; events = h.events; room = h.room; last = h.last }

module _ {D K : Type 0} (p : Ports D K) (job : Job) (before after : ℕ) (old new : CoreState D K) (q : QueueLog D) where
  abbrev Put : QueueLog D → Type 0
  Put l = HasPut p.tells p.seen p.may_leave p.moment p.left_since p.faults kept.Ok old.queue l (queue.Fail job.receipt before after)

  abbrev Does : Settled → Type 0
  Does came = FailDoes p.tells p.seen p.may_leave p.moment p.left_since p.faults came job before after old new

  pub put_counted : (came : Settled) → CountDoes came job before after (with_queue old q) new → Put q → Does came
  put_counted settled.Applied d put = absurd d
  put_counted settled.Discarded d put = last refl (subst Put (sym d.1.queue) put) d.1.store d.0 (discarded_from _ _ old new q d.1.discarded)
  put_counted (settled.Failed n) d put = again n refl (subst Put (sym d.2.queue) put) d.2.store d.0 d.1 (failed_from job.receipt before after old new q d.2.failed)
  put_counted settled.StoreDown d put = absurd d
  put_counted settled.QueueFault d put = absurd d
  put_counted settled.NotClaimed d put = absurd d
  put_counted settled.Spent d put = absurd d
  put_counted settled.Down d put = absurd d
  put_counted (settled.Memory j w) d put = absurd d

-- the store's answer, from a core that holds the same
module _ {D K : Type 0} (p : Ports D K) (job : Job) (change : Change) (came : Settled) (old held new : CoreState D K) (same_queue : held.queue ≡ old.queue) (same_store : held.store ≡ old.store) (memory : MemoryStays old held) where
  abbrev Stores : CoreState D K → Type 0
  Stores from = StoreDoes p.tells p.store_tells p.seen p.may_leave p.moment p.left_since p.faults p.kept p.images p.store_moment p.images_since p.store_up p.store_down p.store_size (keeper_stays p) p.store_faults came job change from new

  pub stored_from : Stores held → Stores old
  stored_from did = record {
    answer = did.answer;
    mid = did.mid;
    queue = did.queue ∙ same_queue;
    memory = record {
      others = record {
        tables = did.memory.others.tables ∙ memory.others.tables;
        dead = did.memory.others.dead ∙ memory.others.dead;
        undone = did.memory.others.undone ∙ memory.others.undone;
        found = did.memory.others.found ∙ memory.others.found;
        opened_a = did.memory.others.opened_a ∙ memory.others.opened_a;
        opened_b = did.memory.others.opened_b ∙ memory.others.opened_b;
      };
      pending = did.memory.pending ∙ memory.pending;
      events = did.memory.events ∙ memory.events;
      room = omega (arith, memory.room, did.memory.room);
      last = did.memory.last ∙ memory.last;
    };
    kept = subst (λ (k : K). HasKept p.store_tells p.kept p.images p.store_moment p.images_since p.store_up p.store_down p.store_size (keeper_stays p) p.store_faults did.answer k did.mid.store (store.Received job.receipt (Some job.command.received) change)) same_store did.kept;
    after = subst (λ (k : K). AfterDoes p.tells p.seen p.may_leave p.moment p.left_since p.faults p.store_faults came did.answer job change (p.store_faults k) did.mid new) same_store did.after;
  }
