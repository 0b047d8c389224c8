-- What a settle writes, and that Spent comes where there is no room.
use Rattle.std.proofs.Common.{◌≡◌, ◌⊎◌, inl, inr, ℕ, Bool, true, false, Some, None, arith, refl, sym, ap, subst}
use Rattle.core_claims.proofs.of_plain_laws.Booleans.{never}
use Rattle.core_claims.specs.fleet_rows.declared.change.Change.{Change}
use Rattle.core_claims.specs.fleet_rows.declared.refusal.Refusal.{Refusal}
use Rattle.core_claims.specs.record_spec.declared.queue.QueueRecord.{QueueRecord}
use Rattle.core_claims.specs.record_spec.declared.queue.QueueRecord.TheVariants as queue
use Rattle.core_claims.specs.record_spec.Queue.{queue_text}
use Rattle.core_claims.specs.fleet_keeper.declared.kept.Kept.{Kept}
use Rattle.core_claims.specs.fleet_keeper.declared.kept.Kept.TheVariants as kept
use Rattle.core_claims.specs.fleet_keeper.Kept.{IsFaulty}
use Rattle.core_claims.specs.fleet_keeper.Limits.{IsPast}
use Rattle.core_claims.specs.core_machine.Claims.{is_claimed}
use Rattle.core_claims.specs.queue_log.Queued.{queued, queue_down, queue_size}
use Rattle.core_claims.specs.declared.job.Job.{Job}
use Rattle.core_claims.specs.core_state.declared.state.CoreState.{CoreState}
use Rattle.core_claims.proofs.of_core_state.Fits.{put_fits, kept_fits}
use Rattle.core_claims.proofs.of_core_state.Ports.{Ports, keeper_stays}
use Rattle.core_claims.proofs.of_core_state.Standing.{is_down}
use Rattle.core_settles.specs.declared.answers.Settled.{Settled}
use Rattle.core_settles.specs.declared.answers.Settled.TheVariants as settled
use Rattle.core_settles.specs.declared.answers.Verdict.{Verdict}
use Rattle.core_settles.specs.declared.answers.Verdict.TheVariants as verdict
use Rattle.core_settles.specs.Ends as ends
use Rattle.core_settles.specs.Ends.{SettleDoes, was_down, not_claimed, worked}
use Rattle.core_settles.specs.Settles.{IsSpent, queue_record, QueueWrites, StoreWrites, is_applied, IsMemory}
use Rattle.core_settles.proofs.Outcomes.{Put, Keeps, kept_record, Failure, StoreFailed, Outcome, down, unclaimed, no_memory, freed, refused, refuse_unput, refuse_open, applied, undone, store_down, failed, given_up, fail_unput, fail_open}
use Rattle.core_settles.proofs.SettledParts.{at_case, done_still}

module _ {D K : Type 0} (p : Ports D K) (job : Job) (old new : CoreState D K) where
  abbrev before : ℕ
  before = p.store_faults old.store

  abbrev after : ℕ
  after = p.store_faults new.store

  -- ---- the queue

  abbrev Writes : Settled → Verdict → Type 0
  Writes came v = QueueWrites p.tells p.seen (queue_record came job v before after) old.queue new.queue

  abbrev Unwritten : Type 0
  Unwritten = QueueWrites p.tells p.seen None old.queue new.queue

  same_queue : new.queue ≡ old.queue → Unwritten
  same_queue same = (ap queue_size same, (λ up told. ap (queued p.seen) same))

  put_queue : (rec : QueueRecord) → Put p job old new kept.Ok rec → QueueWrites p.tells p.seen (Some rec) old.queue new.queue
  put_queue rec put = (put.grew refl, put.queued_one refl, put_fits p old.queue new.queue rec put)

  unput_queue : (answer : Kept) (rec : QueueRecord) → IsFaulty answer → Put p job old new answer rec → Unwritten
  unput_queue kept.Ok rec faulty put = absurd faulty
  unput_queue kept.Failed rec faulty put = (put.same_size (λ e. cc), (λ up told. put.queued_old tt told))
  unput_queue kept.Down rec faulty put = (put.same_size (λ e. cc), (λ up told. never (queue_down new.queue) (put.down.1 refl) up))
  unput_queue kept.Memory rec faulty put = absurd faulty
  unput_queue kept.Spent rec faulty put = absurd faulty

  pub settle_writes : (came : Settled) (v : Verdict) → Outcome p job old new came v → Writes came v
  settle_writes came v (down e is same) = at_case p job old new Writes e refl (same_queue (ap (λ (x : CoreState D K). x.queue) same))
  settle_writes came v (unclaimed e up is same) = at_case p job old new Writes e refl (same_queue (ap (λ (x : CoreState D K). x.queue) same))
  settle_writes came v (no_memory e up is m) = at_case p job old new Writes e refl (same_queue m.queue)
  settle_writes came v (freed e up is s h) = at_case p job old new Writes e refl (same_queue h.queue)
  settle_writes came v (refused refusal ve e up is put store h) = at_case p job old new Writes e ve (put_queue (queue.Refused job.receipt refusal) put)
  settle_writes came v (refuse_unput refusal ve e up is put store h) = at_case p job old new Writes e ve (unput_queue kept.Failed _ tt put)
  settle_writes came v (refuse_open refusal ve e up is put store m) = at_case p job old new Writes e ve (unput_queue kept.Down _ tt put)
  settle_writes came v (applied change ve e up is keeps put h) = at_case p job old new Writes e ve (put_queue (queue.Done job.receipt) put)
  settle_writes came v (undone change ve e up is keeps answer faulty put h) = at_case p job old new Writes e ve (unput_queue answer _ faulty put)
  settle_writes came v (store_down change ve e up is keeps queue m) = at_case p job old new Writes e ve (same_queue queue)
  settle_writes came v (failed change n ve e up is f put n_is few h) = at_case p job old new Writes e ve (put_queue (Failure p job old new) put)
  settle_writes came v (given_up change ve e up is f put n_is h) = at_case p job old new Writes e ve (put_queue (Failure p job old new) put)
  settle_writes came v (fail_unput change ve e up is f put h) = at_case p job old new Writes e ve (unput_queue kept.Failed _ tt put)
  settle_writes came v (fail_open change ve e up is f put m) = at_case p job old new Writes e ve (unput_queue kept.Down _ tt put)

  -- ---- the store

  abbrev StoresIf : Bool → Verdict → Type 0
  StoresIf b v = StoreWrites p.store_tells p.kept p.store_down p.store_size b job v old.store new.store

  abbrev Stores : Settled → Verdict → Type 0
  Stores came v = StoresIf (is_applied came new.undone) v

  same_store : (v : Verdict) → new.store ≡ old.store → StoresIf false v
  same_store v same = (ap p.store_size same, (λ up told. ap p.kept same))

  has_change : (change : Change) → Keeps p job old new kept.Ok (kept_record p job old new change) new.store → StoresIf true (verdict.Change change)
  has_change change keeps = (keeps.grew refl, keeps.kept_one refl, kept_fits p old.store new.store (kept_record p job old new change) keeps)

  has_failed : (v : Verdict) (change : Change) → StoreFailed p job old new change → StoresIf false v
  has_failed v change f = (f.keeps.same_size (λ e. cc), (λ up told. f.keeps.kept_old tt told))

  went_down : (v : Verdict) (change : Change) → Keeps p job old new kept.Down (kept_record p job old new change) new.store → StoresIf false v
  went_down v change keeps = (keeps.same_size (λ e. cc), (λ up told. never (p.store_down new.store) (keeps.down.1 refl) up))

  at_undone : (b : Bool) (v : Verdict) → new.undone ≡ b → StoresIf b v → StoresIf new.undone v
  at_undone b v e h = subst (λ x. StoresIf x v) (sym e) h

  pub settle_stores : (came : Settled) (v : Verdict) → Outcome p job old new came v → Stores came v
  settle_stores came v (down e is same) = at_case p job old new Stores e refl (same_store v (ap (λ (x : CoreState D K). x.store) same))
  settle_stores came v (unclaimed e up is same) = at_case p job old new Stores e refl (same_store v (ap (λ (x : CoreState D K). x.store) same))
  settle_stores came v (no_memory e up is m) = at_case p job old new Stores e refl (same_store v m.store)
  settle_stores came v (freed e up is s h) = at_case p job old new Stores e refl (same_store v h.store)
  settle_stores came v (refused refusal ve e up is put store h) = at_case p job old new Stores e ve (same_store (verdict.Refused refusal) store)
  settle_stores came v (refuse_unput refusal ve e up is put store h) = at_case p job old new Stores e ve (at_undone false (verdict.Refused refusal) (done_still p job old new up h.others.undone) (same_store (verdict.Refused refusal) store))
  settle_stores came v (refuse_open refusal ve e up is put store m) = at_case p job old new Stores e ve (at_undone false (verdict.Refused refusal) (done_still p job old new up m.others.undone) (same_store (verdict.Refused refusal) store))
  settle_stores came v (applied change ve e up is keeps put h) = at_case p job old new Stores e ve (has_change change keeps)
  settle_stores came v (undone change ve e up is keeps answer faulty put h) = at_case p job old new Stores e ve (at_undone true (verdict.Change change) h.undone_is (has_change change keeps))
  settle_stores came v (store_down change ve e up is keeps queue m) = at_case p job old new Stores e ve (went_down (verdict.Change change) change keeps)
  settle_stores came v (failed change n ve e up is f put n_is few h) = at_case p job old new Stores e ve (has_failed (verdict.Change change) change f)
  settle_stores came v (given_up change ve e up is f put n_is h) = at_case p job old new Stores e ve (has_failed (verdict.Change change) change f)
  settle_stores came v (fail_unput change ve e up is f put h) = at_case p job old new Stores e ve (at_undone false (verdict.Change change) (done_still p job old new up h.others.undone) (has_failed (verdict.Change change) change f))
  settle_stores came v (fail_open change ve e up is f put m) = at_case p job old new Stores e ve (at_undone false (verdict.Change change) (done_still p job old new up m.others.undone) (has_failed (verdict.Change change) change f))

  -- ---- where there is no room

  module _ (came : Settled) where
    abbrev Refuses : Type 0
    Refuses = (came ≡ settled.Spent) ⊎ IsMemory came

    to_memory : (w : Verdict) → came ≡ settled.Memory job w → Refuses
    to_memory w e = inr (subst IsMemory (sym e) tt)

    isnt_spent : (answer : Kept) (rec : QueueRecord) → (answer ≡ kept.Spent → ⊥) → Put p job old new answer rec → IsPast (queue_size old.queue) (queue_text rec) → Refuses
    isnt_spent answer rec other put past = absurd (other (put.spent.1 past))

    refuse_unspent : (refusal : Refusal) → ends.RefuseDoes p.tells p.seen p.may_leave p.moment p.left_since p.faults came job refusal old new → IsSpent p.store_size job (verdict.Refused refusal) old → Refuses
    refuse_unspent refusal (ends.no_memory e stays) past = to_memory (verdict.Refused refusal) e
    refuse_unspent refusal (ends.refused e put store h) past = isnt_spent kept.Ok _ (λ i. cc) put past
    refuse_unspent refusal (ends.spent e put store h) past = inl e
    refuse_unspent refusal (ends.unput e put store h) past = isnt_spent kept.Failed _ (λ i. cc) put past
    refuse_unspent refusal (ends.left_open e put store m) past = isnt_spent kept.Down _ (λ i. cc) put past

    store_unspent : (change : Change) (answer : Kept) (mid : CoreState D K) → ends.AfterDoes p.tells p.seen p.may_leave p.moment p.left_since p.faults p.store_faults came answer job change before mid new
        → (answer ≡ kept.Spent) ⊎ (answer ≡ kept.Memory) → Refuses
    store_unspent change answer mid did (inl e) = inl (subst (λ (a : Kept). ends.AfterDoes p.tells p.seen p.may_leave p.moment p.left_since p.faults p.store_faults came a job change before mid new) e did).0
    store_unspent change answer mid did (inr e) = to_memory (verdict.Change change) (subst (λ (a : Kept). ends.AfterDoes p.tells p.seen p.may_leave p.moment p.left_since p.faults p.store_faults came a job change before mid new) e did).0

    keep_unspent : (change : Change) → ends.KeepDoes p.tells p.store_tells p.seen p.may_leave p.moment p.left_since p.faults p.kept p.images p.store_moment p.images_since p.store_up p.store_down p.store_size (keeper_stays p) p.store_faults came job change old new
        → IsSpent p.store_size job (verdict.Change change) old → Refuses
    keep_unspent change (ends.no_room e past h) s = inl e
    keep_unspent change (ends.no_memory e stays) s = to_memory (verdict.Change change) e
    keep_unspent change (ends.stored room did) (inl past) = store_unspent change did.answer did.mid did.after (did.kept.unspent past)
    keep_unspent change (ends.stored room did) (inr past) = absurd (omega (arith, room, past))

    work_unspent : (v : Verdict) → ends.WorkDoes p.tells p.store_tells p.seen p.may_leave p.moment p.left_since p.faults p.kept p.images p.store_moment p.images_since p.store_up p.store_down p.store_size (keeper_stays p) p.store_faults came job v old new
        → IsSpent p.store_size job v old → Refuses
    work_unspent (verdict.Change change) did s = keep_unspent change did s
    work_unspent (verdict.Refused refusal) did s = refuse_unspent refusal did s

    pub settle_unspent : (v : Verdict) → SettleDoes p.tells p.store_tells p.seen p.may_leave p.moment p.left_since p.faults p.kept p.images p.store_moment p.images_since p.store_up p.store_down p.store_size (keeper_stays p) p.store_faults came job v old new
        → is_down p old ≡ false → is_claimed job.receipt old.pending ≡ true → IsSpent p.store_size job v old → Refuses
    settle_unspent v (was_down e is same) up claimed s = never (is_down p old) is up
    settle_unspent v (not_claimed e u is same) up claimed s = never (is_claimed job.receipt old.pending) claimed is
    settle_unspent v (worked u is did) up claimed s = work_unspent v did s
