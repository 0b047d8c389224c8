-- What each call of a core does, clause for clause, between the core found and the core left.
use Rattle.std.specs.Prelude.{◌≡◌, ◌≢◌, ◌⊎◌, ◌↔◌, ℕ, ℤ, ◌≤◌, true, false, [], ◌∷◌, ◌++◌, length}
use Rattle.core_ends.specs.fleet_ports.Counts.{Counts, RoseBy}
use Rattle.core_ends.specs.fleet_rows.declared.command.Command.{Command}
use Rattle.core_ends.specs.fleet_rows.declared.refusal.Refusal.{Refusal}
use Rattle.core_ends.specs.fleet_rows.declared.settings.Kinds.{Kinds}
use Rattle.core_ends.specs.fleet_keeper.Limits.{IsPast}
use Rattle.core_ends.specs.record_spec.Store.{store_text}
use Rattle.core_ends.specs.record_spec.declared.store.StoreRecord.TheVariants as store
use Rattle.core_ends.specs.core_spec.declared.event.Event.TheVariants.{Release}
use Rattle.core_ends.specs.core_spec.History.{History}
use Rattle.core_ends.specs.core_machine.Claims.{is_claimed}
use Rattle.core_ends.specs.queue_log.Queued.{queue_down, queue_size}
use Rattle.core_ends.specs.core_state.declared.state.CoreState.{CoreState}
use Rattle.core_ends.specs.core_state.Changes.{OthersStay, MemoryStays, CoreStays, OpeningStays}
use Rattle.core_ends.specs.core_state.Moments.{Within, StandsAmid}
use Rattle.core_ends.specs.core_state.Puts.{QueueCounts, QueueRoseTwice}
use Rattle.core_ends.specs.core_state.Seen.{IsSubmitted}
use Rattle.core_ends.specs.core_state.StandsFor.{EachImage, history_of}
use Rattle.fleet_rows.specs.declared.submitted.Submitted.{Submitted}
use Rattle.fleet_rows.specs.declared.submitted.Submitted.TheVariants as submit_answer
use Rattle.core_ends.specs.core_submits.Submits as submits
use Rattle.core_ends.specs.core_submits.Submits.{IsFull, IsSubmitOf, SubmitAdds, SubmitWrites, IsRefusal}
use Rattle.core_ends.specs.core_claims.declared.answers.Claimed.{Claimed}
use Rattle.core_ends.specs.core_claims.declared.answers.Claimed.TheVariants as claim_answer
use Rattle.core_ends.specs.core_claims.declared.job.Job.{Job}
use Rattle.core_ends.specs.core_claims.Claims.{ClaimGives, LeavesPending, HasSubmittedJob, IsOverfull, IsSuperseding, ClaimAdds}
use Rattle.core_ends.specs.core_claims.Releases.{ReleaseGives}
use Rattle.core_ends.specs.core_settles.declared.answers.Settled.{Settled}
use Rattle.core_ends.specs.core_settles.declared.answers.Settled.TheVariants as settle_answer
use Rattle.core_ends.specs.core_settles.declared.answers.Verdict.{Verdict}
use Rattle.core_ends.specs.core_settles.declared.answers.Verdict.TheVariants as verdict
use Rattle.core_ends.specs.core_settles.Settles as settles
use Rattle.core_ends.specs.core_settles.Settles.{SettleGives, IsSettling, StoreRose, settled_events, SettleLeaves, SettleImage, queue_record, QueueWrites, StoreWrites, is_applied, IsMemory}
use Rattle.core_ends.specs.core_sweeps.declared.answers.Swept.{Swept}
use Rattle.core_ends.specs.core_sweeps.declared.answers.Swept.TheVariants as sweep_answer
use Rattle.core_ends.specs.core_sweeps.Sweeps.{SweepAdds, SweepWrites, IsSweep, IsCalm, IsStoreFault}
use Rattle.core_ends.specs.core_course.Sight.{Sight, Stood, is_down}

module _ {D K : Type 0} (w : Sight D K) where
  -- at every moment within, the images stand for the history before, with a part of what the call adds and writes
  abbrev Amid : (History → History → History → Type 0) → CoreState D K → CoreState D K → Type 0
  Amid Writes old new = (start : History) → Stood w old start → is_down w old ≡ false
      → Within w.may_leave w.moment w.left_since w.images w.store_moment w.images_since old new
      (StandsAmid old.tables.ttls (Writes start) (history_of old start) (history_of new start))

  -- the core stands for each history that it stood for, with its new events
  abbrev Stands : CoreState D K → CoreState D K → Type 0
  Stands old new = (start : History) → Stood w old start → Stood w new start

  -- what was submitted stays submitted
  abbrev KeepsSubmitted : CoreState D K → CoreState D K → Type 0
  KeepsSubmitted old new = (r : ℕ) (c : Command) → IsSubmitted r c old → IsSubmitted r c new

  -- the keeper's generation, its opening and its bounds are unchanged
  pub record KeepsStore (generation : K → ℕ) (old new : CoreState D K) : Type 0 where
    pub same_generation : generation new.store ≡ generation old.store
    pub same_opening : w.store_opened new.store ≡ w.store_opened old.store
    pub bounds : (since : ℕ × ℕ × ℕ) → w.store_within old.store since → w.store_within new.store since

  pub record SubmitDoes (came : Submitted) (c : Command) (old new : CoreState D K) : Type 0 where
    pub adds : SubmitAdds came c old.last old.events.list new.events.list
    pub writes : SubmitWrites w.tells w.seen came c old new
    pub stands : Stands old new
    pub any_moment : Amid (λ start. IsSubmitOf old.last c) old new
    pub submitted : KeepsSubmitted old new
    pub others : OthersStay old new
    pub store : new.store ≡ old.store
    pub down : (came ≡ submit_answer.Down) ↔ (is_down w old ≡ true)
    pub unchanged : came ≡ submit_answer.Down → new ≡ old
    pub full : (came ≡ submit_answer.Full) ↔ ((is_down w old ≡ false) × IsFull (length c.payload) old.pending)
    pub spent : came ≡ submit_answer.Spent → submits.IsSpent c old
    pub unspent : is_down w old ≡ false → (IsFull (length c.payload) old.pending → ⊥) → submits.IsSpent c old → (came ≡ submit_answer.Spent) ⊎ (came ≡ submit_answer.Memory)
    pub stays : IsRefusal came → CoreStays old new
    pub fault : came ≡ submit_answer.QueueFault → MemoryStays old new
    pub cause : QueueCounts w.faults old.queue new.queue (came ≡ submit_answer.QueueFault)
    pub twice : is_down w old ≡ false → queue_down new.queue ≡ true → QueueRoseTwice w.faults old.queue new.queue
    pub up : (came ≡ submit_answer.QueueFault → ⊥) → is_down w new ≡ is_down w old

  pub record ClaimDoes (came : Claimed) (old new : CoreState D K) : Type 0 where
    pub adds : ClaimAdds w.tells w.seen came old new
    pub gives : (start : History) → Stood w old start → ClaimGives came old.tables.ttls (history_of old start) (history_of new start)
    pub stands : Stands old new
    pub any_moment : Amid (λ start. IsSuperseding) old new
    pub submitted : KeepsSubmitted old new
    pub job : HasSubmittedJob came new
    pub others : OthersStay old new
    pub store : new.store ≡ old.store
    pub nothing : came ≡ claim_answer.Done → new.pending ≡ []
    pub waits : LeavesPending came → new.pending ≢ []
    pub down : (came ≡ claim_answer.Down) ↔ (is_down w old ≡ true)
    pub unchanged : came ≡ claim_answer.Down → new ≡ old
    pub spent : (start : History) → Stood w old start → came ≡ claim_answer.Spent → IsOverfull old.tables.ttls (queue_size new.queue) (history_of new start)
    pub unspent : (start : History) → Stood w old start → is_down w old ≡ false → IsOverfull old.tables.ttls (queue_size old.queue) (history_of old start)
        → (came ≡ claim_answer.Spent) ⊎ (came ≡ claim_answer.Memory)
    pub cause : QueueCounts w.faults old.queue new.queue (came ≡ claim_answer.QueueFault)
    pub twice : is_down w old ≡ false → queue_down new.queue ≡ true → QueueRoseTwice w.faults old.queue new.queue
    pub up : (came ≡ claim_answer.QueueFault → ⊥) → is_down w new ≡ is_down w old

  pub record ReleaseDoes (job : Job) (old new : CoreState D K) : Type 0 where
    pub released : is_down w old ≡ false → is_claimed job.receipt old.pending ≡ true → new.events.list ≡ Release job.receipt ∷ old.events.list
    pub unchanged : (is_down w old ≡ true) ⊎ (is_claimed job.receipt old.pending ≡ false) → new ≡ old
    pub gives : (start : History) → Stood w old start → is_down w old ≡ false → ReleaseGives job.receipt (history_of old start) (history_of new start)
    pub stands : Stands old new
    pub submitted : KeepsSubmitted old new
    pub others : OthersStay old new
    pub queue : new.queue ≡ old.queue
    pub store : new.store ≡ old.store
    pub last : new.last ≡ old.last

  pub record SettleDoes (generation : K → ℕ) (came : Settled) (job : Job) (v : Verdict) (old new : CoreState D K) : Type 0 where
    pub adds : new.events.list ≡ settled_events came job v (w.store_faults old.store) (w.store_faults new.store) new.undone (is_down w new) ++ old.events.list
    pub queue_writes : QueueWrites w.tells w.seen (queue_record came job v (w.store_faults old.store) (w.store_faults new.store)) old.queue new.queue
    pub store_writes : StoreWrites w.store_tells w.kept w.store_down w.store_size (is_applied came new.undone) job v old.store new.store
    pub gives : (start : History) → Stood w old start
        → SettleGives came job v (w.store_faults old.store) (w.store_faults new.store) (is_down w new) (history_of old start) (history_of new start)
    pub stands : Stands old new
    pub any_moment : Amid (λ start. IsSettling job v (w.store_faults old.store) (w.store_faults new.store)) old new
    pub each_image : (start : History) → Stood w old start → EachImage w.may_leave w.images new (SettleImage came new.undone job new.tables.ttls (history_of new start))
    pub submitted : KeepsSubmitted old new
    pub opening : OpeningStays old new
    pub keeper : KeepsStore generation old new
    pub down : (came ≡ settle_answer.Down) ↔ (is_down w old ≡ true)
    pub not_claimed : (came ≡ settle_answer.NotClaimed) ↔ ((is_down w old ≡ false) × (is_claimed job.receipt old.pending ≡ false))
    pub unspent : is_down w old ≡ false → is_claimed job.receipt old.pending ≡ true → settles.IsSpent w.store_size job v old → (came ≡ settle_answer.Spent) ⊎ IsMemory came
    pub leaves : SettleLeaves w.store_size came job v old new
    pub waits : settles.LeavesPending came new.undone → new.pending ≢ []
    pub refusals : (refusal : Refusal) → v ≡ verdict.Refused refusal → new.store ≡ old.store
    pub cause : QueueCounts w.faults old.queue new.queue (came ≡ settle_answer.QueueFault)
    pub twice : is_down w old ≡ false → queue_down new.queue ≡ true → QueueRoseTwice w.faults old.queue new.queue
    pub store_cause : StoreRose came v (w.store_faults old.store) (w.store_faults new.store)
    pub store_later : w.store_faults old.store ≤ w.store_faults new.store
    pub store_down : is_down w old ≡ false → (w.store_down new.store ≡ true) ↔ (came ≡ settle_answer.StoreDown)
    pub up : (came ≡ settle_answer.QueueFault → ⊥) → (came ≡ settle_answer.StoreDown → ⊥) → is_down w new ≡ is_down w old

  pub record SweepDoes (generation : K → ℕ) (came : Swept) (kinds : Kinds) (m : ℤ) (old new : CoreState D K) : Type 0 where
    pub adds : SweepAdds came kinds m old.events.list new.events.list
    pub writes : SweepWrites w.store_tells w.kept w.store_down w.store_size came kinds m old.store new.store
    pub stands : Stands old new
    pub any_moment : Amid (λ start. IsSweep kinds m (history_of old start)) old new
    pub submitted : KeepsSubmitted old new
    pub opening : OpeningStays old new
    pub keeper : KeepsStore generation old new
    pub queue : new.queue ≡ old.queue
    pub pending : new.pending ≡ old.pending
    pub down : (came ≡ sweep_answer.Down) ↔ (is_down w old ≡ true)
    pub unchanged : came ≡ sweep_answer.Down → new ≡ old
    pub stays : IsCalm came → CoreStays old new
    pub fault : IsStoreFault came → MemoryStays old new
    pub spent : came ≡ sweep_answer.Spent → IsPast (w.store_size old.store) (store_text (store.Swept kinds m))
    pub unspent : is_down w old ≡ false → IsPast (w.store_size old.store) (store_text (store.Swept kinds m)) → (came ≡ sweep_answer.Spent) ⊎ (came ≡ sweep_answer.Memory)
    pub cause : Counts (w.store_faults old.store) (w.store_faults new.store) (IsStoreFault came)
    pub twice : came ≡ sweep_answer.StoreDown → RoseBy 2 (w.store_faults old.store) (w.store_faults new.store)
    pub store_down : is_down w old ≡ false → (w.store_down new.store ≡ true) ↔ (came ≡ sweep_answer.StoreDown)
    pub up : (came ≡ sweep_answer.StoreDown → ⊥) → is_down w new ≡ is_down w old
