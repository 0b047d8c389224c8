-- What the calls of a core come to within an intake.
use Rattle.std.proofs.Common.{◌≡◌, ◌∙◌, ◌↔◌, ◌⊎◌, refl, sym, ap, subst, ℕ, ◌+◌, ◌≤◌, ℤ, true, false, List, Some, None, inl, inr, ⊎_elim, length, arith}
use Rattle.fleet_hub.specs.fleet_rows.declared.command.Command.{Command}
use Rattle.fleet_hub.specs.fleet_rows.declared.settings.Kinds.{Kinds}
use Rattle.spool_text.specs.fleet_ports.Counts.{RoseBy}
use Rattle.fleet_hub.proofs.of_core_drain.Fails.{rose_behind}
use Rattle.fleet_hub.specs.record_spec.Store.{store_text}
use Rattle.fleet_hub.specs.record_spec.declared.store.StoreRecord.TheVariants as store
use Rattle.fleet_hub.specs.record_spec.declared.queue.QueueRecord.TheVariants as queue
use Rattle.fleet_hub.specs.record_spec.Queue.{queue_text}
use Rattle.fleet_hub.specs.fleet_keeper.Limits.{IsPast}
use Rattle.fleet_hub.specs.queue_log.Queued.{queue_size}
use Rattle.fleet_hub.specs.core_spec.declared.entry.Entry.{Entry}
use Rattle.fleet_hub.specs.core_state.declared.state.CoreState.{CoreState}
use Rattle.fleet_hub.specs.core_state.Changes.{CoreStays}
use Rattle.fleet_rows.specs.declared.submitted.Submitted.TheVariants as answer
use Rattle.fleet_hub.specs.core_submits.Submits as submits
use Rattle.fleet_hub.specs.core_sweeps.declared.answers.Swept.TheVariants as swept
use Rattle.fleet_hub.specs.core_course.Sight.{Sight, is_down}
use Rattle.fleet_hub.proofs.of_core_drain.Links.{core_up}
use Rattle.fleet_hub.proofs.of_core_drain.Submits.{SubmitSays, submit_passes, submit_link}
use Rattle.fleet_hub.proofs.of_core_drain.Sweeps.{SweepSays, sweep_passes, sweep_link}
use Rattle.spool_run.specs.declared.ends.SpoolEnd.TheVariants as end
use Rattle.spool_run.specs.Rules.{IsBatch}
use Rattle.spool_run.specs.Intake.{MayHaveSwept}
use Rattle.spool_run.specs.Steps.{CommandTaken, SweepTaken}
use Rattle.program_words.specs.json_tree.Limits.{most_payload}

-- where no batch waits, a spool's command isn't one too many
pub never_full : (es : List Entry) (payload : ℕ) → (IsBatch es → ⊥) → payload ≤ most_payload → submits.IsFull payload es → ⊥
never_full es payload few short (inl many) = few (inl (omega (arith, many)))
never_full es payload few short (inr large) = few (inr (omega (arith, large, short)))

spent_stays : {D K : Type 0} (c : Command) (old new : CoreState D K) → CoreStays old new → submits.IsSpent c old → submits.IsSpent c new
spent_stays c old new stays (inl none) = inl (stays.memory.last ∙ none)
spent_stays c old new stays (inr past) =
    inr (subst (λ n. IsPast (queue_size new.queue) (queue_text (queue.Submit (n + 1) c))) (sym stays.memory.last)
    (subst (λ q. IsPast (queue_size q) (queue_text (queue.Submit (old.last + 1) c))) (sym stays.queue) past))

spent_before : {D K : Type 0} (c : Command) (old new : CoreState D K) → new.last ≡ old.last → queue_size new.queue ≡ queue_size old.queue → submits.IsSpent c new → submits.IsSpent c old
spent_before c old new last size (inl none) = inl (sym last ∙ none)
spent_before c old new last size (inr past) =
    inr (subst (λ n. IsPast (queue_size old.queue) (queue_text (queue.Submit (n + 1) c))) last
    (subst (λ n. IsPast n (queue_text (queue.Submit (new.last + 1) c))) size past))

module _ {D K : Type 0} (w : Sight D K) (c : Command) (old new : CoreState D K) (up : is_down w old ≡ false) where
  -- a submit that failed had room
  failed_room : SubmitSays w answer.QueueFault c old new → ((answer.QueueFault ≡ answer.Full) ↔ ((is_down w old ≡ false) × submits.IsFull (length c.payload) old.pending))
      → (is_down w old ≡ false → (submits.IsFull (length c.payload) old.pending → ⊥) → submits.IsSpent c old → (answer.QueueFault ≡ answer.Spent) ⊎ (answer.QueueFault ≡ answer.Memory))
      → submits.IsSpent c new → ⊥
  failed_room says full unspent spent =
      ⊎_elim (λ (e : answer.QueueFault ≡ answer.Spent). absurd (cc)) (λ (e : answer.QueueFault ≡ answer.Memory). absurd (cc))
      (unspent up (λ is. let e : answer.QueueFault ≡ answer.Full = full.1 (up, is) in cc) (spent_before c old new says.writes.0 says.writes.1 spent))

  pub came_in : (r : ℕ) → SubmitSays w (answer.Receipt r) c old new → is_down w new ≡ is_down w old → CommandTaken w None c old new
  came_in r says same = (r, record { passed = submit_passes w (answer.Receipt r) c old new says; link = submit_link w (answer.Receipt r) c old new says }, same ∙ up)

  pub queue_failed : SubmitSays w answer.QueueFault c old new → new.pending ≡ old.pending
      → ((answer.QueueFault ≡ answer.Full) ↔ ((is_down w old ≡ false) × submits.IsFull (length c.payload) old.pending))
      → (is_down w old ≡ false → (submits.IsFull (length c.payload) old.pending → ⊥) → submits.IsSpent c old → (answer.QueueFault ≡ answer.Spent) ⊎ (answer.QueueFault ≡ answer.Memory))
      → CommandTaken w (Some end.QueueFault) c old new
  queue_failed says pending full unspent = (
    record { passed = submit_passes w answer.QueueFault c old new says; link = submit_link w answer.QueueFault c old new says },
    pending,
    (says.cause.cause refl, ap w.store_down says.store ∙ (core_up w old up).store, says.others.undone ∙ (core_up w old up).done, failed_room says full unspent),
  )

  pub submit_spent : SubmitSays w answer.Spent c old new → is_down w new ≡ is_down w old → CoreStays old new → submits.IsSpent c old → CommandTaken w (Some end.Spent) c old new
  submit_spent says same stays spent = (
    record { passed = submit_passes w answer.Spent c old new says; link = submit_link w answer.Spent c old new says },
    stays.memory.pending,
    (same ∙ up, spent_stays c old new stays spent),
  )

  pub submit_starved : SubmitSays w answer.Memory c old new → is_down w new ≡ is_down w old → new.pending ≡ old.pending → CommandTaken w (Some end.Memory) c old new
  submit_starved says same pending =
      (record { passed = submit_passes w answer.Memory c old new says; link = submit_link w answer.Memory c old new says }, pending, same ∙ up)

module _ {D K : Type 0} (w : Sight D K) (kinds : Kinds) (m : ℤ) (old new : CoreState D K) (up : is_down w old ≡ false) (pending : new.pending ≡ old.pending) where
  pub swept_all : SweepSays w swept.Ok kinds m old new → is_down w new ≡ is_down w old → SweepTaken w None kinds m old new
  swept_all says same = (record { passed = sweep_passes w swept.Ok kinds m old new says; link = sweep_link w swept.Ok kinds m old new says }, pending, same ∙ up)

  pub store_failed : SweepSays w swept.StoreFault kinds m old new → is_down w new ≡ is_down w old
      → (is_down w old ≡ false → IsPast (w.store_size old.store) (store_text (store.Swept kinds m)) → (swept.StoreFault ≡ swept.Spent) ⊎ (swept.StoreFault ≡ swept.Memory))
      → SweepTaken w (Some end.StoreFault) kinds m old new
  store_failed says same unspent = (
    record { passed = sweep_passes w swept.StoreFault kinds m old new says; link = sweep_link w swept.StoreFault kinds m old new says },
    pending,
    (
      rose_behind w 1 old new says.adds (says.cause.cause tt),
      same ∙ up,
      λ past.
          ⊎_elim (λ (e : swept.StoreFault ≡ swept.Spent). absurd (cc)) (λ (e : swept.StoreFault ≡ swept.Memory). absurd (cc))
          (unspent up (subst (λ n. IsPast n (store_text (store.Swept kinds m))) says.writes.0 past)),
    ),
  )

  pub store_went : SweepSays w swept.StoreDown kinds m old new → RoseBy 2 (w.store_faults old.store) (w.store_faults new.store) → w.store_down new.store ≡ true → MayHaveSwept w kinds m old new → SweepTaken w (Some end.StoreDown) kinds m old new
  store_went says twice down images = (
    record { passed = sweep_passes w swept.StoreDown kinds m old new says; link = sweep_link w swept.StoreDown kinds m old new says },
    pending,
    (rose_behind w 2 old new says.adds twice, down, images),
  )

  pub sweep_spent : SweepSays w swept.Spent kinds m old new → is_down w new ≡ is_down w old → CoreStays old new → IsPast (w.store_size old.store) (store_text (store.Swept kinds m)) → SweepTaken w (Some end.Spent) kinds m old new
  sweep_spent says same stays past = (
    record { passed = sweep_passes w swept.Spent kinds m old new says; link = sweep_link w swept.Spent kinds m old new says },
    pending,
    (same ∙ up, subst (λ k. IsPast (w.store_size k) (store_text (store.Swept kinds m))) (sym stays.store) past),
  )

  pub sweep_starved : SweepSays w swept.Memory kinds m old new → is_down w new ≡ is_down w old → SweepTaken w (Some end.Memory) kinds m old new
  sweep_starved says same =
      (record { passed = sweep_passes w swept.Memory kinds m old new says; link = sweep_link w swept.Memory kinds m old new says }, pending, same ∙ up)
