-- What each outcome of a settle means in the history.
use Rattle.std.proofs.Common.{◌≡◌, ◌∙◌, ◌⊎◌, inl, inr, ⊎_elim, ℕ, suc, ◌<◌, ◌≤◌, Bool, true, false, ◌||◌, List, [], ◌∷◌, ◌++◌, Option, Some, Ok, Err, IsTrue, arith, refl, sym, ap, subst, append_assoc}
use Rattle.core_claims.specs.fleet_rows.declared.change.Change.{Change}
use Rattle.core_claims.specs.fleet_rows.declared.refusal.Cause.TheVariants as cause
use Rattle.core_claims.specs.fleet_rows.declared.refusal.Refusal.{Refusal}
use Rattle.core_claims.specs.fleet_rows.declared.settings.Ttls.{Ttls}
use Rattle.core_claims.specs.record_spec.declared.queue.QueueRecord.{QueueRecord}
use Rattle.core_claims.specs.record_spec.declared.queue.QueueRecord.TheVariants as queue
use Rattle.core_claims.specs.record_spec.declared.store.StoreRecord.{StoreRecord}
use Rattle.core_claims.specs.fleet_keeper.declared.kept.Kept.{Kept}
use Rattle.core_claims.specs.fleet_keeper.declared.kept.Kept.TheVariants as kept
use Rattle.core_claims.specs.fleet_keeper.Kept.{IsRefusal}
use Rattle.core_claims.specs.fleet_keeper.Records.{IsOneOf, with_one}
use Rattle.core_claims.specs.core_spec.declared.event.Event.{Event}
use Rattle.core_claims.specs.core_spec.declared.event.Event.TheVariants.{Release, Apply, Fail, Discard}
use Rattle.core_claims.specs.core_spec.Commands.{answer_of}
use Rattle.core_claims.specs.core_spec.History.{History, claimed, standing, fails}
use Rattle.core_claims.specs.core_spec.Stands.{Stands}
use Rattle.core_claims.specs.core_machine.Claims.{attempts_of, is_claimed}
use Rattle.core_claims.specs.queue_log.Queued.{queued, QueueImages, queue_down}
use Rattle.core_claims.specs.declared.job.Job.{Job}
use Rattle.core_claims.specs.core_state.declared.found.Found.{Found}
use Rattle.core_claims.specs.core_state.declared.state.CoreState.{CoreState}
use Rattle.core_claims.specs.core_state.Changes.{MemoryStays}
use Rattle.core_claims.specs.core_state.Moments.{Within, GoesOn, StandsAmid}
use Rattle.core_claims.specs.core_state.Seen.{held_of, IsSubmitted}
use Rattle.core_claims.specs.core_state.StandsFor.{HoldsFor, StandsAt, AreOfOneRecord, none, one, sixteenth, history_of}
use Rattle.core_claims.proofs.of_core_state.Carried.{holds_with, holds_of, memory_holds, stands_carried}
use Rattle.core_claims.proofs.of_core_state.HeldEvents.{still_held, release_held, apply_held, refuse_held, fail_held, give_up_held, attempts_now}
use Rattle.core_claims.proofs.of_core_state.KnownImages.{store_known}
use Rattle.core_claims.proofs.of_core_state.Later.{put_later}
use Rattle.core_claims.proofs.of_core_state.Ports.{Ports}
use Rattle.core_claims.proofs.of_core_state.PutStands.{put_stands, unput_stands, open_stands, silent_stands}
use Rattle.core_claims.proofs.of_core_state.Standing.{BothTell, CoreStands, IsSoundCore, is_down, core_up, up_stands, down_stands, logs_of, at, logs, q_each, known_store, amid_old, amid_begun, first_written, then_written, nothing_within, queue_within, store_within, store_images}
use Rattle.core_claims.proofs.of_core_state.Tests.{not_claimed_stands}
use Rattle.core_settles.specs.declared.answers.Settled.{Settled}
use Rattle.core_settles.specs.declared.answers.Settled.TheVariants as settled
use Rattle.core_settles.specs.declared.answers.Verdict.{Verdict}
use Rattle.core_settles.specs.declared.answers.Verdict.TheVariants as verdict
use Rattle.core_settles.specs.Ends.{HasFreed, dead_of, HasDiscarded, HasApplied, HasFailed}
use Rattle.core_settles.specs.Settles.{IsVerdictOf, SettleGives, IsSettling, SettleImage}
use Rattle.core_settles.proofs.CommandRecords as command
use Rattle.core_settles.proofs.CountedLists.{below_or, few_attempts}
use Rattle.core_settles.proofs.Outcomes.{Put, Keeps, kept_record, Failure, StoreFailed, Outcome, down, unclaimed, no_memory, freed, refused, refuse_unput, refuse_open, applied, undone, store_down, failed, given_up, fail_unput, fail_open}
use Rattle.core_settles.proofs.SettledParts.{at_case, all_up, done_still, queue_stays, queue_went, store_still, store_stays}

module _ {D K : Type 0} (p : Ports D K) (job : Job) (old new : CoreState D K) (start : History) (sound : IsSoundCore p old) (stands : CoreStands p old start) (submitted : IsSubmitted job.receipt job.command old) where
  abbrev was : History
  was = history_of old start

  abbrev now : History
  now = history_of new start

  abbrev before : ℕ
  before = p.store_faults old.store

  abbrev after : ℕ
  after = p.store_faults new.store

  -- ---- what it gives

  abbrev Gives : Settled → Verdict → Type 0
  Gives came v = SettleGives came job v before after (is_down p new) was now

  same_history : new ≡ old → now ≡ was
  same_history same = ap (λ (x : CoreState D K). history_of x start) same

  on : (more : History) → new.events.list ≡ more ++ old.events.list → now ≡ (more ++ old.events.list) ++ start
  on more e = ap (λ (h : History). h ++ start) e

  module _ (up : is_down p old ≡ false) (is : is_claimed job.receipt old.pending ≡ true) where
    standing_is : standing job.receipt was ≡ claimed
    standing_is = command.is_standing p old start sound stands up job is submitted

    -- how often it failed
    attempts_so : (change : Change) (n : ℕ) → StoreFailed p job old new change → n ≡ suc (attempts_of job.receipt old.pending) → HasFailed job.receipt before after old new → n ≡ fails job.receipt now
    attempts_so change n f n_is h =
        n_is ∙ sym (attempts_now (held_of old) before was stands.holds.says job.receipt job.command standing_is (command.command_is p old start sound stands up job is submitted) after)
        ∙ ap (fails job.receipt) (sym (on (Fail job.receipt before after ∷ []) h.events))

    freed_up : HasFreed job.receipt old new → queue_down new.queue ≡ false → p.store_down new.store ≡ false → is_down p new ≡ false
    freed_up h q s = all_up p job old new (done_still p job old new up h.others.undone) q s

  gives : (came : Settled) (v : Verdict) → Outcome p job old new came v → Gives came v
  gives came v (down e is same) = at_case p job old new Gives e refl (same_history same)
  gives came v (unclaimed e up is same) =
      at_case p job old new Gives e refl (not_claimed_stands old.tables.ttls was stands.holds.says.plain.legal old.pending stands.holds.says.pending job.receipt is, same_history same)
  gives came v (no_memory e up is m) = at_case p job old new Gives e refl (refl, refl, ap (λ (h : History). h ++ start) m.memory.events)
  gives came v (freed e up is s h) = at_case p job old new Gives e refl (on (Release job.receipt ∷ []) h.freed.events)
  gives came v (refused refusal ve e up is put store h) = at_case p job old new Gives e ve (on (Discard job.receipt (cause.Refused refusal) ∷ []) h.events)
  gives came v (refuse_unput refusal ve e up is put store h) =
      at_case p job old new Gives e ve (inl (freed_up up is h (queue_stays p job old new kept.Failed _ (λ i. cc) put) (store_still p job old new up store), on (Release job.receipt ∷ []) h.events))
  gives came v (refuse_open refusal ve e up is put store m) = at_case p job old new Gives e ve (inr (queue_went p job old new (put.down.1 refl), ap (λ (h : History). h ++ start) m.events))
  gives came v (applied change ve e up is keeps put h) = at_case p job old new Gives e ve (on (Apply job.receipt (Some job.command.received) ∷ []) h.events)
  gives came v (undone change ve e up is keeps answer faulty put h) =
      at_case p job old new Gives e ve (inl (keeps.cause.calm (λ none. none), rw (h.undone_is) refl, on (Apply job.receipt (Some job.command.received) ∷ []) h.events))
  gives came v (store_down change ve e up is keeps queue m) = at_case p job old new Gives e ve (ap (λ (h : History). h ++ start) m.events)
  gives came v (failed change n ve e up is f put n_is few h) =
      at_case p job old new Gives e ve (on (Fail job.receipt before after ∷ []) h.events, attempts_so up is change n f n_is h, omega (arith, n_is, few))
  gives came v (given_up change ve e up is f put n_is h) = at_case p job old new Gives e ve (on (Discard job.receipt cause.Failures ∷ Fail job.receipt before after ∷ []) h.events)
  gives came v (fail_unput change ve e up is f put h) =
      at_case p job old new Gives e ve (inr (f.keeps.cause.cause tt, inl (freed_up up is h (queue_stays p job old new kept.Failed _ (λ i. cc) put) (store_stays p job old new kept.Failed _ (λ i. cc) f.keeps), on (Release job.receipt ∷ []) h.events)))
  gives came v (fail_open change ve e up is f put m) =
      at_case p job old new Gives e ve (inr (f.keeps.cause.cause tt, inr (queue_went p job old new (put.down.1 refl), ap (λ (h : History). h ++ start) m.events)))

  pub settle_gives : (came : Settled) (v : Verdict) → Outcome p job old new came v → Gives came v
  settle_gives = gives

  -- ---- what it stands for

  found_so : new.tables.ttls ≡ old.tables.ttls → new.found ≡ old.found → Stands new.tables.ttls new.found.queue.value new.found.store.value start
  found_so t f =
      subst (λ (ts : Ttls). Stands ts new.found.queue.value new.found.store.value start) (sym t)
      (subst (λ (x : Found). Stands old.tables.ttls x.queue.value x.store.value start) (sym f) stands.holds.found)

  store_as : new.store ≡ old.store → before ≤ after
  store_as same = let counts = ap p.store_faults same in omega (arith, counts)

  memory_later : MemoryStays old new → before ≤ after → HoldsFor (held_of new) after start
  memory_later m later =
      let at_end = ap (λ (h : History). h ++ start) m.events in
      holds_with p old new start was m.others stands.holds at_end (still_held (held_of old) (held_of new) before after was later m.others.tables m.pending m.others.dead m.last stands.holds.says)

  module _ (up : is_down p old ≡ false) (is : is_claimed job.receipt old.pending ≡ true) where
    abbrev q_old : List QueueRecord
    q_old = command.q_old p old start sound stands up job is submitted

    abbrev s_old : List StoreRecord
    s_old = command.s_old p old start sound stands up job is submitted

    abbrev ttls : Ttls
    ttls = old.tables.ttls

    module _ (same_store : new.store ≡ old.store) where
      store_told : IsTrue p.store_tells → p.kept new.store ≡ Some s_old
      store_told told = ap p.kept same_store ∙ (logs p old start sound stands up).store_is told

      store_goes : p.store_up new.store
      store_goes = subst p.store_up (sym same_store) (sound.store (core_up p old up).store)

    module _ (change : Change) (f : StoreFailed p job old new change) where
      failed_told : IsTrue p.store_tells → p.kept new.store ≡ Some s_old
      failed_told told = f.keeps.kept_old tt told ∙ (logs p old start sound stands up).store_is told

      failed_goes : p.store_up new.store
      failed_goes = f.keeps.again (λ i. cc)

      failed_known : (s : Option (List StoreRecord)) → p.images new.store s → s ≡ Some s_old
      failed_known = store_known p.store_tells p.kept p.images p.store_moment p.images_since p.store_up p.store_told p.store_told_since p.store_only_now p.store_stands new.store s_old failed_told failed_goes

    -- queued again
    holds_freed : HasFreed job.receipt old new → before ≤ after → HoldsFor (held_of new) after start
    holds_freed h later =
        holds_with p old new start (Release job.receipt ∷ was) h.others stands.holds (on (Release job.receipt ∷ []) h.events)
        (release_held (held_of old) before was stands.holds.says job.receipt (held_of new) after (standing_is up is) later h.others.tables h.pending h.others.dead h.last)

    freed_stands : HasFreed job.receipt old new → new.queue ≡ old.queue → new.store ≡ old.store → CoreStands p new start
    freed_stands h queue store =
        silent_stands p old new start sound stands up (Release job.receipt) (standing_is up is) tt refl refl queue store h.others h.events
        (release_held (held_of old) before was stands.holds.says job.receipt (held_of new) after (standing_is up is) (store_as store) h.others.tables h.pending h.others.dead h.last)

    unput_freed : (answer : Kept) (rec : QueueRecord) → IsRefusal answer → Put p job old new answer rec → HasFreed job.receipt old new → before ≤ after
        → (IsTrue p.store_tells → p.kept new.store ≡ Some s_old) → p.store_up new.store → CoreStands p new start
    unput_freed answer rec refusal put h later told goes =
        unput_stands p old new start sound stands up (ap (λ x. x.ttls) h.others.tables) told goes answer rec (Release job.receipt ∷ was) refusal
        (command.both_released p old start sound stands up job is submitted) put (on (Release job.receipt ∷ []) h.events) (holds_freed h later)

    -- refused
    module _ (refusal : Refusal) (decodes : answer_of job.command ≡ Err refusal) where
      refused_stands : Put p job old new kept.Ok (queue.Refused job.receipt refusal) → new.store ≡ old.store
          → HasDiscarded (dead_of job (cause.Refused refusal)) (Discard job.receipt (cause.Refused refusal) ∷ []) old new → CoreStands p new start
      refused_stands put store h =
          let event = Discard job.receipt (cause.Refused refusal) in
          let at_end = on (event ∷ []) h.events in
          put_stands p old new start sound stands up (ap (λ x. x.ttls) h.tables) (store_told store) (store_goes store) (queue.Refused job.receipt refusal) (event ∷ was)
          (command.both_refused p old start sound stands up job is submitted refusal decodes) put at_end
          (holds_of p old new start (event ∷ was) (found_so (ap (λ x. x.ttls) h.tables) h.found) at_end
          (refuse_held (held_of old) before was stands.holds.says job.receipt job.command (standing_is up is) (command.command_is p old start sound stands up job is submitted) refusal (held_of new) after decodes (store_as store)
          h.tables h.pending h.dead_is h.last))

      refuse_open_stands : Put p job old new kept.Down (queue.Refused job.receipt refusal) → new.store ≡ old.store → MemoryStays old new → CoreStands p new start
      refuse_open_stands put store m =
          open_stands p old new start sound stands up (queue.Refused job.receipt refusal) (Discard job.receipt (cause.Refused refusal) ∷ []) (one (Discard job.receipt (cause.Refused refusal)) tt refl)
          (command.stand_refused p old start sound stands up job is submitted refusal decodes) put (known_store p old start sound stands up new.store store) (ap (λ x. x.ttls) m.others.tables)
          (ap (λ (h : History). h ++ start) m.events) (memory_holds p old new start m store stands.holds)

    -- applied
    module _ (change : Change) (decodes : answer_of job.command ≡ Ok change) where
      abbrev event : Event
      event = Apply job.receipt (Some job.command.received)

      abbrev rec : StoreRecord
      rec = kept_record p job old new change

      applied_holds : (undone_now : Bool) → HasApplied job change undone_now old new → before ≤ after → HoldsFor (held_of new) after start
      applied_holds undone_now h later =
          holds_of p old new start (event ∷ was) (found_so (ap (λ x. x.ttls) h.tables) h.found) (on (event ∷ []) h.events)
          (apply_held (held_of old) before was stands.holds.says job.receipt job.command (standing_is up is) (command.command_is p old start sound stands up job is submitted) change (held_of new) after decodes later
          (ap (λ x. x.ttls) h.tables) h.stands h.pending h.dead h.last)

      stored_told : Keeps p job old new kept.Ok rec new.store → IsTrue p.store_tells → p.kept new.store ≡ Some (s_old ++ rec ∷ [])
      stored_told keeps told = keeps.kept_one refl told ∙ ap (λ (o : Option (List StoreRecord)). with_one o rec) ((logs p old start sound stands up).store_is told)

      stored_known : Keeps p job old new kept.Ok rec new.store → (s : Option (List StoreRecord)) → p.images new.store s → s ≡ Some (s_old ++ rec ∷ [])
      stored_known keeps = store_known p.store_tells p.kept p.images p.store_moment p.images_since p.store_up p.store_told p.store_told_since p.store_only_now p.store_stands new.store (s_old ++ rec ∷ []) (stored_told keeps) (keeps.again (λ i. cc))

      applied_stands : Keeps p job old new kept.Ok rec new.store → Put p job old new kept.Ok (queue.Done job.receipt) → HasApplied job change old.undone old new → CoreStands p new start
      applied_stands keeps put h =
          up_stands p new start (put.again (λ i. cc)) (keeps.again (λ i. cc)) (applied_holds old.undone h keeps.cause.later)
          (logs_of p new (q_old ++ queue.Done job.receipt ∷ []) (s_old ++ rec ∷ []) now ttls (ap (λ x. x.ttls) h.tables)
          (subst (BothTell ttls (q_old ++ queue.Done job.receipt ∷ []) (s_old ++ rec ∷ [])) (sym (on (event ∷ []) h.events)) (command.both_applied p old start sound stands up job is submitted change decodes))
          (λ told. put.queued_one refl told ∙ ap (λ (o : Option (List QueueRecord)). with_one o (queue.Done job.receipt)) ((logs p old start sound stands up).queue_is told)) (stored_told keeps))

      -- without the Done the command is applied in each image
      undone_images : (answer : Kept) → Keeps p job old new kept.Ok rec new.store → Put p job old new answer (queue.Done job.receipt) → HasApplied job change true old new
          → (q : Option (List QueueRecord)) (s : Option (List StoreRecord)) → QueueImages p.may_leave new.queue q → p.images new.store s → StandsAt new.tables.ttls q s now
      undone_images answer keeps put h q s q_image s_image =
          subst (λ (ts : Ttls). StandsAt ts q s now) (sym (ap (λ x. x.ttls) h.tables)) (subst (StandsAt ttls q s) (sym (on (event ∷ []) h.events))
          (⊎_elim
          (λ q_is. at ttls q s q_old (s_old ++ rec ∷ []) (event ∷ was) q_is (stored_known keeps s s_image) (command.stand_undone p old start sound stands up job is submitted change decodes))
          (λ q_is. at ttls q s (q_old ++ queue.Done job.receipt ∷ []) (s_old ++ rec ∷ []) (event ∷ was) q_is (stored_known keeps s s_image) (command.stand_applied p old start sound stands up job is submitted change decodes))
          (q_each p old start sound stands up new.queue (queue.Done job.receipt) put.each q q_image)))

      undone_stands : (answer : Kept) → Keeps p job old new kept.Ok rec new.store → Put p job old new answer (queue.Done job.receipt) → HasApplied job change true old new → CoreStands p new start
      undone_stands answer keeps put h =
          down_stands p new start (rw (h.undone_is) refl) (applied_holds true h keeps.cause.later) [] (none refl)
          (λ q s q_image s_image. inl (undone_images answer keeps put h q s q_image s_image))

      -- a store that went down may have the change
      store_down_images : Keeps p job old new kept.Down rec new.store → new.queue ≡ old.queue → MemoryStays old new
          → (q : Option (List QueueRecord)) (s : Option (List StoreRecord)) → QueueImages p.may_leave new.queue q → p.images new.store s
          → StandsAt new.tables.ttls q s now ⊎ StandsAt new.tables.ttls q s (event ∷ now)
      store_down_images keeps queue m q s q_image s_image =
          subst (λ (ts : Ttls). StandsAt ts q s now ⊎ StandsAt ts q s (event ∷ now)) (sym (ap (λ x. x.ttls) m.others.tables))
          (subst (λ (h : History). StandsAt ttls q s h ⊎ StandsAt ttls q s (event ∷ h)) (sym (ap (λ (h : History). h ++ start) m.events))
          (store_images p old start sound stands up new rec (event ∷ []) (command.stand_undone p old start sound stands up job is submitted change decodes) keeps.each queue q s q_image s_image))

      store_down_stands : Keeps p job old new kept.Down rec new.store → new.queue ≡ old.queue → MemoryStays old new → CoreStands p new start
      store_down_stands keeps queue m =
          down_stands p new start (store_went (keeps.down.1 refl)) (memory_later m keeps.cause.later) (event ∷ []) (one event tt refl)
          (λ q s q_image s_image. store_down_images keeps queue m q s q_image s_image)
        where
          store_went : p.store_down new.store ≡ true → is_down p new ≡ true
          store_went t = rw t (either new.undone (queue_down new.queue))
            where
              either : (a b : Bool) → (a || (b || true)) ≡ true
              either true b = refl
              either false true = refl
              either false false = refl

    -- the store failed
    module _ (change : Change) (f : StoreFailed p job old new change) where
      abbrev event_f : Event
      event_f = Fail job.receipt before after

      failed_stands : Put p job old new kept.Ok (Failure p job old new) → attempts_of job.receipt old.pending < 15 → HasFailed job.receipt before after old new → CoreStands p new start
      failed_stands put few h =
          let at_end = on (event_f ∷ []) h.events in
          put_stands p old new start sound stands up (ap (λ x. x.ttls) h.others.tables) (failed_told change f) (failed_goes change f) (Failure p job old new) (event_f ∷ was)
          (command.both_failed p old start sound stands up job is submitted after f.rises) put at_end
          (holds_with p old new start (event_f ∷ was) h.others stands.holds at_end
          (fail_held (held_of old) before was stands.holds.says job.receipt job.command (standing_is up is) (command.command_is p old start sound stands up job is submitted) (held_of new) after f.rises f.keeps.cause.later few
          h.others.tables h.pending h.others.dead h.last))

      given_up_stands : Put p job old new kept.Ok (Failure p job old new) → attempts_of job.receipt old.pending ≡ 15
          → HasDiscarded (dead_of job cause.Failures) (Discard job.receipt cause.Failures ∷ Fail job.receipt before after ∷ []) old new → CoreStands p new start
      given_up_stands put sixteenth_is h =
          let at_end = on (Discard job.receipt cause.Failures ∷ event_f ∷ []) h.events in
          put_stands p old new start sound stands up (ap (λ x. x.ttls) h.tables) (failed_told change f) (failed_goes change f) (Failure p job old new) (Discard job.receipt cause.Failures ∷ event_f ∷ was)
          (command.both_given_up p old start sound stands up job is submitted after f.rises) put at_end
          (holds_of p old new start (Discard job.receipt cause.Failures ∷ event_f ∷ was) (found_so (ap (λ x. x.ttls) h.tables) h.found) at_end
          (give_up_held (held_of old) before was stands.holds.says job.receipt job.command (standing_is up is) (command.command_is p old start sound stands up job is submitted) (held_of new) after f.rises f.keeps.cause.later sixteenth_is
          h.tables h.pending h.dead_is h.last))

      -- what the record of the failure would mean
      record Begun : Type 0 where
        begun : History
        of_one : AreOfOneRecord begun
        settles : (begun ≡ event_f ∷ []) ⊎ (begun ≡ Discard job.receipt cause.Failures ∷ event_f ∷ [])
        stand : Stands ttls (q_old ++ Failure p job old new ∷ []) s_old (begun ++ was)

      begun_failure : Begun
      begun_failure = elim (below_or (attempts_of job.receipt old.pending) 15) [
        | inl few ↦ record { begun = event_f ∷ []; of_one = one event_f tt refl; settles = inl refl; stand = command.stand_failed p old start sound stands up job is submitted after f.rises few }
        | inr not ↦
            record {
              begun = Discard job.receipt cause.Failures ∷ event_f ∷ [];
              of_one = sixteenth job.receipt before after refl;
              settles = inr refl;
              stand = command.stand_given_up p old start sound stands up job is submitted after f.rises (let few = few_attempts job.receipt old.pending sound.pending.few in omega (arith, not, few));
            }
      ]

      fail_open_stands : Put p job old new kept.Down (Failure p job old new) → MemoryStays old new → CoreStands p new start
      fail_open_stands put m =
          open_stands p old new start sound stands up (Failure p job old new) begun_failure.begun begun_failure.of_one begun_failure.stand put (failed_known change f) (ap (λ x. x.ttls) m.others.tables)
          (ap (λ (h : History). h ++ start) m.events) (memory_later m f.keeps.cause.later)

  pub settle_stands : (came : Settled) (v : Verdict) → Outcome p job old new came v → IsVerdictOf v job.command → CoreStands p new start
  settle_stands came v (down e is same) decodes = subst (λ (x : CoreState D K). CoreStands p x start) (sym same) stands
  settle_stands came v (unclaimed e up is same) decodes = subst (λ (x : CoreState D K). CoreStands p x start) (sym same) stands
  settle_stands came v (no_memory e up is m) decodes = stands_carried p old new start m stands
  settle_stands came v (freed e up is s h) decodes = freed_stands up is h.freed h.queue h.store
  settle_stands came v (refused refusal ve e up is put store h) decodes = refused_stands up is refusal (subst (λ (w : Verdict). IsVerdictOf w job.command) ve decodes) put store h
  settle_stands came v (refuse_unput refusal ve e up is put store h) decodes = unput_freed up is kept.Failed (queue.Refused job.receipt refusal) tt put h (store_as store) (store_told up is store) (store_goes up is store)
  settle_stands came v (refuse_open refusal ve e up is put store m) decodes = refuse_open_stands up is refusal (subst (λ (w : Verdict). IsVerdictOf w job.command) ve decodes) put store m
  settle_stands came v (applied change ve e up is keeps put h) decodes = applied_stands up is change (subst (λ (w : Verdict). IsVerdictOf w job.command) ve decodes) keeps put h
  settle_stands came v (undone change ve e up is keeps answer faulty put h) decodes = undone_stands up is change (subst (λ (w : Verdict). IsVerdictOf w job.command) ve decodes) answer keeps put h
  settle_stands came v (store_down change ve e up is keeps queue m) decodes = store_down_stands up is change (subst (λ (w : Verdict). IsVerdictOf w job.command) ve decodes) keeps queue m
  settle_stands came v (failed change n ve e up is f put n_is few h) decodes = failed_stands up is change f put few h
  settle_stands came v (given_up change ve e up is f put n_is h) decodes = given_up_stands up is change f put n_is h
  settle_stands came v (fail_unput change ve e up is f put h) decodes = unput_freed up is kept.Failed (Failure p job old new) tt put h f.keeps.cause.later (failed_told up is change f) (failed_goes up is change f)
  settle_stands came v (fail_open change ve e up is f put m) decodes = fail_open_stands up is change f put m

  -- ---- the images at the end

  abbrev Image : Option (List QueueRecord) → Option (List StoreRecord) → Settled → Bool → Type 0
  Image q s came undone_now = SettleImage came undone_now job new.tables.ttls now q s

  module _ (q : Option (List QueueRecord)) (s : Option (List StoreRecord)) (q_image : QueueImages p.may_leave new.queue q) (s_image : p.images new.store s) where
    -- the queue's fault left the command pending
    pending_image : is_down p old ≡ false → new.undone ≡ old.undone → Image q s settled.QueueFault new.undone
    pending_image up same = subst (Image q s settled.QueueFault) (sym (done_still p job old new up same)) tt

    pub settle_images : (came : Settled) (v : Verdict) → Outcome p job old new came v → IsVerdictOf v job.command → Image q s came new.undone
    settle_images came v (down e is same) decodes = subst (λ (x : Settled). Image q s x new.undone) (sym e) tt
    settle_images came v (unclaimed e up is same) decodes = subst (λ (x : Settled). Image q s x new.undone) (sym e) tt
    settle_images came v (no_memory e up is m) decodes = subst (λ (x : Settled). Image q s x new.undone) (sym e) tt
    settle_images came v (freed e up is f h) decodes = subst (λ (x : Settled). Image q s x new.undone) (sym e) tt
    settle_images came v (refused refusal ve e up is put store h) decodes = subst (λ (x : Settled). Image q s x new.undone) (sym e) tt
    settle_images came v (refuse_unput refusal ve e up is put store h) decodes = subst (λ (x : Settled). Image q s x new.undone) (sym e) (pending_image up h.others.undone)
    settle_images came v (refuse_open refusal ve e up is put store m) decodes = subst (λ (x : Settled). Image q s x new.undone) (sym e) (pending_image up m.others.undone)
    settle_images came v (applied change ve e up is keeps put h) decodes = subst (λ (x : Settled). Image q s x new.undone) (sym e) tt
    settle_images came v (undone change ve e up is keeps answer faulty put h) decodes =
        subst (λ (x : Settled). Image q s x new.undone) (sym e)
        (subst (Image q s settled.QueueFault) (sym h.undone_is)
        (undone_images up is change (subst (λ (w : Verdict). IsVerdictOf w job.command) ve decodes) answer keeps put h q s q_image s_image))
    settle_images came v (store_down change ve e up is keeps queue m) decodes =
        subst (λ (x : Settled). Image q s x new.undone) (sym e)
        (store_down_images up is change (subst (λ (w : Verdict). IsVerdictOf w job.command) ve decodes) keeps queue m q s q_image s_image)
    settle_images came v (failed change n ve e up is f put n_is few h) decodes = subst (λ (x : Settled). Image q s x new.undone) (sym e) tt
    settle_images came v (given_up change ve e up is f put n_is h) decodes = subst (λ (x : Settled). Image q s x new.undone) (sym e) tt
    settle_images came v (fail_unput change ve e up is f put h) decodes = subst (λ (x : Settled). Image q s x new.undone) (sym e) (pending_image up h.others.undone)
    settle_images came v (fail_open change ve e up is f put m) decodes = subst (λ (x : Settled). Image q s x new.undone) (sym e) (pending_image up m.others.undone)

  -- ---- at the moments within

  abbrev Begins : Verdict → History → History → Type 0
  Begins v = IsSettling job v before after

  abbrev Meanwhile : Verdict → Type 0
  Meanwhile v = Within p.may_leave p.moment p.left_since p.images p.store_moment p.images_since old new (StandsAmid old.tables.ttls (Begins v) was now)

  goes : (more : History) → new.events.list ≡ more ++ old.events.list → GoesOn was now
  goes more e = (more, on more e ∙ append_assoc more old.events.list start)

  module _ (up : is_down p old ≡ false) (is : is_claimed job.receipt old.pending ≡ true) where
    stored_first : (change : Change) → answer_of job.command ≡ Ok change → (more : History) → new.events.list ≡ more ++ old.events.list → (answer : Kept) → Keeps p job old new answer (kept_record p job old new change) new.store
        → (q : Option (List QueueRecord)) (s : Option (List StoreRecord)) → QueueImages p.may_leave old.queue q → p.images_since new.store (p.store_moment old.store) s → StandsAmid old.tables.ttls (Begins (verdict.Change change)) was now q s
    stored_first change decodes more e answer keeps =
        first_written p old start sound stands up (Begins (verdict.Change change)) now (goes more e) new.store (kept_record p job old new change) (Apply job.receipt (Some job.command.received) ∷ []) (inl refl)
        (command.stand_undone p old start sound stands up job is submitted change decodes) keeps.any_moment

    done_within : (change : Change) → answer_of job.command ≡ Ok change → (undone_now : Bool) → HasApplied job change undone_now old new → (answer : Kept) → Keeps p job old new kept.Ok (kept_record p job old new change) new.store
        → Put p job old new answer (queue.Done job.receipt) → Meanwhile (verdict.Change change)
    done_within change decodes undone_now h answer keeps put =
        let apply = Apply job.receipt (Some job.command.received) in
        let more = goes (apply ∷ []) h.events in
        let s_now = s_old up is ++ kept_record p job old new change ∷ [] in
        record {
          later_queue = put_later p.may_leave p.moment p.left_since old.queue new.queue (IsOneOf (queued p.seen old.queue) (with_one (queued p.seen old.queue) (queue.Done job.receipt))) put.any_moment;
          later_store = keeps.later;
          store_first = stored_first change decodes (apply ∷ []) h.events kept.Ok keeps;
          then_queue = then_written p old start sound stands up (Begins (verdict.Change change)) now more new.queue new.store (queue.Done job.receipt) s_now put.any_moment (stored_known up is change decodes keeps)
              (λ q s s_is which.
              ⊎_elim
              (λ q_is. amid_begun p old start sound stands up (Begins (verdict.Change change)) now more (apply ∷ []) (inl refl) (q_old up is) s_now (command.stand_undone p old start sound stands up job is submitted change decodes) q s q_is s_is)
              (λ q_is. amid_begun p old start sound stands up (Begins (verdict.Change change)) now more (apply ∷ []) (inl refl) (q_old up is ++ queue.Done job.receipt ∷ []) s_now (command.stand_applied p old start sound stands up job is submitted change decodes) q s q_is s_is)
              which);
        }

    failed_within : (change : Change) → answer_of job.command ≡ Ok change → (f : StoreFailed p job old new change) → (more : History) → new.events.list ≡ more ++ old.events.list → (answer : Kept) → Put p job old new answer (Failure p job old new) → Meanwhile (verdict.Change change)
    failed_within change decodes f more e answer put =
        let b = begun_failure up is change f in
        record {
          later_queue = put_later p.may_leave p.moment p.left_since old.queue new.queue (IsOneOf (queued p.seen old.queue) (with_one (queued p.seen old.queue) (Failure p job old new))) put.any_moment;
          later_store = f.keeps.later;
          store_first = stored_first change decodes more e kept.Failed f.keeps;
          then_queue = then_written p old start sound stands up (Begins (verdict.Change change)) now (goes more e) new.queue new.store (Failure p job old new) (s_old up is) put.any_moment (failed_known up is change f)
              (λ q s s_is which.
              ⊎_elim
              (λ q_is. amid_old p old start sound stands up (Begins (verdict.Change change)) now (goes more e) q s q_is s_is)
              (λ q_is. amid_begun p old start sound stands up (Begins (verdict.Change change)) now (goes more e) b.begun (inr b.settles) (q_old up is ++ Failure p job old new ∷ []) (s_old up is) b.stand q s q_is s_is)
              which);
        }

    refused_within : (refusal : Refusal) → answer_of job.command ≡ Err refusal → (more : History) → new.events.list ≡ more ++ old.events.list → (answer : Kept) → Put p job old new answer (queue.Refused job.receipt refusal) → new.store ≡ old.store → Meanwhile (verdict.Refused refusal)
    refused_within refusal decodes more e answer put store =
        queue_within p old start sound stands up (Begins (verdict.Refused refusal)) now (goes more e) new (queue.Refused job.receipt refusal) (Discard job.receipt (cause.Refused refusal) ∷ []) refl
        (command.stand_refused p old start sound stands up job is submitted refusal decodes) put.any_moment store

  same_within : (v : Verdict) → is_down p old ≡ false → (more : History) → new.events.list ≡ more ++ old.events.list → new.queue ≡ old.queue → new.store ≡ old.store → Meanwhile v
  same_within v up more e queue store = nothing_within p old start sound stands up (Begins v) now (goes more e) new queue store

  at_verdict : {v w : Verdict} → v ≡ w → Meanwhile w → Meanwhile v
  at_verdict {v} {w} e m = subst Meanwhile (sym e) m

  decoded : {v w : Verdict} → v ≡ w → IsVerdictOf v job.command → IsVerdictOf w job.command
  decoded {v} {w} e d = subst (λ (x : Verdict). IsVerdictOf x job.command) e d

  pub settle_moments : (came : Settled) (v : Verdict) → Outcome p job old new came v → IsVerdictOf v job.command → is_down p old ≡ false → Meanwhile v
  settle_moments came v (down e is same) d u = absurd (let apart : true ≡ false = sym is ∙ u in cc)
  settle_moments came v (unclaimed e up is same) d u = same_within v up [] (ap (λ (x : CoreState D K). x.events.list) same) (ap (λ (x : CoreState D K). x.queue) same) (ap (λ (x : CoreState D K). x.store) same)
  settle_moments came v (no_memory e up is m) d u = same_within v up [] m.memory.events m.queue m.store
  settle_moments came v (freed e up is s h) d u = same_within v up (Release job.receipt ∷ []) h.freed.events h.queue h.store
  settle_moments came v (refused refusal ve e up is put store h) d u = at_verdict ve (refused_within up is refusal (decoded ve d) (Discard job.receipt (cause.Refused refusal) ∷ []) h.events kept.Ok put store)
  settle_moments came v (refuse_unput refusal ve e up is put store h) d u = at_verdict ve (refused_within up is refusal (decoded ve d) (Release job.receipt ∷ []) h.events kept.Failed put store)
  settle_moments came v (refuse_open refusal ve e up is put store m) d u = at_verdict ve (refused_within up is refusal (decoded ve d) [] m.events kept.Down put store)
  settle_moments came v (applied change ve e up is keeps put h) d u = at_verdict ve (done_within up is change (decoded ve d) old.undone h kept.Ok keeps put)
  settle_moments came v (undone change ve e up is keeps answer faulty put h) d u = at_verdict ve (done_within up is change (decoded ve d) true h answer keeps put)
  settle_moments came v (store_down change ve e up is keeps queue m) d u =
      at_verdict ve
      (store_within p old start sound stands up (Begins (verdict.Change change)) now (goes [] m.events) new (kept_record p job old new change) (Apply job.receipt (Some job.command.received) ∷ []) (inl refl)
      (command.stand_undone p old start sound stands up job is submitted change (decoded ve d)) keeps.any_moment keeps.later keeps.each queue)
  settle_moments came v (failed change n ve e up is f put n_is few h) d u = at_verdict ve (failed_within up is change (decoded ve d) f (Fail job.receipt before after ∷ []) h.events kept.Ok put)
  settle_moments came v (given_up change ve e up is f put n_is h) d u = at_verdict ve (failed_within up is change (decoded ve d) f (Discard job.receipt cause.Failures ∷ Fail job.receipt before after ∷ []) h.events kept.Ok put)
  settle_moments came v (fail_unput change ve e up is f put h) d u = at_verdict ve (failed_within up is change (decoded ve d) f (Release job.receipt ∷ []) h.events kept.Failed put)
  settle_moments came v (fail_open change ve e up is f put m) d u = at_verdict ve (failed_within up is change (decoded ve d) f [] m.events kept.Down put)
