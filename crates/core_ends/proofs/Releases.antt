-- Commands that are queued again.
use Rattle.std.proofs.Common.{◌≡◌, ◌∙◌, ◌⊎◌, inl, inr, ℕ, Bool, true, false, List, [], ◌∷◌, ◌++◌, Some, refl, sym, ap, subst}
use Rattle.std.proofs.lemmas.List.{append-nil}
use Rattle.command_decode.specs.fleet_rows.declared.command.Command.{Command}
use Rattle.command_core.specs.record_spec.declared.queue.QueueRecord.{QueueRecord}
use Rattle.command_core.specs.record_spec.declared.store.StoreRecord.{StoreRecord}
use Rattle.command_core.specs.core_spec.declared.event.Event.TheVariants.{Submit, Claim, Release, Apply, Supersede, Fail, Discard, Sweep, Restart}
use Rattle.command_core.specs.core_spec.History.{History}
use Rattle.command_core.specs.core_spec.Stands.{queue_trace, store_trace}
use Rattle.command_core.specs.core_laws.Threads.{MomentsAreKept}
use Rattle.core_course.specs.core_machine.Claims.{is_claimed}
use Rattle.command_core.specs.queue_log.Queued.{queued}
use Rattle.command_core.specs.core_state.declared.state.CoreState.{CoreState}
use Rattle.command_core.specs.core_state.Changes.{OthersStay}
use Rattle.command_core.specs.core_state.Seen.{IsSubmitted}
use Rattle.command_core.specs.core_state.StandsFor.{history_of}
use Rattle.command_core.specs.core_claims.Frees.{AreReleases, Releases}
use Rattle.core_course.specs.Sight.{Sight, Stood, is_down}
use Rattle.core_course.specs.Courses.{silent, Passed}
use Rattle.core_course.specs.Work.{IsWork, Worked}
use Rattle.core_ends.proofs.Links.{same_down, same_opening, same_counts, work_of, same_twice, same_queue_fits, same_store_fits}
use Rattle.core_ends.proofs.OneCalls.{released_at_once}
use Rattle.core_ends.proofs.Records.{none_more}

-- ---- releases leave nothing in the logs

releases_work : (more : History) → AreReleases more → IsWork more
releases_work [] h = tt
releases_work (Submit r c ∷ more) h = absurd h
releases_work (Claim r ∷ more) h = absurd h
releases_work (Release r ∷ more) h = releases_work more h
releases_work (Apply r t ∷ more) h = absurd h
releases_work (Supersede q p ∷ more) h = absurd h
releases_work (Fail r before after ∷ more) h = absurd h
releases_work (Discard r why ∷ more) h = absurd h
releases_work (Sweep kinds m ∷ more) h = absurd h
releases_work (Restart ∷ more) h = absurd h

releases_moments : (start more : History) → AreReleases more → MomentsAreKept start more
releases_moments start [] h = tt
releases_moments start (Submit r c ∷ more) h = absurd h
releases_moments start (Claim r ∷ more) h = absurd h
releases_moments start (Release r ∷ more) h = releases_moments start more h
releases_moments start (Apply r t ∷ more) h = absurd h
releases_moments start (Supersede q p ∷ more) h = absurd h
releases_moments start (Fail r before after ∷ more) h = absurd h
releases_moments start (Discard r why ∷ more) h = absurd h
releases_moments start (Sweep kinds m ∷ more) h = absurd h
releases_moments start (Restart ∷ more) h = absurd h

releases_queue : (more : History) → AreReleases more → queue_trace more ≡ []
releases_queue [] h = refl
releases_queue (Submit r c ∷ more) h = absurd h
releases_queue (Claim r ∷ more) h = absurd h
releases_queue (Release r ∷ more) h = append-nil (queue_trace more) ∙ releases_queue more h
releases_queue (Apply r t ∷ more) h = absurd h
releases_queue (Supersede q p ∷ more) h = absurd h
releases_queue (Fail r before after ∷ more) h = absurd h
releases_queue (Discard r why ∷ more) h = absurd h
releases_queue (Sweep kinds m ∷ more) h = absurd h
releases_queue (Restart ∷ more) h = absurd h

releases_store : (upto more : History) → AreReleases more → store_trace upto more ≡ []
releases_store upto [] h = refl
releases_store upto (Submit r c ∷ more) h = absurd h
releases_store upto (Claim r ∷ more) h = absurd h
releases_store upto (Release r ∷ more) h = append-nil (store_trace upto more) ∙ releases_store upto more h
releases_store upto (Apply r t ∷ more) h = absurd h
releases_store upto (Supersede q p ∷ more) h = absurd h
releases_store upto (Fail r before after ∷ more) h = absurd h
releases_store upto (Discard r why ∷ more) h = absurd h
releases_store upto (Sweep kinds m ∷ more) h = absurd h
releases_store upto (Restart ∷ more) h = absurd h

-- what releases leave of a core
pub record Quiet {D K : Type 0} (w : Sight D K) (more : History) (old new : CoreState D K) : Type 0 where
  pub only : AreReleases more
  pub events : new.events.list ≡ more ++ old.events.list
  pub stands : (start : History) → Stood w old start → Stood w new start
  pub submitted : (r : ℕ) (c : Command) → IsSubmitted r c old → IsSubmitted r c new
  pub others : OthersStay old new
  pub queue : new.queue ≡ old.queue
  pub store : new.store ≡ old.store

module _ {D K : Type 0} (w : Sight D K) where
  module _ (more : History) (old new : CoreState D K) (quiet : Quiet w more old new) where
    pub quiet_down : is_down w new ≡ is_down w old
    quiet_down = same_down w old new quiet.others.undone quiet.queue quiet.store

    pub quiet_passes : Passed w more old new
    quiet_passes = record {
      events = quiet.events;
      stands = quiet.stands;
      submitted = quiet.submitted;
      opening = same_opening w old new quiet.others quiet.store;
      counts = same_counts w old new quiet.queue quiet.store;
      stays_down = λ down. quiet_down ∙ down;
      queue_twice = same_twice w old new quiet.queue;
      queue_fits = same_queue_fits w old new quiet.queue;
      store_fits = same_store_fits w old new quiet.store;
      logs = λ up. record {
        queue = λ told records is.
            none_more (queued w.seen old.queue) (queued w.seen new.queue) records (ap (queued w.seen) quiet.queue) is
            ∙ ap (λ (xs : List QueueRecord). Some (records ++ xs)) (sym (releases_queue more quiet.only));
        store = λ start stood told records is.
            none_more (w.kept old.store) (w.kept new.store) records (ap w.kept quiet.store) is
            ∙ ap (λ (xs : List StoreRecord). Some (records ++ xs)) (sym (releases_store (history_of old start) more quiet.only));
      };
    }

    pub quiet_works : Worked w old new
    quiet_works =
        work_of w more old new (releases_work more quiet.only) (released_at_once more quiet.only) quiet_passes (λ start. releases_moments (history_of old start) more quiet.only)
        (silent quiet.queue quiet.store)

  same_quiet : (core : CoreState D K) → Quiet w [] core core
  same_quiet core = record {
    only = tt;
    events = refl;
    stands = λ start stood. stood;
    submitted = λ r c was. was;
    others = record { tables = refl; dead = refl; undone = refl; found = refl; opened_a = refl; opened_b = refl };
    queue = refl;
    store = refl;
  }

  -- what changes nothing
  pub nothing_quiet : (old new : CoreState D K) → new ≡ old → Quiet w [] old new
  nothing_quiet old new same = subst (λ (x : CoreState D K). Quiet w [] old x) (sym same) (same_quiet old)

  pub nothing_passes : (old new : CoreState D K) → new ≡ old → Passed w [] old new
  nothing_passes old new same = quiet_passes [] old new (nothing_quiet old new same)

  pub nothing_works : (old new : CoreState D K) → new ≡ old → Worked w old new
  nothing_works old new same = quiet_works [] old new (nothing_quiet old new same)

  -- ---- release

  -- the clauses of a release
  pub record ReleaseSays (r : ℕ) (old new : CoreState D K) : Type 0 where
    pub released : is_down w old ≡ false → is_claimed r old.pending ≡ true → new.events.list ≡ Release r ∷ old.events.list
    pub unchanged : (is_down w old ≡ true) ⊎ (is_claimed r old.pending ≡ false) → new ≡ old
    pub stands : (start : History) → Stood w old start → Stood w new start
    pub submitted : (q : ℕ) (c : Command) → IsSubmitted q c old → IsSubmitted q c new
    pub others : OthersStay old new
    pub queue : new.queue ≡ old.queue
    pub store : new.store ≡ old.store

  module _ (r : ℕ) (old new : CoreState D K) (says : ReleaseSays r old new) where
    release_by : (down is : Bool) → is_down w old ≡ down → is_claimed r old.pending ≡ is → Worked w old new
    release_by true is d c = nothing_works old new (says.unchanged (inl d))
    release_by false false d c = nothing_works old new (says.unchanged (inr c))
    release_by false true d c = quiet_works (Release r ∷ []) old new (record {
      only = tt;
      events = says.released d c;
      stands = says.stands;
      submitted = says.submitted;
      others = says.others;
      queue = says.queue;
      store = says.store;
    })

    pub release_works : Worked w old new
    release_works = release_by (is_down w old) (is_claimed r old.pending) refl refl

    pub release_down : is_down w new ≡ is_down w old
    release_down = same_down w old new says.others.undone says.queue says.store

  -- ---- free_claims

  -- the clauses of a call that frees all claims
  pub record FreeSays (old new : CoreState D K) : Type 0 where
    pub releases : Releases old.events.list new.events.list
    pub stands : (start : History) → Stood w old start → Stood w new start
    pub submitted : (r : ℕ) (c : Command) → IsSubmitted r c old → IsSubmitted r c new
    pub others : OthersStay old new
    pub queue : new.queue ≡ old.queue
    pub store : new.store ≡ old.store

  module _ (old new : CoreState D K) (says : FreeSays old new) where
    free_claims_quiet : Quiet w says.releases.more old new
    free_claims_quiet = record {
      only = says.releases.only;
      events = says.releases.new_is;
      stands = says.stands;
      submitted = says.submitted;
      others = says.others;
      queue = says.queue;
      store = says.store;
    }

    pub free_claims_works : Worked w old new
    free_claims_works = quiet_works says.releases.more old new free_claims_quiet

    pub free_claims_down : is_down w new ≡ is_down w old
    free_claims_down = same_down w old new says.others.undone says.queue says.store
