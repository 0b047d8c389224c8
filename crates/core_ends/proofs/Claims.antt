-- A claim, with what it supersedes.
use Rattle.std.proofs.Common.{◌≡◌, ◌∙◌, ◌↔◌, ℕ, true, false, List, [], ◌∷◌, ◌++◌, Some, refl, sym, ap, subst, append_assoc}
use Rattle.std.proofs.lemmas.List.{append-nil}
use Rattle.command_decode.specs.fleet_rows.declared.command.Command.{Command}
use Rattle.command_core.specs.record_spec.declared.queue.QueueRecord.{QueueRecord}
use Rattle.command_core.specs.record_spec.declared.store.StoreRecord.{StoreRecord}
use Rattle.command_core.specs.core_spec.declared.event.Event.TheVariants.{Submit, Claim, Release, Apply, Supersede, Fail, Discard, Sweep, Restart}
use Rattle.command_core.specs.core_spec.History.{History}
use Rattle.command_core.specs.core_spec.Stands.{queue_trace, store_trace}
use Rattle.command_core.specs.core_laws.Threads.{MomentsAreKept}
use Rattle.command_core.specs.core_state.declared.state.CoreState.{CoreState}
use Rattle.command_core.specs.core_state.Changes.{OthersStay}
use Rattle.command_core.specs.core_state.Moments.{Within, StandsAmid}
use Rattle.command_core.specs.core_state.Puts.{QueueCounts, QueueRoseTwice}
use Rattle.command_core.specs.core_state.Seen.{IsSubmitted}
use Rattle.command_core.specs.core_state.StandsFor.{AreOfOneRecord, one, history_of}
use Rattle.command_core.specs.core_claims.declared.answers.Claimed.{Claimed}
use Rattle.command_core.specs.core_claims.declared.answers.Claimed.TheVariants as claimed
use Rattle.command_core.specs.core_claims.Claims.{IsSuperseding, OnlySupersede, claim_of, ClaimAdds}
use Rattle.core_course.specs.Sight.{Sight, Stood, is_down}
use Rattle.core_course.specs.Courses.{DisksGo, Passed}
use Rattle.core_course.specs.Work.{IsWork, Worked}
use Rattle.core_ends.proofs.Links.{core_up, written, same_opening, queue_counts, same_faults, work_of, went_twice, same_store_fits}
use Rattle.core_ends.proofs.OneCalls.{claimed_at_once}
use Rattle.core_ends.proofs.Records.{none_more}
use Rattle.command_core.specs.queue_log.Queued.{queue_down}

-- ---- supersedings, and the claim behind them

supersedings_work : (more : History) → OnlySupersede more → IsWork more
supersedings_work [] h = tt
supersedings_work (Submit r c ∷ more) h = absurd h
supersedings_work (Claim r ∷ more) h = absurd h
supersedings_work (Release r ∷ more) h = absurd h
supersedings_work (Apply r t ∷ more) h = absurd h
supersedings_work (Supersede q p ∷ more) h = supersedings_work more h
supersedings_work (Fail r before after ∷ more) h = absurd h
supersedings_work (Discard r why ∷ more) h = absurd h
supersedings_work (Sweep kinds m ∷ more) h = absurd h
supersedings_work (Restart ∷ more) h = absurd h

supersedings_moments : (start more : History) → OnlySupersede more → MomentsAreKept start more
supersedings_moments start [] h = tt
supersedings_moments start (Submit r c ∷ more) h = absurd h
supersedings_moments start (Claim r ∷ more) h = absurd h
supersedings_moments start (Release r ∷ more) h = absurd h
supersedings_moments start (Apply r t ∷ more) h = absurd h
supersedings_moments start (Supersede q p ∷ more) h = supersedings_moments start more h
supersedings_moments start (Fail r before after ∷ more) h = absurd h
supersedings_moments start (Discard r why ∷ more) h = absurd h
supersedings_moments start (Sweep kinds m ∷ more) h = absurd h
supersedings_moments start (Restart ∷ more) h = absurd h

supersedings_store : (upto more : History) → OnlySupersede more → store_trace upto more ≡ []
supersedings_store upto [] h = refl
supersedings_store upto (Submit r c ∷ more) h = absurd h
supersedings_store upto (Claim r ∷ more) h = absurd h
supersedings_store upto (Release r ∷ more) h = absurd h
supersedings_store upto (Apply r t ∷ more) h = absurd h
supersedings_store upto (Supersede q p ∷ more) h = append-nil (store_trace upto more) ∙ supersedings_store upto more h
supersedings_store upto (Fail r before after ∷ more) h = absurd h
supersedings_store upto (Discard r why ∷ more) h = absurd h
supersedings_store upto (Sweep kinds m ∷ more) h = absurd h
supersedings_store upto (Restart ∷ more) h = absurd h

claim_works_too : (came : Claimed) (more : History) → IsWork more → IsWork (claim_of came ++ more)
claim_works_too (claimed.Job job) more h = h
claim_works_too claimed.Rest more h = h
claim_works_too claimed.Done more h = h
claim_works_too claimed.QueueFault more h = h
claim_works_too claimed.Spent more h = h
claim_works_too claimed.Down more h = h
claim_works_too claimed.Memory more h = h

claim_moments : (came : Claimed) (start more : History) → MomentsAreKept start more → MomentsAreKept start (claim_of came ++ more)
claim_moments (claimed.Job job) start more h = h
claim_moments claimed.Rest start more h = h
claim_moments claimed.Done start more h = h
claim_moments claimed.QueueFault start more h = h
claim_moments claimed.Spent start more h = h
claim_moments claimed.Down start more h = h
claim_moments claimed.Memory start more h = h

claim_queue : (came : Claimed) (more : History) → queue_trace (claim_of came ++ more) ≡ queue_trace more
claim_queue (claimed.Job job) more = append-nil (queue_trace more)
claim_queue claimed.Rest more = refl
claim_queue claimed.Done more = refl
claim_queue claimed.QueueFault more = refl
claim_queue claimed.Spent more = refl
claim_queue claimed.Down more = refl
claim_queue claimed.Memory more = refl

claim_store : (came : Claimed) (upto more : History) → store_trace upto (claim_of came ++ more) ≡ store_trace upto more
claim_store (claimed.Job job) upto more = append-nil (store_trace upto more)
claim_store claimed.Rest upto more = refl
claim_store claimed.Done upto more = refl
claim_store claimed.QueueFault upto more = refl
claim_store claimed.Spent upto more = refl
claim_store claimed.Down upto more = refl
claim_store claimed.Memory upto more = refl

of_one : (upto begun : History) → IsSuperseding upto begun → AreOfOneRecord begun × IsWork begun
of_one upto begun h = (one (Supersede h.0 h.1) tt h.3, subst IsWork (sym h.3) tt)

module _ {D K : Type 0} (w : Sight D K) where
  -- the clauses of a claim
  pub record ClaimSays (came : Claimed) (old new : CoreState D K) : Type 0 where
    pub adds : ClaimAdds w.tells w.seen came old new
    pub stands : (start : History) → Stood w old start → Stood w new start
    pub any_moment : (start : History) → Stood w old start → is_down w old ≡ false
        → Within w.may_leave w.moment w.left_since w.images w.store_moment w.images_since old new
        (StandsAmid old.tables.ttls IsSuperseding (history_of old start) (history_of new start))
    pub submitted : (r : ℕ) (c : Command) → IsSubmitted r c old → IsSubmitted r c new
    pub others : OthersStay old new
    pub store : new.store ≡ old.store
    pub down : (came ≡ claimed.Down) ↔ (is_down w old ≡ true)
    pub unchanged : came ≡ claimed.Down → new ≡ old
    pub cause : QueueCounts w.faults old.queue new.queue (came ≡ claimed.QueueFault)
    pub twice : is_down w old ≡ false → queue_down new.queue ≡ true → QueueRoseTwice w.faults old.queue new.queue

  module _ (came : Claimed) (old new : CoreState D K) (says : ClaimSays came old new) where
    abbrev pub claim_events : History
    claim_events = claim_of came ++ says.adds.more

    still_down : is_down w old ≡ true → is_down w new ≡ true
    still_down down = ap (is_down w) (says.unchanged (says.down.1 down)) ∙ down

    pub claim_passes : Passed w claim_events old new
    claim_passes = record {
      events = says.adds.events ∙ sym (append_assoc (claim_of came) says.adds.more old.events.list);
      stands = says.stands;
      submitted = says.submitted;
      opening = same_opening w old new says.others says.store;
      counts = queue_counts w (came ≡ claimed.QueueFault) old new says.cause (same_faults w old new says.store);
      stays_down = still_down;
      queue_twice = went_twice w old new (λ down. says.unchanged (says.down.1 down)) says.twice;
      queue_fits = says.adds.within;
      store_fits = same_store_fits w old new says.store;
      logs = λ up. record {
        queue = λ told records is.
            says.adds.records (core_up w new up).queue told records is ∙ ap (λ (xs : List QueueRecord). Some (records ++ xs)) (sym (claim_queue came says.adds.more));
        store = λ start stood told records is.
            none_more (w.kept old.store) (w.kept new.store) records (ap w.kept says.store) is
            ∙ ap (λ (xs : List StoreRecord). Some (records ++ xs))
            (sym (claim_store came (history_of old start) says.adds.more ∙ supersedings_store (history_of old start) says.adds.more says.adds.only));
      };
    }

    claim_disks : DisksGo w IsWork old new
    claim_disks = written w (λ start. IsSuperseding) IsWork old new (λ start. of_one) (λ down. says.unchanged (says.down.1 down)) says.any_moment

    pub claim_works : Worked w old new
    claim_works =
        work_of w claim_events old new (claim_works_too came says.adds.more (supersedings_work says.adds.more says.adds.only)) (claimed_at_once came says.adds.more says.adds.only) claim_passes
        (λ start. claim_moments came (history_of old start) says.adds.more (supersedings_moments (history_of old start) says.adds.more says.adds.only)) claim_disks
