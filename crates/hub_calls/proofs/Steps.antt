-- Each call leads on, and calls go on with calls.
use Rattle.std.proofs.Common.{◌≡◌, ◌∙◌, inl, ℕ, ◌+◌, ℤ, Bool, true, false, [], ◌∷◌, ◌++◌, Option, Some, None, refl, sym, ap, subst}
use Rattle.core_ends.specs.fleet_rows.declared.command.Command.{Command}
use Rattle.core_ends.specs.fleet_rows.declared.settings.Kinds.{Kinds}
use Rattle.core_ends.specs.core_spec.declared.event.Event.TheVariants.{Submit, Sweep}
use Rattle.core_ends.specs.core_spec.History.{History}
use Rattle.core_ends.specs.core_laws.Threads.{MomentsAreKept}
use Rattle.core_ends.specs.core_state.declared.state.CoreState.{CoreState}
use Rattle.core_ends.specs.core_state.Seen.{IsFit, IsSubmitted}
use Rattle.core_ends.specs.core_state.StandsFor.{history_of}
use Rattle.fleet_rows.specs.declared.submitted.Submitted.{Submitted}
use Rattle.fleet_rows.specs.declared.submitted.Submitted.TheVariants as submitted
use Rattle.core_ends.specs.core_claims.declared.answers.Claimed.{Claimed}
use Rattle.core_ends.specs.core_claims.declared.job.Job.{Job}
use Rattle.core_ends.specs.core_settles.declared.answers.Settled.{Settled}
use Rattle.core_ends.specs.core_settles.declared.answers.Verdict.{Verdict}
use Rattle.core_ends.specs.core_settles.Settles.{IsVerdictOf, SettleLeaves}
use Rattle.core_ends.specs.core_sweeps.declared.answers.Swept.{Swept}
use Rattle.core_ends.specs.core_sweeps.declared.answers.Swept.TheVariants as swept
use Rattle.core_ends.specs.core_course.Sight.{Sight, is_down}
use Rattle.core_ends.specs.core_course.Work.{IsWork, KeepsMoments, Worked}
use Rattle.core_ends.proofs.of_core_course.Stretches.{history_joined, passed_join, course_joins, course_also, course_of_one, link_also}
use Rattle.core_ends.proofs.of_core_course.Traces.{work_joined, moments_joined}
use Rattle.core_ends.proofs.Fails.{rose_behind}
use Rattle.core_ends.proofs.Links.{core_up}
use Rattle.core_ends.proofs.Submits.{SubmitSays, submit_events, submit_passes, submit_link}
use Rattle.core_ends.proofs.Claims.{ClaimSays, claim_works}
use Rattle.core_ends.proofs.Releases.{ReleaseSays, release_works, release_down, nothing_works}
use Rattle.core_ends.proofs.Settles.{SettleSays, settle_works}
use Rattle.core_ends.proofs.Sweeps.{SweepSays, sweep_events, sweep_passes, sweep_link}
use Rattle.core_ends.specs.declared.ends.WorkEnd.{WorkEnd}
use Rattle.core_ends.specs.declared.ends.WorkEnd.TheVariants.{Done, QueueFault, StoreDown, Spent, Down, Memory}
use Rattle.core_ends.specs.Answers.{after_claim, after_settle}
use Rattle.core_ends.specs.Ends.{EndsHere}
use Rattle.core_ends.proofs.SettleEnds.{SettleAnswers, settle_ends}
use Rattle.core_ends.proofs.ClaimEnds.{ClaimAnswers, claim_ends}
use Rattle.core_ends.proofs.Later.{queue_rose_later, behind_later, open_later, fault_later}
use Rattle.hub_calls.specs.Calls.{SubmitDoes, ClaimDoes, ReleaseDoes, SettleDoes, SweepDoes}
use Rattle.hub_calls.specs.Follows.{MayWrite, is_work, is_submit, is_sweep, WentDown, by_store, by_queue, Follows}

submits_keep_moments : (came : Submitted) (c : Command) (start : History) → MomentsAreKept start (submit_events came c)
submits_keep_moments (submitted.Receipt r) c start = tt
submits_keep_moments submitted.Full c start = tt
submits_keep_moments submitted.QueueFault c start = tt
submits_keep_moments submitted.Spent c start = tt
submits_keep_moments submitted.Down c start = tt
submits_keep_moments submitted.Memory c start = tt

sweeps_keep_moments : (came : Swept) (kinds : Kinds) (m : ℤ) (start : History) → MomentsAreKept start (sweep_events came kinds m)
sweeps_keep_moments swept.Ok kinds m start = tt
sweeps_keep_moments swept.StoreFault kinds m start = tt
sweeps_keep_moments swept.StoreDown kinds m start = tt
sweeps_keep_moments swept.Spent kinds m start = tt
sweeps_keep_moments swept.Down kinds m start = tt
sweeps_keep_moments swept.Memory kinds m start = tt

module _ {D K : Type 0} (w : Sight D K) where
  -- ---- what a turn's end says

  down_by_end : (only : Bool) (end : Option WorkEnd) (old new : CoreState D K) → EndsHere w end old new → is_down w new ≡ true → WentDown w only old new
  down_by_end only None old new h down = let apart : true ≡ false = sym down ∙ h in cc
  down_by_end only (Some Done) old new h down = let apart : true ≡ false = sym down ∙ h.0 in cc
  down_by_end only (Some QueueFault) old new h down = by_queue h.1 h.0 (λ alone. h.2)
  down_by_end only (Some StoreDown) old new h down = by_store h.1 h.0 (λ alone. h.2)
  down_by_end only (Some Spent) old new h down = let apart : true ≡ false = sym down ∙ h.0 in cc
  down_by_end only (Some Down) old new h down = absurd h
  down_by_end only (Some Memory) old new h down = let apart : true ≡ false = sym down ∙ h in cc

  -- ---- work

  module _ (only : Bool) (old new : CoreState D K) where
    -- a stretch of work that ends so
    follows_work : Worked w old new → (is_down w old ≡ true → new ≡ old) → (end : Option WorkEnd) → (is_down w old ≡ false → EndsHere w end old new) → Follows w only old new
    follows_work worked stays end ends = record {
      more = worked.more;
      passed = worked.passed;
      moments = worked.moments;
      course = course_also w (λ core begun. IsWork begun) (λ core begun. MayWrite only core begun) (λ core begun is. is_work is) old new worked.course;
      stays = stays;
      goes_down = λ up. down_by_end only end old new (ends up);
      works = λ alone. worked.only;
    }

    pub claim_follows : (came : Claimed) → ClaimDoes w came old new → Follows w only old new
    claim_follows came d =
        let says : ClaimSays w came old new = record {
          adds = d.adds;
          stands = d.stands;
          any_moment = d.any_moment;
          submitted = d.submitted;
          others = d.others;
          store = d.store;
          down = d.down;
          unchanged = d.unchanged;
          cause = d.cause;
          twice = d.twice;
        } in
        let answers : ClaimAnswers w came old new = record { gives = d.gives; nothing = d.nothing; waits = d.waits; spent = d.spent; up = d.up } in
        follows_work (claim_works w came old new says) (λ down. d.unchanged (d.down.1 down)) (after_claim came) (λ up. claim_ends w old new up came says answers)

    pub settle_follows : (generation : K → ℕ) (came : Settled) (job : Job) (v : Verdict) → IsSubmitted job.receipt job.command old → IsVerdictOf v job.command → IsFit job.command → SettleDoes w generation came job v old new
        → Follows w only old new
    settle_follows generation came job v was decodes fit d =
        let says : SettleSays w came job v old new = record {
          adds = d.adds;
          queue_writes = d.queue_writes;
          store_writes = d.store_writes;
          stands = d.stands;
          any_moment = d.any_moment;
          kept_submitted = d.submitted;
          opening = d.opening;
          same_opening = d.keeper.same_opening;
          bounds = d.keeper.bounds;
          down = d.down;
          leaves = d.leaves;
          cause = d.cause;
          twice = d.twice;
          store_later = d.store_later;
        } in
        let answers : SettleAnswers w came job v old new = record {
          not_claimed = d.not_claimed;
          waits = d.waits;
          refusals = d.refusals;
          store_cause = d.store_cause;
          store_down = d.store_down;
          up = d.up;
          twice = d.twice;
          each_image = d.each_image;
        } in
        follows_work (settle_works w came job v old new was decodes says) (λ down. subst (λ (x : Settled). SettleLeaves w.store_size x job v old new) (d.down.1 down) d.leaves) (after_settle came)
        (λ up. settle_ends w job v old new was decodes fit up came says answers)

    pub release_follows : (job : Job) → ReleaseDoes w job old new → Follows w only old new
    release_follows job d =
        let says : ReleaseSays w job.receipt old new = record {
          released = d.released;
          unchanged = d.unchanged;
          stands = d.stands;
          submitted = d.submitted;
          others = d.others;
          queue = d.queue;
          store = d.store;
        } in
        follows_work (release_works w job.receipt old new says) (λ down. d.unchanged (inl down)) None (λ up. release_down w job.receipt old new says ∙ up)

  -- ---- what comes in

  module _ (old new : CoreState D K) where
    submit_down : (came : Submitted) (c : Command) → SubmitDoes w came c old new → is_down w old ≡ false → is_down w new ≡ true → WentDown w false old new
    submit_down submitted.QueueFault c d up down = by_queue (ap w.store_down d.store ∙ (core_up w old up).store) (d.cause.cause refl) (λ alone. absurd cc)
    submit_down (submitted.Receipt r) c d up down = let apart : true ≡ false = sym down ∙ (d.up (λ e. absurd cc) ∙ up) in cc
    submit_down submitted.Full c d up down = let apart : true ≡ false = sym down ∙ (d.up (λ e. absurd cc) ∙ up) in cc
    submit_down submitted.Spent c d up down = let apart : true ≡ false = sym down ∙ (d.up (λ e. absurd cc) ∙ up) in cc
    submit_down submitted.Down c d up down = let apart : true ≡ false = sym down ∙ (d.up (λ e. absurd cc) ∙ up) in cc
    submit_down submitted.Memory c d up down = let apart : true ≡ false = sym down ∙ (d.up (λ e. absurd cc) ∙ up) in cc

    pub submit_follows : (came : Submitted) (c : Command) → SubmitDoes w came c old new → Follows w false old new
    submit_follows came c d =
        let says : SubmitSays w came c old new = record {
          adds = d.adds;
          writes = d.writes;
          stands = d.stands;
          any_moment = d.any_moment;
          submitted = d.submitted;
          others = d.others;
          store = d.store;
          down = d.down;
          unchanged = d.unchanged;
          cause = d.cause;
          twice = d.twice;
        } in
        record {
          more = submit_events came c;
          passed = submit_passes w came c old new says;
          moments = λ start stood. submits_keep_moments came c (history_of old start);
          course = course_of_one w (λ core begun. MayWrite false core begun) old new
              (link_also w (λ begun. begun ≡ Submit (old.last + 1) c ∷ []) (λ begun. MayWrite false old begun) (λ begun is. is_submit refl c is) old new (submit_link w came c old new says));
          stays = λ down. d.unchanged (d.down.1 down);
          goes_down = submit_down came c d;
          works = λ alone. absurd cc;
        }

    sweep_down : (generation : K → ℕ) (came : Swept) (kinds : Kinds) (m : ℤ) → SweepDoes w generation came kinds m old new → is_down w old ≡ false → is_down w new ≡ true → WentDown w false old new
    sweep_down generation swept.StoreDown kinds m d up down = by_store ((d.store_down up).1 refl) (rose_behind w 2 old new d.adds (d.twice refl)) (λ alone. absurd cc)
    sweep_down generation swept.Ok kinds m d up down = let apart : true ≡ false = sym down ∙ (d.up (λ e. absurd cc) ∙ up) in cc
    sweep_down generation swept.StoreFault kinds m d up down = let apart : true ≡ false = sym down ∙ (d.up (λ e. absurd cc) ∙ up) in cc
    sweep_down generation swept.Spent kinds m d up down = let apart : true ≡ false = sym down ∙ (d.up (λ e. absurd cc) ∙ up) in cc
    sweep_down generation swept.Down kinds m d up down = let apart : true ≡ false = sym down ∙ (d.up (λ e. absurd cc) ∙ up) in cc
    sweep_down generation swept.Memory kinds m d up down = let apart : true ≡ false = sym down ∙ (d.up (λ e. absurd cc) ∙ up) in cc

    pub sweep_follows : (generation : K → ℕ) (came : Swept) (kinds : Kinds) (m : ℤ) → SweepDoes w generation came kinds m old new → Follows w false old new
    sweep_follows generation came kinds m d =
        let says : SweepSays w came kinds m old new = record {
          adds = d.adds;
          writes = d.writes;
          stands = d.stands;
          any_moment = d.any_moment;
          submitted = d.submitted;
          opening = d.opening;
          same_opening = d.keeper.same_opening;
          bounds = d.keeper.bounds;
          queue = d.queue;
          down = d.down;
          unchanged = d.unchanged;
          cause = d.cause;
        } in
        record {
          more = sweep_events came kinds m;
          passed = sweep_passes w came kinds m old new says;
          moments = λ start stood. sweeps_keep_moments came kinds m (history_of old start);
          course = course_of_one w (λ core begun. MayWrite false core begun) old new
              (link_also w (λ begun. begun ≡ Sweep kinds m ∷ []) (λ begun. MayWrite false old begun) (λ begun is. is_sweep refl kinds m is) old new (sweep_link w came kinds m old new says));
          stays = λ down. d.unchanged (d.down.1 down);
          goes_down = sweep_down generation came kinds m d;
          works = λ alone. absurd cc;
        }

  -- ---- one after the other

  pub nothing_follows : (only : Bool) (core : CoreState D K) → Follows w only core core
  nothing_follows only core =
      follows_work only core core (nothing_works w core core refl) (λ down. refl) None (λ up. up)

  module _ (only : Bool) (a b c : CoreState D K) (p : Follows w only a b) (q : Follows w only b c) where
    went_later : is_down w b ≡ false → WentDown w only b c → WentDown w only a c
    went_later up (by_store down rose left) = by_store down (behind_later w p.more a b c p.passed 2 rose) (λ alone. open_later w p.more a b c p.passed up (left alone))
    went_later up (by_queue store rose left) = by_queue store (queue_rose_later w p.more a b c p.passed rose) (λ alone. fault_later w p.more a b c p.passed up (left alone))

    went_joined : (was : Bool) → is_down w b ≡ was → is_down w a ≡ false → is_down w c ≡ true → WentDown w only a c
    went_joined true is up down = subst (WentDown w only a) (sym (q.stays is)) (p.goes_down up is)
    went_joined false is up down = went_later is (q.goes_down is down)

    moments_go_on : KeepsMoments w (q.more ++ p.more) a
    moments_go_on start stood =
        moments_joined (history_of a start) q.more p.more (p.moments start stood)
        (subst (λ (was : History). MomentsAreKept was q.more) (history_joined p.more a b start p.passed.events) (q.moments start (p.passed.stands start stood)))

    pub follows_on : Follows w only a c
    follows_on = record {
      more = q.more ++ p.more;
      passed = passed_join w p.more q.more a b c p.passed q.passed;
      moments = moments_go_on;
      course = course_joins w (λ core begun. MayWrite only core begun) a b c p.course q.course;
      stays = λ down. q.stays (ap (is_down w) (p.stays down) ∙ down) ∙ p.stays down;
      goes_down = went_joined (is_down w b) refl;
      works = λ alone. work_joined q.more p.more (q.works alone) (p.works alone);
    }
