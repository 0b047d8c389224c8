-- How a turn ends by what a settle answers.
use Rattle.std.proofs.Common.{◌≡◌, ◌≢◌, ◌∙◌, ◌↔◌, ◌⊎◌, inl, inr, ℕ, ◌+◌, ◌<◌, ◌==◌, if◌then◌else◌, arith, Bool, true, false, [], ◌∷◌, ◌++◌, Some, refl, sym, ap, subst}
use Rattle.core_course.specs.fleet_ports.Counts.{RoseBy}
use Rattle.command_decode.specs.fleet_rows.declared.refusal.Refusal.{Refusal}
use Rattle.command_core.specs.fleet_keeper.Limits.{IsPast}
use Rattle.command_core.specs.record_spec.Queue.{queue_text}
use Rattle.command_core.specs.record_spec.Store.{store_text}
use Rattle.command_core.specs.record_spec.declared.queue.QueueRecord.TheVariants as queue
use Rattle.command_core.specs.record_spec.declared.store.StoreRecord.TheVariants as store
use Rattle.command_core.specs.core_spec.declared.event.Event.TheVariants.{Release}
use Rattle.command_core.specs.core_spec.History.{History, Standing, command, queued, standing}
use Rattle.command_core.specs.core_spec.Legal.{IsLegal}
use Rattle.command_core.specs.core_spec.Pending.{pending_of}
use Rattle.core_course.specs.core_machine.Claims.{is_claimed}
use Rattle.command_core.specs.queue_log.declared.queue.QueueLog.{QueueLog}
use Rattle.command_core.specs.queue_log.Queued as log
use Rattle.command_core.specs.queue_log.Queued.{queue_down, queue_size}
use Rattle.command_core.specs.core_claims.declared.job.Job.{Job}
use Rattle.command_core.specs.core_state.declared.state.CoreState.{CoreState}
use Rattle.command_core.specs.core_state.Puts.{QueueRoseTwice}
use Rattle.command_core.specs.core_state.Seen.{IsFit, IsSubmitted}
use Rattle.command_core.specs.core_state.StandsFor.{EachImage, history_of}
use Rattle.command_core.specs.core_settles.declared.answers.Settled.{Settled}
use Rattle.command_core.specs.core_settles.declared.answers.Settled.TheVariants as settled
use Rattle.command_core.specs.core_settles.declared.answers.Verdict.{Verdict}
use Rattle.command_core.specs.core_settles.declared.answers.Verdict.TheVariants as verdict
use Rattle.command_core.specs.core_settles.Settles.{IsVerdictOf, IsSpent, LeavesPending, SettleImage, StoreRose, settled_events}
use Rattle.command_core.proofs.of_core_state.Tests.{claimed_stands}
use Rattle.core_course.specs.Sight.{Sight, Stood, is_down}
use Rattle.core_course.specs.Courses.{Passed}
use Rattle.core_course.specs.Work.{Worked}
use Rattle.core_ends.proofs.Links.{core_up}
use Rattle.core_ends.proofs.Fails.{rose_behind}
use Rattle.core_ends.proofs.Records.{none_more}
use Rattle.core_ends.proofs.Releases.{nothing_works}
use Rattle.core_ends.proofs.Settles.{SettleSays, settle_command, settle_passes}
use Rattle.core_ends.proofs.Waits.{released_waits}
use Rattle.core_ends.specs.Answers.{after_settle}
use Rattle.core_ends.specs.Ends.{SomethingWaits, of_settle, RoseInLast, IsLeft, to_settle, LacksDone, ChangeIsOpen, EndsHere}
use Rattle.command_core.specs.log_spec.Limits.{most_log}
use Rattle.command_core.proofs.of_core_settles.SettledParts.{claimed_some}

pub false_else : (b : Bool) → (b ≡ true → ⊥) → b ≡ false
false_else true h = absurd (h refl)
false_else false h = refl

module _ {D K : Type 0} (w : Sight D K) where
  -- further clauses of a settle: when each answer comes
  pub record SettleAnswers (came : Settled) (job : Job) (v : Verdict) (old new : CoreState D K) : Type 0 where
    pub not_claimed : (came ≡ settled.NotClaimed) ↔ ((is_down w old ≡ false) × (is_claimed job.receipt old.pending ≡ false))
    pub waits : LeavesPending came new.undone → new.pending ≢ []
    pub refusals : (refusal : Refusal) → v ≡ verdict.Refused refusal → new.store ≡ old.store
    pub store_cause : StoreRose came v (w.store_faults old.store) (w.store_faults new.store)
    pub store_down : is_down w old ≡ false → (w.store_down new.store ≡ true) ↔ (came ≡ settled.StoreDown)
    pub up : (came ≡ settled.QueueFault → ⊥) → (came ≡ settled.StoreDown → ⊥) → is_down w new ≡ is_down w old
    pub twice : is_down w old ≡ false → queue_down new.queue ≡ true → QueueRoseTwice w.faults old.queue new.queue
    pub each_image : (start : History) → Stood w old start → EachImage w.may_leave w.images new (SettleImage came new.undone job new.tables.ttls (history_of new start))

  -- what was released is queued
  released_is : (r : ℕ) (b : Bool) (s : Standing) → (r == r) ≡ b → (if b then queued else s) ≡ queued
  released_is r true s e = refl
  released_is r false s e = absurd (let own : (r == r) ≡ true = grind arith in let apart : true ≡ false = sym own ∙ e in cc)

  release_queued : (r : ℕ) (old new : CoreState D K) → new.events.list ≡ Release r ∷ old.events.list → (start : History) → standing r (history_of new start) ≡ queued
  release_queued r old new events start =
      ap (λ (es : History). standing r (es ++ start)) events ∙ released_is r (r == r) (standing r (history_of old start)) refl

  -- and waits
  pub release_left : (r : ℕ) (old new : CoreState D K) → new.pending ≢ [] → ((start : History) → Stood w old start → Stood w new start) → new.events.list ≡ Release r ∷ old.events.list → SomethingWaits w old new
  release_left r old new some stands events = (
    some,
    λ start stood none.
        let now : history_of new start ≡ Release r ∷ history_of old start = ap (λ (es : History). es ++ start) events in
        released_waits new.tables.ttls r (history_of old start) (subst (IsLegal new.tables.ttls) now (stands start stood).holds.says.plain.legal) (ap pending_of (sym now) ∙ none),
  )

  -- so does what stays claimed
  claim_left : (r : ℕ) (old new : CoreState D K) → new.pending ≢ [] → new.events.list ≡ old.events.list → is_claimed r old.pending ≡ true → SomethingWaits w old new
  claim_left r old new some events is = (
    some,
    λ start stood none.
        let now : history_of new start ≡ history_of old start = ap (λ (es : History). es ++ start) events in
        claimed_some r old.pending is (stood.holds.says.pending ∙ (ap pending_of (sym now) ∙ none)),
  )

  spent_still : (job : Job) (v : Verdict) (old new : CoreState D K) → new.queue ≡ old.queue → new.store ≡ old.store → IsSpent w.store_size job v old → IsSpent w.store_size job v new
  spent_still job (verdict.Change change) old new queue_same store_same (inl past) =
      inl (subst (λ (k : K). IsPast (w.store_size k) (store_text (store.Received job.receipt (Some job.command.received) change))) (sym store_same) past)
  spent_still job (verdict.Change change) old new queue_same store_same (inr full) = inr (subst (λ (l : QueueLog D). most_log < queue_size l + 5 + 25) (sym queue_same) full)
  spent_still job (verdict.Refused refusal) old new queue_same store_same past =
      subst (λ (l : QueueLog D). IsPast (queue_size l) (queue_text (queue.Refused job.receipt refusal))) (sym queue_same) past

  rose_twice : (v : Verdict) (before now : ℕ) → StoreRose settled.StoreDown v before now → ((refusal : Refusal) → v ≡ verdict.Refused refusal → ⊥) → RoseBy 2 before now
  rose_twice (verdict.Change change) before now h no_refusal = h
  rose_twice (verdict.Refused refusal) before now h no_refusal = absurd (no_refusal refusal refl)

  module _ (job : Job) (v : Verdict) (old new : CoreState D K) (submitted : IsSubmitted job.receipt job.command old) (decodes : IsVerdictOf v job.command) (fit : IsFit job.command)
      (up : is_down w old ≡ false) where
    no_refusal : SettleAnswers settled.StoreDown job v old new → (refusal : Refusal) → v ≡ verdict.Refused refusal → ⊥
    no_refusal a refusal is =
        let was : w.store_down old.store ≡ false = (core_up w old up).store in
        let now : w.store_down new.store ≡ true = (a.store_down up).1 refl in
        let same : w.store_down new.store ≡ w.store_down old.store = ap w.store_down (a.refusals refusal is) in
        let apart : true ≡ false = sym now ∙ (same ∙ was) in
        cc

    is_claimed_by : (came : Settled) → (came ≡ settled.NotClaimed → ⊥) → SettleAnswers came job v old new → (b : Bool) → is_claimed job.receipt old.pending ≡ b → is_claimed job.receipt old.pending ≡ true
    is_claimed_by came other a true e = e
    is_claimed_by came other a false e = absurd (other (a.not_claimed.1 (up, e)))

    abbrev fault_events : Bool → Bool → History
    fault_events undone down = settled_events settled.QueueFault job v (w.store_faults old.store) (w.store_faults new.store) undone down

    fault_added : SettleSays w settled.QueueFault job v old new → (undone down : Bool) → new.undone ≡ undone → is_down w new ≡ down → new.events.list ≡ fault_events undone down ++ old.events.list
    fault_added says undone down is how =
        says.adds ∙ (ap (λ (b : Bool). fault_events b (is_down w new) ++ old.events.list) is ∙ ap (λ (b : Bool). fault_events undone b ++ old.events.list) how)

    -- the core stayed up, so the command was queued again
    fault_last : SettleSays w settled.QueueFault job v old new → new.undone ≡ false → is_down w new ≡ false → RoseInLast w old new
    fault_last says is still =
        let nothing : Worked w old old = nothing_works w old old refl in
        let added : fault_events new.undone (is_down w new) ≡ Release job.receipt ∷ [] = ap (λ (b : Bool). fault_events b (is_down w new)) is ∙ ap (λ (b : Bool). fault_events false b) still in
        record {
          earlier = nothing.more;
          mid = old;
          before = nothing.passed;
          up = up;
          last = Release job.receipt ∷ [];
          of_fault = of_settle job.receipt refl;
          passed = subst (λ (es : History). Passed w es old new) added (settle_passes w settled.QueueFault job v old new submitted decodes says);
          rose = says.cause.cause refl;
        }

    -- the command was applied, and the queue lacks its Done; or it stays claimed, or is queued again
    fault_left : SettleSays w settled.QueueFault job v old new → SettleAnswers settled.QueueFault job v old new → (undone down : Bool) → new.undone ≡ undone → is_down w new ≡ down
        → LacksDone w old new ⊎ IsLeft w old new
    fault_left says a true down is how = inl (record {
      undone = is;
      receipt = job.receipt;
      moment = Some job.command.received;
      earlier = [];
      events = fault_added says true down is how;
      queue = λ calm told records there. none_more (log.queued w.seen old.queue) (log.queued w.seen new.queue) records (says.queue_writes.1 calm told) there;
      twice = λ went. a.twice up went;
      images = λ start stood q s q_image s_image.
          subst (λ (b : Bool). SettleImage settled.QueueFault b job new.tables.ttls (history_of new start) q s) is (a.each_image start stood q s q_image s_image);
    })
    fault_left says a false true is how =
        inr (is, claim_left job.receipt old new (a.waits is) (fault_added says false true is how) (is_claimed_by settled.QueueFault (λ e. cc) a (is_claimed job.receipt old.pending) refl), λ still. fault_last says is still)
    fault_left says a false false is how = inr (is, release_left job.receipt old new (a.waits is) says.stands (fault_added says false false is how), λ still. fault_last says is still)

    -- the command stays claimed, and its change may be in the store
    change_open : SettleSays w settled.StoreDown job v old new → SettleAnswers settled.StoreDown job v old new → is_claimed job.receipt old.pending ≡ true → ChangeIsOpen w old new
    change_open says a is = record {
      waits = claim_left job.receipt old new (a.waits tt) says.adds is;
      receipt = job.receipt;
      of_command = job.command;
      command_is = λ start stood.
          ap (λ (es : History). command job.receipt (es ++ start)) says.adds ∙ settle_command w settled.StoreDown job v old new submitted decodes says start stood;
      stands = λ start stood.
          let held = stood.holds.says in
          ap (λ (es : History). standing job.receipt (es ++ start)) says.adds
          ∙ claimed_stands old.tables.ttls (history_of old start) held.plain.legal old.pending held.pending job.receipt is;
      more = [];
      events = says.adds;
      queue_up = ap queue_down says.leaves ∙ (core_up w old up).queue;
      queue = λ told records there. none_more (log.queued w.seen old.queue) (log.queued w.seen new.queue) records (ap (log.queued w.seen) says.leaves) there;
      images = λ start stood q s q_image s_image. a.each_image start stood q s q_image s_image;
    }

    pub settle_ends : (came : Settled) → SettleSays w came job v old new → SettleAnswers came job v old new → EndsHere w (after_settle came) old new
    settle_ends settled.Applied says a = a.up (λ e. absurd cc) (λ e. absurd cc) ∙ up
    settle_ends settled.Discarded says a = a.up (λ e. absurd cc) (λ e. absurd cc) ∙ up
    settle_ends (settled.Failed attempts) says a = a.up (λ e. absurd cc) (λ e. absurd cc) ∙ up
    settle_ends settled.StoreDown says a = (
      rose_behind w 2 old new says.adds (rose_twice v (w.store_faults old.store) (w.store_faults new.store) a.store_cause (no_refusal a)),
      (a.store_down up).1 refl,
      change_open says a (is_claimed_by settled.StoreDown (λ e. cc) a (is_claimed job.receipt old.pending) refl),
    )
    settle_ends settled.QueueFault says a = (
      says.cause.cause refl,
      false_else (w.store_down new.store) (λ down. let other : settled.QueueFault ≡ settled.StoreDown = (a.store_down up).0 down in cc),
      fault_left says a new.undone (is_down w new) refl refl,
    )
    settle_ends settled.NotClaimed says a = a.up (λ e. absurd cc) (λ e. absurd cc) ∙ up
    settle_ends settled.Spent says a = (
      a.up (λ e. absurd cc) (λ e. absurd cc) ∙ up,
      to_settle job v (says.kept_submitted job.receipt job.command submitted) (λ start stood. release_queued job.receipt old new says.adds start) fit decodes
          (spent_still job v old new says.leaves.1 says.leaves.2 says.leaves.0) old.events.list says.adds,
      release_left job.receipt old new (a.waits tt) says.stands says.adds,
    )
    settle_ends settled.Down says a = let apart : true ≡ false = sym (says.down.0 refl) ∙ up in cc
    settle_ends (settled.Memory given u) says a = a.up (λ e. absurd cc) (λ e. absurd cc) ∙ up
