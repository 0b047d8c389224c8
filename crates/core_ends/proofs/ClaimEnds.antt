-- How a turn ends by what a claim answers.
use Rattle.std.proofs.Common.{◌≡◌, ◌≢◌, ◌∙◌, inr, true, false, [], refl, sym, ap, subst}
use Rattle.command_core.specs.core_spec.History.{History}
use Rattle.command_core.specs.queue_log.Queued.{queue_size}
use Rattle.core_course.specs.table_machine.Table.{Table}
use Rattle.command_core.specs.core_state.declared.state.CoreState.{CoreState}
use Rattle.command_core.specs.core_state.StandsFor.{history_of}
use Rattle.command_core.specs.core_claims.declared.answers.Claimed.{Claimed}
use Rattle.command_core.specs.core_claims.declared.answers.Claimed.TheVariants as claimed
use Rattle.command_core.specs.core_claims.Claims.{ClaimGives, LeavesPending, IsOverfull}
use Rattle.core_course.specs.Sight.{Sight, Stood, is_down}
use Rattle.core_course.specs.Work.{Worked}
use Rattle.core_ends.proofs.Links.{core_up}
use Rattle.core_ends.proofs.OneCalls.{only_supersedes}
use Rattle.core_ends.proofs.Releases.{nothing_works}
use Rattle.core_ends.proofs.Claims.{ClaimSays, claim_events, claim_passes}
use Rattle.core_ends.proofs.Waits.{queued_waits}
use Rattle.core_ends.specs.Answers.{after_claim}
use Rattle.core_ends.specs.Ends.{SomethingWaits, of_claim, RoseInLast, to_supersede, EndsHere}

module _ {D K : Type 0} (w : Sight D K) where
  -- further clauses of a claim: when each answer comes
  pub record ClaimAnswers (came : Claimed) (old new : CoreState D K) : Type 0 where
    pub gives : (start : History) → Stood w old start → ClaimGives came old.tables.ttls (history_of old start) (history_of new start)
    pub nothing : came ≡ claimed.Done → new.pending ≡ []
    pub waits : LeavesPending came → new.pending ≢ []
    pub spent : (start : History) → Stood w old start → came ≡ claimed.Spent → IsOverfull old.tables.ttls (queue_size new.queue) (history_of new start)
    pub up : (came ≡ claimed.QueueFault → ⊥) → is_down w new ≡ is_down w old

  module _ (old new : CoreState D K) (up : is_down w old ≡ false) where
    -- the command that was to be superseded
    fault_left : ClaimSays w claimed.QueueFault old new → ClaimAnswers claimed.QueueFault old new → SomethingWaits w old new
    fault_left says a = (
      a.waits tt,
      λ start stood.
          let last = (a.gives start stood).1 in
          queued_waits new.tables.ttls last.q (history_of new start) (says.stands start stood).holds.says.plain.legal last.outdated.queued,
    )

    fault_last : ClaimSays w claimed.QueueFault old new → RoseInLast w old new
    fault_last says =
        let nothing : Worked w old old = nothing_works w old old refl in
        record {
          earlier = nothing.more;
          mid = old;
          before = nothing.passed;
          up = up;
          last = claim_events w claimed.QueueFault old new says;
          of_fault = of_claim (only_supersedes says.adds.more says.adds.only);
          passed = claim_passes w claimed.QueueFault old new says;
          rose = says.cause.cause refl;
        }

    overfull : ClaimSays w claimed.Spent old new → ClaimAnswers claimed.Spent old new → (start : History) → Stood w old start → IsOverfull new.tables.ttls (queue_size new.queue) (history_of new start)
    overfull says a start stood =
        subst (λ (t : Table). IsOverfull t.ttls (queue_size new.queue) (history_of new start)) (sym says.others.tables) (a.spent start stood refl)

    spent_left : ClaimSays w claimed.Spent old new → ClaimAnswers claimed.Spent old new → SomethingWaits w old new
    spent_left says a = (
      a.waits tt,
      λ start stood.
          let last = overfull says a start stood in
          queued_waits new.tables.ttls last.q (history_of new start) (says.stands start stood).holds.says.plain.legal last.outdated.queued,
    )

    pub claim_ends : (came : Claimed) → ClaimSays w came old new → ClaimAnswers came old new → EndsHere w (after_claim came) old new
    claim_ends (claimed.Job job) says a = a.up (λ e. absurd cc) ∙ up
    claim_ends claimed.Rest says a = a.up (λ e. absurd cc) ∙ up
    claim_ends claimed.Done says a = (a.up (λ e. absurd cc) ∙ up, a.nothing refl)
    claim_ends claimed.QueueFault says a =
        (says.cause.cause refl, ap w.store_down says.store ∙ (core_up w old up).store, inr (says.others.undone ∙ (core_up w old up).done, fault_left says a, λ still. fault_last says))
    claim_ends claimed.Spent says a = (a.up (λ e. absurd cc) ∙ up, to_supersede (overfull says a), spent_left says a)
    claim_ends claimed.Down says a = let apart : true ≡ false = sym (says.down.0 refl) ∙ up in cc
    claim_ends claimed.Memory says a = a.up (λ e. absurd cc) ∙ up
