-- A command that decodes takes effect, if no failure of the store was counted.
use Rattle.std.proofs.Common.{◌≡◌, ◌∙◌, ◌⊎◌, inl, inr, ℕ, suc, ◌<◌, ◌==◌, Bool, true, false, [], ◌∷◌, ◌++◌, if◌then◌else◌, arith, refl, sym, ap, subst, Option, Some, None, Ok, Err}
use Rattle.std.specs.Prelude.{is_some}
use Rattle.std.specs.Option.{option_map}
use Rattle.fleet_hub.specs.fleet_rows.declared.change.Change.{Change}
use Rattle.fleet_hub.specs.fleet_rows.declared.command.Command.{Command}
use Rattle.fleet_hub.specs.fleet_rows.declared.refusal.Cause.TheVariants.{Refused, Failures}
use Rattle.fleet_hub.specs.fleet_rows.declared.settings.Ttls.{Ttls}
use Rattle.fleet_hub.specs.core_spec.declared.event.Event.TheVariants.{Submit, Claim, Release, Apply, Supersede, Fail, Discard, Sweep, Restart}
use Rattle.fleet_hub.specs.core_spec.Commands.{answer_of}
use Rattle.fleet_hub.specs.core_spec.History as history
use Rattle.fleet_hub.specs.core_spec.History.{History, Standing, command, answer, standing, requeued, fails}
use Rattle.fleet_hub.specs.core_spec.Legal.{IsLegal}
use Rattle.fleet_hub.specs.core_spec.Pending.{pending_of, NoneIsWornOut}
use Rattle.fleet_hub.specs.core_laws.Outcomes.{Outcome, pending, applied, superseded_by, discarded, outcome, outcome_of, has_ended}
use Rattle.fleet_hub.proofs.of_core_laws.Lives.{few_queued}
use Rattle.fleet_hub.proofs.of_core_laws.Outcomes.{all_have_ended_where_nothing_waits, earlier_parts_are_legal}
use Rattle.fleet_hub.proofs.of_core_laws.Reasons.{refused_commands_are_refused, given_up_commands_failed_sixteen_times}
use Rattle.spool_run.specs.Runs.{fail_count, TakeEffect}

-- ---- failures of one command

-- events without a failure leave the count
same_fails : (r : ℕ) (start run : History) → fail_count run ≡ 0 → fails r (run ++ start) ≡ fails r start
same_fails r start [] none = refl
same_fails r start (Submit q c ∷ run) none = same_fails r start run none
same_fails r start (Claim q ∷ run) none = same_fails r start run none
same_fails r start (Release q ∷ run) none = same_fails r start run none
same_fails r start (Apply q t ∷ run) none = same_fails r start run none
same_fails r start (Supersede q p ∷ run) none = same_fails r start run none
same_fails r start (Fail q before after ∷ run) none = absurd (omega (arith, none))
same_fails r start (Discard q cause ∷ run) none = same_fails r start run none
same_fails r start (Sweep kinds m ∷ run) none = same_fails r start run none
same_fails r start (Restart ∷ run) none = same_fails r start run none

-- an event that names another receipt says nothing of this one
named_other : (b : Bool) (here there : Standing) → (if b then here else there) ≡ history.unknown → (here ≡ history.unknown → ⊥) → (b ≡ false) × (there ≡ history.unknown)
named_other true here there is known = absurd (known is)
named_other false here there is known = (refl, is)

not_counted : (b : Bool) (n : ℕ) → b ≡ false → (if b then suc n else n) ≡ n
not_counted true n is = absurd cc
not_counted false n is = refl

was_unknown : (s : Standing) → requeued s ≡ history.unknown → s ≡ history.unknown
was_unknown history.unknown is = refl
was_unknown history.queued is = absurd cc
was_unknown history.claimed is = absurd cc
was_unknown history.applied is = absurd cc
was_unknown (history.superseded p) is = absurd cc
was_unknown (history.discarded cause) is = absurd cc

-- what was never submitted never failed
never_failed : (r : ℕ) (h : History) → standing r h ≡ history.unknown → fails r h ≡ 0
never_failed r [] is = refl
never_failed r (Submit q c ∷ h) is = never_failed r h (named_other (q == r) history.queued (standing r h) is (λ e. cc)).1
never_failed r (Claim q ∷ h) is = never_failed r h (named_other (q == r) history.claimed (standing r h) is (λ e. cc)).1
never_failed r (Release q ∷ h) is = never_failed r h (named_other (q == r) history.queued (standing r h) is (λ e. cc)).1
never_failed r (Apply q t ∷ h) is = never_failed r h (named_other (q == r) history.applied (standing r h) is (λ e. cc)).1
never_failed r (Supersede q p ∷ h) is = never_failed r h (named_other (q == r) (history.superseded p) (standing r h) is (λ e. cc)).1
never_failed r (Fail q before after ∷ h) is =
    let other = named_other (q == r) history.queued (standing r h) is (λ e. cc) in
    not_counted (q == r) (fails r h) other.0 ∙ never_failed r h other.1
never_failed r (Discard q cause ∷ h) is = never_failed r h (named_other (q == r) (history.discarded cause) (standing r h) is (λ e. cc)).1
never_failed r (Sweep kinds m ∷ h) is = never_failed r h is
never_failed r (Restart ∷ h) is = never_failed r h (was_unknown (standing r h) is)

-- a command that hasn't ended failed fewer than sixteen times
few_fails : (ttls : Ttls) (r : ℕ) (start : History) → IsLegal ttls (Restart ∷ start) → NoneIsWornOut (pending_of (Restart ∷ start)) → has_ended (outcome r start) ≡ false → fails r (Restart ∷ start) < 16
few_fails ttls r start legal few unended = by_standing (standing r start) refl unended
  where
    by_standing : (s : Standing) → standing r start ≡ s → has_ended (outcome_of s) ≡ false → fails r (Restart ∷ start) < 16
    by_standing history.unknown is unended = let none : fails r start ≡ 0 = never_failed r start is in omega (arith, none)
    by_standing history.queued is unended = few_queued ttls r (Restart ∷ start) legal (ap requeued is) few
    by_standing history.claimed is unended = few_queued ttls r (Restart ∷ start) legal (ap requeued is) few
    by_standing history.applied is unended = absurd cc
    by_standing (history.superseded p) is unended = absurd cc
    by_standing (history.discarded cause) is unended = absurd cc

-- ---- what becomes of it

was_submitted : (c : Option Command) (change : Change) → option_map answer_of c ≡ Some (Ok change) → is_some c ≡ true
was_submitted None change is = absurd cc
was_submitted (Some c) change is = refl

pub takes_effect : (ttls : Ttls) (start more : History) → IsLegal ttls (more ++ Restart ∷ start) → pending_of (more ++ Restart ∷ start) ≡ [] → NoneIsWornOut (pending_of (Restart ∷ start)) → fail_count more ≡ 0
    → TakeEffect start more
takes_effect ttls start more legal nothing few calm r change unended decodes = by_outcome (outcome r (more ++ Restart ∷ start)) refl
  where
    ended : has_ended (outcome r (more ++ Restart ∷ start)) ≡ true
    ended = all_have_ended_where_nothing_waits ttls (more ++ Restart ∷ start) r legal nothing ∙ was_submitted (command r (more ++ Restart ∷ start)) change decodes

    few_now : fails r (more ++ Restart ∷ start) < 16
    few_now =
        let same = same_fails r (Restart ∷ start) more calm in
        let were = few_fails ttls r start (earlier_parts_are_legal ttls more (Restart ∷ start) legal) few unended in
        omega (arith, same, were)

    by_outcome : (o : Option Outcome) → outcome r (more ++ Restart ∷ start) ≡ o
        → (outcome r (more ++ Restart ∷ start) ≡ Some applied) ⊎ ((p : ℕ) × (outcome r (more ++ Restart ∷ start) ≡ Some (superseded_by p)))
    by_outcome None is = absurd (let apart : true ≡ false = sym ended ∙ ap has_ended is in cc)
    by_outcome (Some pending) is = absurd (let apart : true ≡ false = sym ended ∙ ap has_ended is in cc)
    by_outcome (Some applied) is = inl is
    by_outcome (Some (superseded_by p)) is = inr (p, is)
    by_outcome (Some (discarded (Refused refusal))) is =
        absurd (let refused = sym decodes ∙ refused_commands_are_refused ttls (more ++ Restart ∷ start) r refusal legal is in cc)
    by_outcome (Some (discarded Failures)) is =
        absurd (let sixteen = given_up_commands_failed_sixteen_times ttls (more ++ Restart ∷ start) r legal is in omega (arith, sixteen, few_now))
