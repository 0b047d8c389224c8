-- What all calls are at the close.
use Rattle.std.proofs.Common.{◌≡◌, ℕ, false, List, length, sym, ap, subst}
use mathlib.Core.List.{IsPrefix}
use Rattle.turn_lock.specs.Holds.{AppendAll}
use Rattle.turn_lock.specs.Seen.{PassView}
use Rattle.lock_calls.proofs.Calls.{each_entry_is_of_one_call}
use Rattle.core_ends.specs.core_state.declared.state.CoreState.{CoreState}
use Rattle.core_ends.specs.core_course.Sight.{Sight}
use Rattle.hub_calls.specs.Follows.{Follows}
use Rattle.live_stage.specs.declared.note.Staged.{Staged}
use Rattle.live_stage.specs.Notes.{StageView, list_of}
use Rattle.live_stage.specs.Causes.{AreNoted}
use Rattle.live_stage.specs.StageCalls.{added, StageDoes, fresh, ClosesFrom}
use Rattle.live_stage.proofs.Lookups.{goes_on}

pub closes : {D K : Type 0} (w : Sight D K) (generation : K → ℕ) (opening : List (Staged D K)) (pass : PassView (Staged D K)) (stage : StageView D K) (closed : CoreState D K)
    → IsPrefix pass.seen (list_of stage) → IsPrefix opening (list_of stage) → AppendAll (length opening) pass.holds (length (list_of stage))
    → closed ≡ stage.core → Follows w false stage.start closed → AreNoted w stage
    → ClosesFrom w generation opening pass closed
closes {D} {K} w generation opening pass stage closed seen begins all closed_is follows causes start is =
    let begin : IsPrefix (list_of (fresh start)) (list_of stage) = subst (λ (l : List (Staged D K)). IsPrefix l (list_of stage)) is begins in
    let same = (goes_on (fresh start) stage begin).0 in
    record {
      stage = stage;
      start_is = same;
      core_is = sym closed_is;
      follows = subst (λ (core : CoreState D K). Follows w false core closed) same follows;
      causes = causes;
      begins = begin;
      seen = seen;
      calls = λ calls knows weight.
          each_entry_is_of_one_call added (StageDoes w generation) pass calls (length (list_of (fresh start))) (list_of stage) knows seen
          (subst (λ (n : ℕ). AppendAll n pass.holds (length (list_of stage))) (ap (λ (l : List (Staged D K)). length l) is) all) weight;
    }
