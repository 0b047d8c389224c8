-- Why a command or a sweep was refused: what the answer of a call tells of the core.
use Rattle.std.specs.Prelude.{ℕ, List, Option, None, IfSome}
use Rattle.std.specs.List.{AllByRecursion}
use mathlib.Core.List.{IsPrefix}
use Rattle.live_stage.specs.lock_calls.turn_lock.Seen.{PassView}
use Rattle.live_stage.specs.core_ends.fleet_rows.declared.command.Command.{Command}
use Rattle.live_stage.specs.core_ends.core_state.declared.state.CoreState.{CoreState}
use Rattle.live_stage.specs.core_ends.core_course.Sight.{Sight}
use Rattle.live_stage.specs.declared.note.Refused.{Refused}
use Rattle.live_stage.specs.declared.note.Staged.{Staged}
use Rattle.live_stage.specs.Causes.{IsNoted, AreNoted}
use Rattle.live_stage.specs.Notes.{StageView, list_of}
use Rattle.live_stage.specs.StageCalls.{StageCall, looked, was_submitted, was_swept, was_claimed, was_settled, was_released, submit_note, sweep_note, DoesAtCore, KnowsStageCalls}

-- the note that a call leaves, if it leaves one
abbrev pub note_of : StageCall → Option (Refused Command)
note_of (looked n) = None
note_of (was_submitted c came n) = submit_note came c
note_of (was_swept kinds m came n) = sweep_note came kinds m
note_of (was_claimed came events) = None
note_of (was_settled job v came events) = None
note_of (was_released job events) = None

module _ {D K : Type 0} (w : Sight D K) (generation : K → ℕ) where
  -- The call led from the core that its hold found to the one that it left. So that the queue is full, that the queue or the store is
  -- spent, and that the core is down, is told exactly by the core found. A fault that was told is counted at the closed stage. If the
  -- core was down, or went down, the closed one is down.
  pub record IsCaused (closed : StageView D K) (call : StageCall) : Type 0 where
    pub found : CoreState D K
    pub left : CoreState D K
    pub did : DoesAtCore w generation call found left
    pub noted : IfSome (note_of call) (IsNoted w closed.start closed.core)

  -- each call of a pass is caused, at whatever stage goes on from what the pass has seen
  abbrev pub EachCallIsCaused : Type 0
  EachCallIsCaused =
      (pass : PassView (Staged D K)) (calls : List StageCall) (closed : StageView D K) → KnowsStageCalls w generation pass calls → IsPrefix pass.seen (list_of closed) → AreNoted w closed
      → AllByRecursion (IsCaused closed) calls
