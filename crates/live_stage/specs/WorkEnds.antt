-- How a worker goes on after a call, and which last call ends its work.
use Rattle.std.specs.Prelude.{◌≡◌, ℕ, List, [], ◌∷◌, ◌++◌, Option, Some, None}
use Rattle.turn_lock.specs.Seen.{PassView}
use Rattle.core_ends.specs.core_claims.declared.answers.Claimed.{Claimed}
use Rattle.core_ends.specs.core_claims.declared.answers.Claimed.TheVariants as claimed
use Rattle.core_ends.specs.core_claims.declared.job.Job.{Job}
use Rattle.core_ends.specs.core_settles.declared.answers.Settled.{Settled}
use Rattle.core_ends.specs.core_settles.declared.answers.Settled.TheVariants as settled
use Rattle.core_ends.specs.core_course.Sight.{Sight}
use Rattle.live_stage.specs.declared.note.Staged.{Staged}
use Rattle.live_stage.specs.declared.worker.Next.{Next}
use Rattle.live_stage.specs.declared.worker.Next.TheVariants.{Claim, Rest, Pause, Stop}
use Rattle.live_stage.specs.declared.worker.WorkStop.{WorkStop}
use Rattle.live_stage.specs.declared.worker.WorkStop.TheVariants as stop
use Rattle.live_stage.specs.StageCalls.{StageCall, looked, was_submitted, was_swept, was_claimed, was_settled, was_released, AreTurns, KnowsStageCalls, WorksOn}

-- After a claim: there is a job, nothing may be claimed, the claim was refused, or the core is down.
abbrev pub next_of_claim : Claimed → Next
next_of_claim (claimed.Job job) = Claim
next_of_claim claimed.Rest = Rest
next_of_claim claimed.Done = Rest
next_of_claim claimed.QueueFault = Pause
next_of_claim claimed.Spent = Pause
next_of_claim claimed.Down = Stop
next_of_claim claimed.Memory = Pause

-- After a settle. Without memory it hands the job back, so a release follows.
abbrev pub next_of_settle : Settled → Next
next_of_settle settled.Applied = Claim
next_of_settle settled.Discarded = Claim
next_of_settle (settled.Failed attempts) = Claim
next_of_settle settled.StoreDown = Stop
next_of_settle settled.QueueFault = Pause
next_of_settle settled.NotClaimed = Claim
next_of_settle settled.Spent = Pause
next_of_settle settled.Down = Stop
next_of_settle (settled.Memory job v) = Pause

-- after any call of a worker; it makes no others
abbrev pub next_of : StageCall → Next
next_of (looked n) = Claim
next_of (was_submitted c came n) = Claim
next_of (was_swept kinds m came n) = Claim
next_of (was_claimed came events) = next_of_claim came
next_of (was_settled job v came events) = next_of_settle came
next_of (was_released job events) = Pause

-- what a worker would do next that stops so
abbrev pub next_at : WorkStop → Next
next_at (stop.Done token) = Rest
next_at (stop.Paused token) = Pause
next_at stop.Down = Stop

-- `closing` was set, unless the core is down: the token is of it
abbrev pub IsClosed : ℕ → WorkStop → Type 0
IsClosed closing (stop.Done token) = token.of ≡ closing
IsClosed closing (stop.Paused token) = token.of ≡ closing
IsClosed closing stop.Down = Unit {0}

module _ {D K : Type 0} (w : Sight D K) (generation : K → ℕ) where
  -- The pass goes on by turns of a worker, from the job at hand until none is. After the last call the worker goes on so.
  abbrev pub TurnsTo : Next → Option Job → PassView (Staged D K) → PassView (Staged D K) → Type 0
  TurnsTo next held before after =
      (calls : List StageCall) → KnowsStageCalls w generation before calls
      → (more : List StageCall) × (last : StageCall) × (next_of last ≡ next) × AreTurns held (more ++ last ∷ []) None × KnowsStageCalls w generation after (calls ++ (more ++ last ∷ []))

  -- turns after which the worker goes on, or the last call of which stops it
  abbrev pub GoesOnOr : Option WorkStop → PassView (Staged D K) → PassView (Staged D K) → Type 0
  GoesOnOr None before after = WorksOn w generation None before None after
  GoesOnOr (Some stop) before after = TurnsTo (next_at stop) None before after
