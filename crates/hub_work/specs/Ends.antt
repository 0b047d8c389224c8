-- What a worker calls, and what ended its work.
use Rattle.std.specs.Prelude.{◌≡◌, ℕ, Bool, Option, Some, None}
use Rattle.turn_lock.specs.Seen.{PassView}
use Rattle.hub_calls.specs.core_ends.core_claims.declared.answers.Claimed.{Claimed}
use Rattle.hub_calls.specs.core_ends.core_claims.declared.answers.Claimed.TheVariants as claimed
use Rattle.hub_calls.specs.core_ends.core_claims.declared.job.Job.{Job}
use Rattle.hub_calls.specs.core_ends.core_settles.declared.answers.Settled.{Settled}
use Rattle.hub_calls.specs.core_ends.core_settles.declared.answers.Settled.TheVariants as settled
use Rattle.hub_calls.specs.core_ends.core_settles.declared.answers.Verdict.{Verdict}
use Rattle.hub_calls.specs.core_ends.core_settles.Settles.{IsMemory}
use Rattle.hub_calls.specs.core_ends.core_course.Sight.{Sight}
use Rattle.hub_calls.specs.core_ends.Answers.{after_claim, after_settle}
use Rattle.hub_calls.specs.core_ends.declared.ends.WorkEnd.{WorkEnd}
use Rattle.hub_calls.specs.core_ends.declared.ends.WorkEnd.TheVariants.{Memory}
use Rattle.hub_calls.specs.declared.entry.Entry.{Entry}
use Rattle.hub_calls.specs.Calls.{ClaimDoes, ReleaseDoes, SettleDoes}
use Rattle.hub_calls.specs.Seen.{OneCall}

-- ---- the job at hand

-- the job that a claim hands out
abbrev pub claimed_job : Claimed → Option Job
claimed_job (claimed.Job job) = Some job
claimed_job _ = None

-- the job that a settle hands back if there is no memory
abbrev pub returned_job : Settled → Option Job
returned_job (settled.Memory job v) = Some job
returned_job _ = None

-- ---- call by call

-- The calls of a worker, from the job at hand at the start, if any, to the job at hand after them. A worker claims only without a
-- job, and settles only the job at hand. It queues a job again only as its last call.
pub data WorkCalls {D K : Type 0} (w : Sight D K) (generation : K → ℕ) (only_work : Bool) (held : Option Job) (before : PassView (Entry D K)) : Option Job → PassView (Entry D K) → Type 0 where
  none : WorkCalls w generation only_work held before held before
  claim : (came : Claimed) (mid after : PassView (Entry D K)) → WorkCalls w generation only_work held before None mid
      → OneCall w only_work (λ u. ClaimDoes u came) mid after → WorkCalls w generation only_work held before (claimed_job came) after
  settle : (came : Settled) (job : Job) (v : Verdict) (mid after : PassView (Entry D K)) → WorkCalls w generation only_work held before (Some job) mid
      → OneCall w only_work (λ u. SettleDoes u generation came job v) mid after → WorkCalls w generation only_work held before (returned_job came) after

-- The last call is a claim or a settle that answered the end. Or there was no memory, and the last call queues the job at hand
-- again; after a settle that is the job it handed back.
pub data LastCall {D K : Type 0} (w : Sight D K) (generation : K → ℕ) (only_work : Bool) (held : Option Job) (end : WorkEnd) (before after : PassView (Entry D K)) : Type 0 where
  by_claim : (came : Claimed) (mid : PassView (Entry D K)) → WorkCalls w generation only_work held before None mid → OneCall w only_work (λ u. ClaimDoes u came) mid after → after_claim came ≡ Some end
      → LastCall w generation only_work held end before after
  by_settle : (came : Settled) (job : Job) (v : Verdict) (mid : PassView (Entry D K)) → WorkCalls w generation only_work held before (Some job) mid
      → OneCall w only_work (λ u. SettleDoes u generation came job v) mid after → (IsMemory came → ⊥) → after_settle came ≡ Some end → LastCall w generation only_work held end before after
  by_release : end ≡ Memory → (job : Job) (mid : PassView (Entry D K)) → WorkCalls w generation only_work held before (Some job) mid → OneCall w only_work (λ u. ReleaseDoes u job) mid after
      → LastCall w generation only_work held end before after

-- such calls, the last of which ended the work; or calls that leave no job at hand, so the work may go on
abbrev pub WorksOn : {D K : Type 0} → Sight D K → (K → ℕ) → Bool → Option Job → Option WorkEnd → PassView (Entry D K) → PassView (Entry D K) → Type 0
WorksOn w generation only_work held None before after = WorkCalls w generation only_work held before None after
WorksOn w generation only_work held (Some end) before after = LastCall w generation only_work held end before after
