-- What a worker calls, over several calls.
use Rattle.std.proofs.Common.{◌≡◌, ◌≢◌, ℕ, Bool, Option, Some, None, refl, sym, ap, subst}
use Rattle.turn_lock.specs.Seen.{PassView}
use Rattle.hub_calls.specs.core_ends.core_claims.declared.answers.Claimed.{Claimed}
use Rattle.hub_calls.specs.core_ends.core_claims.declared.answers.Claimed.TheVariants as claimed
use Rattle.hub_calls.specs.core_ends.core_claims.declared.job.Job.{Job}
use Rattle.hub_calls.specs.core_ends.core_settles.declared.answers.Settled.{Settled}
use Rattle.hub_calls.specs.core_ends.core_settles.declared.answers.Settled.TheVariants as settled
use Rattle.hub_calls.specs.core_ends.core_settles.declared.answers.Verdict.{Verdict}
use Rattle.hub_calls.specs.core_ends.core_settles.Settles.{IsMemory}
use Rattle.hub_calls.specs.core_ends.core_course.Sight.{Sight}
use Rattle.hub_calls.specs.core_ends.Answers.{after_claim, after_settle}
use Rattle.hub_calls.specs.core_ends.declared.ends.WorkEnd.{WorkEnd}
use Rattle.hub_calls.specs.declared.entry.Entry.{Entry}
use Rattle.hub_calls.specs.Calls.{ClaimDoes, SettleDoes}
use Rattle.hub_calls.specs.Seen.{OneCall}
use Rattle.hub_work.specs.Ends.{claimed_job, returned_job, WorkCalls, none, claim, settle, LastCall, by_claim, by_settle, by_release, WorksOn}

-- what differs from each answer that hands a job out hands none out
pub no_job : (came : Claimed) → ((job : Job) → came ≢ claimed.Job job) → claimed_job came ≡ None
no_job (claimed.Job job) other = absurd (other job refl)
no_job claimed.Rest other = refl
no_job claimed.Done other = refl
no_job claimed.QueueFault other = refl
no_job claimed.Spent other = refl
no_job claimed.Down other = refl
no_job claimed.Memory other = refl

-- what differs from each answer that there was no memory is none, and hands no job back
no_memory : (came : Settled) → ((job : Job) (v : Verdict) → came ≢ settled.Memory job v) → (returned_job came ≡ None) × (IsMemory came → ⊥)
no_memory (settled.Memory job v) other = absurd (other job v refl)
no_memory settled.Applied other = (refl, λ is. is)
no_memory settled.Discarded other = (refl, λ is. is)
no_memory (settled.Failed attempts) other = (refl, λ is. is)
no_memory settled.StoreDown other = (refl, λ is. is)
no_memory settled.QueueFault other = (refl, λ is. is)
no_memory settled.NotClaimed other = (refl, λ is. is)
no_memory settled.Spent other = (refl, λ is. is)
no_memory settled.Down other = (refl, λ is. is)

module _ {D K : Type 0} (w : Sight D K) (generation : K → ℕ) (only : Bool) where
  module _ (held hand : Option Job) (a b : PassView (Entry D K)) (first : WorkCalls w generation only held a hand b) where
    -- calls behind others
    pub calls_join : (last : Option Job) (c : PassView (Entry D K)) → WorkCalls w generation only hand b last c → WorkCalls w generation only held a last c
    calls_join last c none = first
    calls_join last c (claim came mid after calls one) = claim came mid after (calls_join None mid calls) one
    calls_join last c (settle came job v mid after calls one) = settle came job v mid after (calls_join (Some job) mid calls) one

    -- and the last one of them is the last of all
    pub last_later : (end : WorkEnd) (c : PassView (Entry D K)) → LastCall w generation only hand end b c → LastCall w generation only held end a c
    last_later end c (by_claim came mid calls one is) = by_claim came mid (calls_join None mid calls) one is
    last_later end c (by_settle came job v mid calls one other is) = by_settle came job v mid (calls_join (Some job) mid calls) one other is
    last_later end c (by_release is job mid calls one) = by_release is job mid (calls_join (Some job) mid calls) one

    pub works_later : (end : Option WorkEnd) (c : PassView (Entry D K)) → WorksOn w generation only hand end b c → WorksOn w generation only held end a c
    works_later None c works = calls_join None c works
    works_later (Some end) c works = last_later end c works

  module _ (a b : PassView (Entry D K)) where
    -- a claim that hands a job out
    pub claims_job : (came : Claimed) (job : Job) → came ≡ claimed.Job job → OneCall w only (λ u. ClaimDoes u came) a b → WorkCalls w generation only None a (Some job) b
    claims_job came job is one = subst (λ (hand : Option Job). WorkCalls w generation only None a hand b) (ap claimed_job is) (claim came a b none one)

    pub last_claim : (came : Claimed) (end : Option WorkEnd) → ((job : Job) → came ≢ claimed.Job job) → end ≡ after_claim came → OneCall w only (λ u. ClaimDoes u came) a b → WorksOn w generation only None end a b
    last_claim came None other is one = subst (λ (hand : Option Job). WorkCalls w generation only None a hand b) (no_job came other) (claim came a b none one)
    last_claim came (Some end) other is one = by_claim came a none one (sym is)

    -- a settle that hands the job back
    pub settle_returns : (came : Settled) (job given : Job) (v u : Verdict) → came ≡ settled.Memory given u → OneCall w only (λ x. SettleDoes x generation came job v) a b
        → WorkCalls w generation only (Some job) a (Some given) b
    settle_returns came job given v u is one =
        subst (λ (hand : Option Job). WorkCalls w generation only (Some job) a hand b) (ap returned_job is) (settle came job v a b none one)

    pub last_settle : (came : Settled) (job : Job) (v : Verdict) (end : Option WorkEnd) → ((given : Job) (u : Verdict) → came ≢ settled.Memory given u) → end ≡ after_settle came
        → OneCall w only (λ x. SettleDoes x generation came job v) a b → WorksOn w generation only (Some job) end a b
    last_settle came job v None other is one = subst (λ (hand : Option Job). WorkCalls w generation only (Some job) a hand b) (no_memory came other).0 (settle came job v a b none one)
    last_settle came job v (Some end) other is one = by_settle came job v a none one (no_memory came other).1 (sym is)
