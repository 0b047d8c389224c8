-- What a claim answers.
use Rattle.std.specs.Prelude.{◌≡◌, ◌≢◌, ◌⊎◌, ℕ, ◌+◌, ◌*◌, ◌≤◌, Bool, false, List, [], ◌∷◌, ◌++◌, length, Some, IsTrue}
use Rattle.core_state.specs.fleet_rows.declared.settings.Ttls.{Ttls}
use Rattle.core_state.specs.record_spec.declared.queue.QueueRecord.{QueueRecord}
use Rattle.core_state.specs.record_spec.declared.queue.QueueRecord.TheVariants as queue
use Rattle.core_state.specs.record_spec.Queue.{queue_text}
use Rattle.core_state.specs.fleet_keeper.Limits.{IsPast}
use Rattle.core_state.specs.core_spec.declared.event.Event.TheVariants.{Claim, Supersede}
use Rattle.core_state.specs.core_spec.History.{History, command}
use Rattle.core_state.specs.core_spec.Legal.{IsOutdated}
use Rattle.core_state.specs.core_spec.Pending.{pending_of}
use Rattle.core_state.specs.core_spec.Stands.{queue_trace}
use Rattle.core_state.specs.core_laws.Claims.{IsCandidate, IsLeastClaim}
use Rattle.core_state.specs.declared.state.CoreState.{CoreState}
use Rattle.core_state.specs.Seen.{IsFit, IsSubmitted}
use Rattle.core_state.specs.queue_log.Queued.{queued, queue_down, queue_size}
use Rattle.core_claims.specs.declared.answers.Claimed.{Claimed}
use Rattle.core_claims.specs.declared.answers.Claimed.TheVariants as claimed
use Rattle.core_claims.specs.declared.job.Job.{Job}
use Rattle.core_state.specs.log_spec.Limits.{most_log}

-- the least candidate
pub record IsLeastCandidate (q : ℕ) (history : History) : Type 0 where
  pub candidate : IsCandidate q history
  pub least : (r : ℕ) → IsCandidate r history → q ≤ r

-- the least candidates are superseded, one after the other
abbrev pub AreSupersedings : History → History → Type 0
AreSupersedings old [] = Unit {0}
AreSupersedings old (Supersede q p ∷ more) = IsLeastCandidate q (more ++ old) × AreSupersedings old more
AreSupersedings old (_ ∷ more) = ⊥

pub record Superseded (old new : History) : Type 0 where
  pub more : History
  pub only : AreSupersedings old more
  pub new_is : new ≡ more ++ old

-- the events of the record that is being written
abbrev pub IsSuperseding : History → History → Type 0
IsSuperseding upto begun = (q : ℕ) × (p : ℕ) × IsLeastCandidate q upto × (begun ≡ Supersede q p ∷ [])

-- commands were superseded; then the least candidate, which may be claimed, was claimed
pub record OneClaimed (job : Job) (ttls : Ttls) (old new : History) : Type 0 where
  pub before : History
  pub superseded : Superseded old before
  pub new_is : new ≡ Claim job.receipt ∷ before
  pub least : IsLeastClaim ttls job.receipt before
  pub command_is : command job.receipt before ≡ Some job.command

-- the least candidate is stale
pub record IsToSupersede (ttls : Ttls) (history : History) : Type 0 where
  pub q : ℕ
  pub p : ℕ
  pub least : IsLeastCandidate q history
  pub outdated : IsOutdated ttls q p history

abbrev pub ClaimGives : Claimed → Ttls → History → History → Type 0
ClaimGives (claimed.Job job) ttls old new = OneClaimed job ttls old new
ClaimGives claimed.Rest ttls old new = Superseded old new × (pending_of new ≢ []) × ((q : ℕ) → IsCandidate q new → ⊥)
ClaimGives claimed.Done ttls old new = Superseded old new × (pending_of new ≡ [])
ClaimGives claimed.QueueFault ttls old new = Superseded old new × IsToSupersede ttls new
ClaimGives claimed.Spent ttls old new = Superseded old new
ClaimGives claimed.Down ttls old new = new ≡ old
ClaimGives claimed.Memory ttls old new = Superseded old new

-- the answers at which some command is still pending
abbrev pub LeavesPending : Claimed → Type 0
LeavesPending claimed.Rest = Unit {0}
LeavesPending claimed.QueueFault = Unit {0}
LeavesPending claimed.Spent = Unit {0}
LeavesPending _ = ⊥

-- the core's own data shows that the job was submitted, and it can be settled
abbrev pub HasSubmittedJob : {D K : Type 0} → Claimed → CoreState D K → Type 0
HasSubmittedJob (claimed.Job job) core = IsSubmitted job.receipt job.command core × IsFit job.command
HasSubmittedJob _ core = Unit {0}

-- The least candidate is stale, and the log has no room for the record that supersedes it.
pub record IsOverfull (ttls : Ttls) (size : ℕ) (history : History) : Type 0 where
  pub q : ℕ
  pub p : ℕ
  pub least : IsLeastCandidate q history
  pub outdated : IsOutdated ttls q p history
  pub past : IsPast size (queue_text (queue.Superseded q p))

-- ---- in the core's own data

abbrev pub OnlySupersede : History → Type 0
OnlySupersede [] = Unit {0}
OnlySupersede (Supersede q p ∷ more) = OnlySupersede more
OnlySupersede (_ ∷ more) = ⊥

-- Only supersedings were added. The queue's log had room for their records and grew by them, to at most 2^62 bytes. If the log isn't
-- down, they are at its end.
pub record Appended {D K : Type 0} (tells : Bool) (seen : D → List ℕ) (more : History) (old new : CoreState D K) : Type 0 where
  pub only : OnlySupersede more
  pub events : new.events.list ≡ more ++ old.events.list
  pub size : queue_size new.queue ≡ queue_size old.queue + 22 * length more
  pub fits : (more ≡ []) ⊎ (queue_size old.queue + 22 ≤ most_log)
  pub within : queue_size old.queue ≤ most_log → queue_size new.queue ≤ most_log
  pub records : queue_down new.queue ≡ false → IsTrue tells → (records : List QueueRecord) → queued seen old.queue ≡ Some records → queued seen new.queue ≡ Some (records ++ queue_trace more)

-- the events of an answer
abbrev pub claim_of : Claimed → History
claim_of (claimed.Job job) = Claim job.receipt ∷ []
claim_of _ = []

-- a claim adds its supersedings, and then the claim of its answer
pub record ClaimAdds {D K : Type 0} (tells : Bool) (seen : D → List ℕ) (came : Claimed) (old new : CoreState D K) : Type 0 where
  pub more : History
  pub only : OnlySupersede more
  pub events : new.events.list ≡ claim_of came ++ (more ++ old.events.list)
  pub size : queue_size new.queue ≡ queue_size old.queue + 22 * length more
  pub within : queue_size old.queue ≤ most_log → queue_size new.queue ≤ most_log
  pub records : queue_down new.queue ≡ false → IsTrue tells → (records : List QueueRecord) → queued seen old.queue ≡ Some records → queued seen new.queue ≡ Some (records ++ queue_trace more)
  pub last : new.last ≡ old.last
