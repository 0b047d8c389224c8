-- The call that ended a drain.
use Rattle.std.specs.Prelude.{◌≡◌, Option, Some, None}
use Rattle.core_ends.specs.fleet_ports.declared.disk.Disk as disk
use Rattle.core_ends.specs.fleet_keeper.declared.keeper.Keeper as keeper
use Rattle.core_ends.specs.core_state.declared.state.CoreState.{CoreState}
use Rattle.core_ends.specs.core_claims.declared.answers.Claimed.{Claimed}
use Rattle.core_ends.specs.core_claims.declared.job.Job.{Job}
use Rattle.core_ends.specs.core_claims.Calls.{CoreClaims}
use Rattle.core_ends.specs.core_settles.declared.answers.Settled.{Settled}
use Rattle.core_ends.specs.core_settles.declared.answers.Verdict.{Verdict}
use Rattle.core_ends.specs.core_settles.Call.{CoreSettles}
use Rattle.core_ends.specs.core_course.Sight.{sight_of}
use Rattle.core_ends.specs.core_course.Work.{Worked}
use Rattle.core_ends.specs.Answers.{after_claim, after_settle}
use Rattle.core_ends.specs.declared.ends.WorkEnd.{WorkEnd}
use Rattle.core_ends.specs.declared.ends.WorkEnd.TheVariants.{Down, Memory}

-- Work led to some core, and a claim or a settle of it, the last call, answered the end.
pub data EndedBy {D K : Type 0} (d : disk.Ghosts D) (k : keeper.Ghosts K) (end : WorkEnd) (old new : CoreState D K) : Type 0 where
  by_claim : (came : Claimed) (mid : CoreState D K) → Worked (sight_of d k) old mid → CoreClaims d k came mid new → after_claim came ≡ Some end → EndedBy d k end old new
  by_settle : (came : Settled) (job : Job) (v : Verdict) (mid : CoreState D K) → Worked (sight_of d k) old mid → CoreSettles d k came job v mid new → after_settle came ≡ Some end → EndedBy d k end old new

-- The last call answered the end, unless the core was down at first or there was no memory. So a fault that was got over is no end.
abbrev pub EndsByCall : {D K : Type 0} → disk.Ghosts D → keeper.Ghosts K → WorkEnd → CoreState D K → CoreState D K → Type 0
EndsByCall d k Down old new = Unit {0}
EndsByCall d k Memory old new = Unit {0}
EndsByCall d k end old new = EndedBy d k end old new

-- the same of a turn, if it is the last one
abbrev pub TurnEndsByCall : {D K : Type 0} → disk.Ghosts D → keeper.Ghosts K → Option WorkEnd → CoreState D K → CoreState D K → Type 0
TurnEndsByCall d k None old new = Unit {0}
TurnEndsByCall d k (Some end) old new = EndsByCall d k end old new
