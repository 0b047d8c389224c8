-- The events that an answer adds are those of one call.
use Rattle.std.proofs.Common.{ℕ, Bool, true, false, [], ◌∷◌, ◌++◌, refl}
use Rattle.core_course.specs.Courses.{OnlySupersedes, OnlyReleases, AreOfOneCall, no_event, one_event, gives_up, supersedes, claims, releases}
use Rattle.command_core.specs.core_spec.declared.event.Event.TheVariants.{Submit, Claim, Release, Apply, Supersede, Fail, Discard, Sweep, Restart}
use Rattle.command_core.specs.core_spec.History.{History}
use Rattle.command_core.specs.core_claims.Claims.{OnlySupersede, claim_of}
use Rattle.command_core.specs.core_claims.Frees.{AreReleases}
use Rattle.command_core.specs.core_claims.declared.answers.Claimed.{Claimed}
use Rattle.command_core.specs.core_claims.declared.answers.Claimed.TheVariants as claimed
use Rattle.command_core.specs.core_claims.declared.job.Job.{Job}
use Rattle.command_core.specs.core_settles.Settles.{settled_events}
use Rattle.command_core.specs.core_settles.declared.answers.Settled.{Settled}
use Rattle.command_core.specs.core_settles.declared.answers.Settled.TheVariants as settled
use Rattle.command_core.specs.core_settles.declared.answers.Verdict.{Verdict}
use Rattle.command_core.specs.core_settles.declared.answers.Verdict.TheVariants as verdict

pub only_supersedes : (more : History) → OnlySupersede more → OnlySupersedes more
only_supersedes [] h = tt
only_supersedes (Submit r c ∷ more) h = absurd h
only_supersedes (Claim r ∷ more) h = absurd h
only_supersedes (Release r ∷ more) h = absurd h
only_supersedes (Apply r t ∷ more) h = absurd h
only_supersedes (Supersede q p ∷ more) h = only_supersedes more h
only_supersedes (Fail r before after ∷ more) h = absurd h
only_supersedes (Discard r why ∷ more) h = absurd h
only_supersedes (Sweep kinds m ∷ more) h = absurd h
only_supersedes (Restart ∷ more) h = absurd h

only_releases : (more : History) → AreReleases more → OnlyReleases more
only_releases [] h = tt
only_releases (Submit r c ∷ more) h = absurd h
only_releases (Claim r ∷ more) h = absurd h
only_releases (Release r ∷ more) h = only_releases more h
only_releases (Apply r t ∷ more) h = absurd h
only_releases (Supersede q p ∷ more) h = absurd h
only_releases (Fail r before after ∷ more) h = absurd h
only_releases (Discard r why ∷ more) h = absurd h
only_releases (Sweep kinds m ∷ more) h = absurd h
only_releases (Restart ∷ more) h = absurd h

pub released_at_once : (more : History) → AreReleases more → AreOfOneCall more
released_at_once more h = releases (only_releases more h)

pub claimed_at_once : (came : Claimed) (more : History) → OnlySupersede more → AreOfOneCall (claim_of came ++ more)
claimed_at_once (claimed.Job job) more h = claims job.receipt more (only_supersedes more h) refl
claimed_at_once claimed.Rest more h = supersedes (only_supersedes more h)
claimed_at_once claimed.Done more h = supersedes (only_supersedes more h)
claimed_at_once claimed.QueueFault more h = supersedes (only_supersedes more h)
claimed_at_once claimed.Spent more h = supersedes (only_supersedes more h)
claimed_at_once claimed.Down more h = supersedes (only_supersedes more h)
claimed_at_once claimed.Memory more h = supersedes (only_supersedes more h)

pub settled_at_once : (came : Settled) (job : Job) (v : Verdict) (before now : ℕ) (undone down : Bool) → AreOfOneCall (settled_events came job v before now undone down)
settled_at_once settled.Applied job v before now undone down = one_event _ refl
settled_at_once settled.Discarded job (verdict.Change change) before now undone down = gives_up job.receipt before now refl
settled_at_once settled.Discarded job (verdict.Refused refusal) before now undone down = one_event _ refl
settled_at_once (settled.Failed attempts) job v before now undone down = one_event _ refl
settled_at_once settled.StoreDown job v before now undone down = no_event refl
settled_at_once settled.QueueFault job v before now true down = one_event _ refl
settled_at_once settled.QueueFault job v before now false true = no_event refl
settled_at_once settled.QueueFault job v before now false false = one_event _ refl
settled_at_once settled.NotClaimed job v before now undone down = no_event refl
settled_at_once settled.Spent job v before now undone down = one_event _ refl
settled_at_once settled.Down job v before now undone down = no_event refl
settled_at_once (settled.Memory given u) job v before now undone down = no_event refl
