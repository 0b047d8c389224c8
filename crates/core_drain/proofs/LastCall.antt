-- Which call was the last, over the calls before it.
use Rattle.std.proofs.Common.{◌≡◌, Option, Some, None, refl, sym, subst}
use Rattle.core_ends.specs.fleet_ports.declared.disk.Disk as disk
use Rattle.core_ends.specs.fleet_keeper.declared.keeper.Keeper as keeper
use Rattle.core_ends.specs.core_state.declared.state.CoreState.{CoreState}
use Rattle.core_ends.specs.core_claims.declared.answers.Claimed.{Claimed}
use Rattle.core_ends.specs.core_claims.declared.answers.Claimed.TheVariants as claimed
use Rattle.core_ends.specs.core_claims.declared.job.Job.{Job}
use Rattle.core_ends.specs.core_claims.Calls.{CoreClaims}
use Rattle.core_ends.specs.core_settles.declared.answers.Settled.{Settled}
use Rattle.core_ends.specs.core_settles.declared.answers.Settled.TheVariants as settled
use Rattle.core_ends.specs.core_settles.declared.answers.Verdict.{Verdict}
use Rattle.core_ends.specs.core_settles.Call.{CoreSettles}
use Rattle.core_ends.specs.core_course.Sight.{sight_of}
use Rattle.core_ends.specs.core_course.Work.{Worked}
use Rattle.core_ends.proofs.of_core_course.Stretches.{worked_on}
use Rattle.core_ends.proofs.Releases.{nothing_works}
use Rattle.core_ends.specs.Answers.{after_claim, after_settle}
use Rattle.core_drain.specs.LastCall.{EndedBy, by_claim, by_settle, EndsByCall, TurnEndsByCall}
use Rattle.core_ends.specs.declared.ends.WorkEnd.{WorkEnd}
use Rattle.core_ends.specs.declared.ends.WorkEnd.TheVariants as end

module _ {D K : Type 0} (d : disk.Ghosts D) (k : keeper.Ghosts K) where
  -- work before the last call
  module _ (a b c : CoreState D K) (first : Worked (sight_of d k) a b) where
    ended_later : (e : WorkEnd) → EndedBy d k e b c → EndedBy d k e a c
    ended_later e (by_claim came mid worked does is) = by_claim came mid (worked_on (sight_of d k) a b mid first worked) does is
    ended_later e (by_settle came job v mid worked does is) = by_settle came job v mid (worked_on (sight_of d k) a b mid first worked) does is

    pub by_call_later : (e : WorkEnd) → EndsByCall d k e b c → EndsByCall d k e a c
    by_call_later end.Done h = ended_later end.Done h
    by_call_later end.QueueFault h = ended_later end.QueueFault h
    by_call_later end.StoreDown h = ended_later end.StoreDown h
    by_call_later end.Spent h = ended_later end.Spent h
    by_call_later end.Down h = h
    by_call_later end.Memory h = h

    pub turn_later : (e : Option WorkEnd) → TurnEndsByCall d k e b c → TurnEndsByCall d k e a c
    turn_later None h = h
    turn_later (Some e) h = by_call_later e h

  -- the last call alone
  module _ (old new : CoreState D K) where
    pub last_claim : (came : Claimed) (e : Option WorkEnd) → e ≡ after_claim came → CoreClaims d k came old new → TurnEndsByCall d k e old new
    last_claim came e is does = subst (λ (x : Option WorkEnd). TurnEndsByCall d k x old new) (sym is) (by_answer came does)
      where
        by_answer : (came : Claimed) → CoreClaims d k came old new → TurnEndsByCall d k (after_claim came) old new
        by_answer (claimed.Job job) does = tt
        by_answer claimed.Rest does = tt
        by_answer claimed.Done does = by_claim claimed.Done old (nothing_works (sight_of d k) old old refl) does refl
        by_answer claimed.QueueFault does = by_claim claimed.QueueFault old (nothing_works (sight_of d k) old old refl) does refl
        by_answer claimed.Spent does = by_claim claimed.Spent old (nothing_works (sight_of d k) old old refl) does refl
        by_answer claimed.Down does = tt
        by_answer claimed.Memory does = tt

    pub last_settle : (came : Settled) (job : Job) (v : Verdict) (e : Option WorkEnd) → e ≡ after_settle came → CoreSettles d k came job v old new → TurnEndsByCall d k e old new
    last_settle came job v e is does = subst (λ (x : Option WorkEnd). TurnEndsByCall d k x old new) (sym is) (by_answer came does)
      where
        by_answer : (came : Settled) → CoreSettles d k came job v old new → TurnEndsByCall d k (after_settle came) old new
        by_answer settled.Applied does = tt
        by_answer settled.Discarded does = tt
        by_answer (settled.Failed attempts) does = tt
        by_answer settled.StoreDown does = by_settle settled.StoreDown job v old (nothing_works (sight_of d k) old old refl) does refl
        by_answer settled.QueueFault does = by_settle settled.QueueFault job v old (nothing_works (sight_of d k) old old refl) does refl
        by_answer settled.NotClaimed does = tt
        by_answer settled.Spent does = by_settle settled.Spent job v old (nothing_works (sight_of d k) old old refl) does refl
        by_answer settled.Down does = tt
        by_answer (settled.Memory given u) does = tt

    pub memory_ends : (e : WorkEnd) → e ≡ end.Memory → TurnEndsByCall d k (Some e) old new
    memory_ends e is = subst (λ (x : WorkEnd). TurnEndsByCall d k (Some x) old new) (sym is) tt
