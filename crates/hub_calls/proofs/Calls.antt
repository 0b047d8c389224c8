-- One hold is one call.
use Rattle.std.proofs.Common.{◌≡◌, ◌∙◌, ℕ, Bool, [], ◌∷◌, ◌++◌, length, sym, ap, subst}
use mathlib.Core.List.{IsPrefix}
use Rattle.turn_lock.specs.Holds.{hold, with_number}
use Rattle.turn_lock.specs.Seen.{PassView}
use Rattle.core_ends.specs.core_claims.declared.answers.Claimed.{Claimed}
use Rattle.core_ends.specs.core_claims.declared.answers.Claimed.TheVariants as claimed
use Rattle.core_ends.specs.core_claims.Claims.{HasSubmittedJob}
use Rattle.core_ends.specs.core_state.declared.state.CoreState.{CoreState}
use Rattle.hub_calls.specs.declared.entry.Entry.{Entry}
use Rattle.core_ends.specs.core_course.Sight.{Sight}
use Rattle.hub_calls.specs.Entries.{entries}
use Rattle.hub_calls.specs.Follows.{Follows}
use Rattle.hub_calls.specs.Seen.{FollowedCore, HasJob, list_of, OneCall}
use Rattle.hub_calls.proofs.Entries.{seen_submitted}

module _ {D K : Type 0} (w : Sight D K) (only : Bool) (Did : Sight D K → CoreState D K → CoreState D K → Type 0) (before after : PassView (Entry D K)) where
  pub one_call : (n : ℕ) (x y shown left : FollowedCore D K) → shown ≡ x → left ≡ y → Follows w only shown.start shown.core → Did w shown.core left.core → left.start ≡ shown.start
      → IsPrefix before.seen (list_of x) → IsPrefix (list_of x) (list_of y) → with_number n before.holds ≡ 0 → after.seen ≡ list_of y
      → after.holds ≡ before.holds ++ hold n (length (list_of x)) (length (list_of y)) ∷ [] → OneCall w only Did before after
  one_call n x y shown left shows leaves follows did start begins goes_on new_number seen holds =
      let same : x.start ≡ y.start = sym (ap (λ (f : FollowedCore D K). f.start) shows) ∙ (sym start ∙ ap (λ (f : FollowedCore D K). f.start) leaves) in
      record {
        number = n;
        start = y.start;
        found = x.core;
        left = y.core;
        follows = subst (λ (s : CoreState D K). Follows w only s x.core) same (subst (λ (f : FollowedCore D K). Follows w only f.start f.core) shows follows);
        did = subst (λ (f : FollowedCore D K). Did w x.core f.core) leaves (subst (λ (f : FollowedCore D K). Did w f.core left.core) shows did);
        begins = subst (λ (s : CoreState D K). IsPrefix before.seen (entries s x.core.events.list)) same begins;
        goes_on = subst (λ (s : CoreState D K). IsPrefix (entries s x.core.events.list) (list_of y)) same goes_on;
        new_number = new_number;
        seen = seen;
        holds = holds ∙ ap (λ (s : CoreState D K). before.holds ++ hold n (length (entries s x.core.events.list)) (length (list_of y)) ∷ []) same;
      }

-- a job that was claimed can be settled by any pass that has seen its claim
module _ {D K : Type 0} (start core : CoreState D K) (found : core.found.queue.value ≡ start.found.queue.value) where
  pub job_seen : (came : Claimed) → HasSubmittedJob came core → HasJob came (entries start core.events.list)
  job_seen (claimed.Job job) h = (seen_submitted job.receipt job.command start core.found.queue.value core.events.list found h.0, h.1)
  job_seen claimed.Rest h = tt
  job_seen claimed.Done h = tt
  job_seen claimed.QueueFault h = tt
  job_seen claimed.Spent h = tt
  job_seen claimed.Down h = tt
  job_seen claimed.Memory h = tt
