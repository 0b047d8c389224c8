-- What contracts see of a core under the lock, and what one call tells a pass.
use Rattle.std.specs.Prelude.{◌≡◌, ℕ, Bool, List, [], ◌∷◌, ◌++◌, length}
use mathlib.Core.List.{IsPrefix}
use Rattle.turn_lock.specs.Holds.{hold, with_number}
use Rattle.turn_lock.specs.Seen.{PassView}
use Rattle.core_ends.specs.core_claims.declared.answers.Claimed.{Claimed}
use Rattle.core_ends.specs.core_claims.declared.answers.Claimed.TheVariants as claimed
use Rattle.core_ends.specs.core_state.declared.state.CoreState.{CoreState}
use Rattle.core_ends.specs.core_state.Seen.{IsFit}
use Rattle.core_ends.specs.core_course.Sight.{Sight}
use Rattle.hub_calls.specs.declared.entry.Entry.{Entry}
use Rattle.hub_calls.specs.Entries.{entries, WasSubmitted}
use Rattle.hub_calls.specs.Follows.{Follows}

-- a core, and how it came under the lock
pub record FollowedCore (D K : Type 0) : Type 0 where
  pub start : CoreState D K
  pub core : CoreState D K

-- the list of such a core
abbrev pub list_of : {D K : Type 0} → FollowedCore D K → List (Entry D K)
list_of f = entries f.start f.core.events.list

-- The pass has the same lock and the same spares. What it has seen and held starts with what it had seen and held before.
abbrev pub PassGoesOn : {E : Type 0} → PassView E → PassView E → Type 0
PassGoesOn before after =
    (after.lock ≡ before.lock) × (after.spares ≡ before.spares) × IsPrefix before.seen after.seen × IsPrefix before.holds after.holds

-- One call. Earlier calls led from the core at the start to the core found, whose list starts with all that the pass had seen.
-- This call led on to the core left, whose list starts with that of the core found. The pass has then seen that list, and has one
-- more hold.
pub record OneCall {D K : Type 0} (w : Sight D K) (only_work : Bool) (Did : Sight D K → CoreState D K → CoreState D K → Type 0) (before after : PassView (Entry D K)) : Type 0 where
  pub number : ℕ
  pub start : CoreState D K
  pub found : CoreState D K
  pub left : CoreState D K
  pub follows : Follows w only_work start found
  pub did : Did w found left
  pub begins : IsPrefix before.seen (entries start found.events.list)
  pub goes_on : IsPrefix (entries start found.events.list) (entries start left.events.list)
  pub new_number : with_number number before.holds ≡ 0
  pub seen : after.seen ≡ entries start left.events.list
  pub holds : after.holds ≡ before.holds ++ hold number (length (entries start found.events.list)) (length (entries start left.events.list)) ∷ []

-- a claimed job can be settled: what was seen shows that it was submitted
abbrev pub HasJob : {D K : Type 0} → Claimed → List (Entry D K) → Type 0
HasJob (claimed.Job job) seen = WasSubmitted job.receipt job.command seen × IsFit job.command
HasJob _ seen = Unit {0}

-- the calls of all passes led from the core that the hub started with to the closed one
abbrev pub ClosedFrom : {D K : Type 0} → Sight D K → Bool → List (Entry D K) → CoreState D K → Type 0
ClosedFrom {D} {K} w only_work opening closed = (start : CoreState D K) → opening ≡ entries start start.events.list → Follows w only_work start closed

-- the closed core's list starts with the list at the start, and with what was seen
abbrev pub SeenBy : {D K : Type 0} → List (Entry D K) → List (Entry D K) → CoreState D K → Type 0
SeenBy {D} {K} opening seen closed = (start : CoreState D K) × IsPrefix opening (entries start closed.events.list) × IsPrefix seen (entries start closed.events.list)
