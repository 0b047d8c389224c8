-- Which commands may be claimed.
use Rattle.std.specs.Prelude.{◌≡◌, ◌≢◌, ℕ, ℤ, ◌≤◌, true, false, Option, Some, None}
use Rattle.std.specs.Option.{option_map}
use Rattle.std.specs.Ordering.{is_lt}
use Rattle.core_machine.specs.fleet_rows.Rank.{rank_cmp}
use Rattle.core_machine.specs.fleet_rows.declared.command.Group.{Group}
use Rattle.core_machine.specs.fleet_rows.declared.rank.Rank.{Rank}
use Rattle.core_machine.specs.fleet_rows.declared.settings.Ttls.{Ttls}
use Rattle.core_machine.specs.history_spec.Trace.{rank_of}
use Rattle.core_machine.specs.core_spec.declared.entry.Entry.{Entry}
use Rattle.core_machine.specs.core_spec.Commands.{Key}
use Rattle.core_machine.specs.core_spec.History.{History, command, key, queued, claimed, standing}
use Rattle.core_machine.specs.core_spec.Legal.{IsLegal, IsClaimable, IsOutdated, newest_of, rank_at}
use Rattle.core_machine.specs.core_spec.Pending.{pending_of, NoneIsWornOut}
use Rattle.core_machine.specs.Claims.{first_candidate, is_older}

-- the rank of the newest applied command of the group
abbrev pub newest_rank : Ttls → History → Group → Option Rank
newest_rank ttls history group = option_map rank_of (newest_of ttls group history)

-- no command of the group is claimed, and no queued one has a greater rank
pub record IsUnheld (group : Group) (rank : Rank) (history : History) : Type 0 where
  pub alone : (q : ℕ) (stamp : ℤ) → key q history ≡ Some (group, stamp) → standing q history ≢ claimed
  pub greatest : (q : ℕ) (stamp : ℤ) → key q history ≡ Some (group, stamp) → standing q history ≡ queued → is_lt (rank_cmp rank (rank_at stamp q)) ≡ false

abbrev pub IfUnheld : ℕ → Option Key → History → Type 0
IfUnheld r None history = Unit {0}
IfUnheld r (Some k) history = IsUnheld k.0 (rank_at k.1 r) history

-- A candidate is queued, and no command of its group holds it back. It may be claimed, unless it is stale.
pub record IsCandidate (r : ℕ) (history : History) : Type 0 where
  pub queued : standing r history ≡ queued
  pub unheld : IfUnheld r (key r history) history

abbrev pub ClaimableCommandsAreCandidates : Type 0
ClaimableCommandsAreCandidates = (ttls : Ttls) (r : ℕ) (history : History) → IsClaimable ttls r history → IsCandidate r history

-- the command may be claimed, and no candidate has a smaller receipt
pub record IsLeastClaim (ttls : Ttls) (r : ℕ) (history : History) : Type 0 where
  pub claimable : IsClaimable ttls r history
  pub least : (q : ℕ) → IsCandidate q history → r ≤ q

abbrev pub FirstCandidatesAreClaimable : Type 0
FirstCandidatesAreClaimable =
    (ttls : Ttls) (history : History) (e : Entry) → IsLegal ttls history → NoneIsWornOut (pending_of history)
    → first_candidate (pending_of history) (pending_of history) ≡ Some e → is_older e.group e.receipt (newest_rank ttls history) ≡ false
    → IsLeastClaim ttls e.receipt history × (command e.receipt history ≡ Some e.command)

-- if the first candidate is stale, the newest applied command of its group supersedes it
abbrev pub OlderCandidatesAreSuperseded : Type 0
OlderCandidatesAreSuperseded =
    (ttls : Ttls) (history : History) (e : Entry) (k : Key) (rank : Rank) → IsLegal ttls history
    → first_candidate (pending_of history) (pending_of history) ≡ Some e → e.group ≡ Some k
    → newest_rank ttls history k.0 ≡ Some rank → is_lt (rank_cmp (rank_at k.1 e.receipt) rank) ≡ true
    → IsOutdated ttls e.receipt rank.receipt history

-- if no candidate is found, there is none
abbrev pub NoneFoundIsNone : Type 0
NoneFoundIsNone =
    (ttls : Ttls) (history : History) (q : ℕ) → IsLegal ttls history
    → first_candidate (pending_of history) (pending_of history) ≡ None → IsCandidate q history → ⊥
