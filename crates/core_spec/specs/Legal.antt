-- Which event may come next in a history.
use Rattle.std.specs.Prelude.{◌≡◌, ◌≢◌, ◌⊎◌, ℕ, suc, ◌<◌, ◌≤◌, ◌^◌, ◌-◌, ℤ, [], ◌∷◌, length, false, true, Option, Some, None, Ok, Err}
use Rattle.std.specs.Ordering.{is_lt}
use Rattle.table_spec.specs.fleet_rows.Rank.{rank_cmp}
use Rattle.table_spec.specs.fleet_rows.declared.change.Change.{Change}
use Rattle.table_spec.specs.fleet_rows.declared.command.Command.{Command}
use Rattle.table_spec.specs.fleet_rows.declared.command.Group.{Group}
use Rattle.table_spec.specs.fleet_rows.declared.rank.Rank.{Rank}
use Rattle.table_spec.specs.fleet_rows.declared.refusal.Cause.TheVariants.{Refused, Failures}
use Rattle.table_spec.specs.fleet_rows.declared.settings.Ttls.{Ttls}
use Rattle.table_spec.specs.history_spec.Life.{life}
use Rattle.table_spec.specs.history_spec.Node.{newest}
use Rattle.table_spec.specs.fleet_rows.declared.applied.Applied.{Applied}
use Rattle.table_spec.specs.history_spec.Lawful.{HasStamp}
use Rattle.table_spec.specs.history_spec.Trace.{rank_of}
use Rattle.core_spec.specs.declared.event.Event.{Event}
use Rattle.core_spec.specs.declared.event.Event.TheVariants.{Submit, Claim, Release, Apply, Supersede, Fail, Discard, Sweep, Restart}
use Rattle.core_spec.specs.Commands.{Key}
use Rattle.core_spec.specs.History.{History, last_receipt, command, answer, key, queued, claimed, standing, fails, trace_of}
use Rattle.json_read.specs.json_tree.Limits.{most_payload}

abbrev pub rank_at : ℤ → ℕ → Rank
rank_at stamp r = record { stamp = stamp; receipt = r }

-- the first rank is below the second
abbrev pub IsBelow : Rank → Rank → Type 0
IsBelow a b = is_lt (rank_cmp a b) ≡ true

-- the newest applied command of the group since the last purge of its node
abbrev pub newest_of : Ttls → Group → History → Option Applied
newest_of ttls group history = newest group.kind (life ttls group.certname (trace_of history))

-- ---- claims

-- No command of the group is claimed. Neither a queued command of the group nor its newest applied one has a greater rank.
pub record IsFirst (ttls : Ttls) (group : Group) (rank : Rank) (history : History) : Type 0 where
  pub alone : (q : ℕ) (stamp : ℤ) → key q history ≡ Some (group, stamp) → standing q history ≢ claimed
  pub greatest : (q : ℕ) (stamp : ℤ) → key q history ≡ Some (group, stamp) → standing q history ≡ queued → is_lt (rank_cmp rank (rank_at stamp q)) ≡ false
  pub newest : (x : Applied) → newest_of ttls group history ≡ Some x → is_lt (rank_cmp rank (rank_of x)) ≡ false

abbrev pub IfFirst : Ttls → ℕ → Option Key → History → Type 0
IfFirst ttls r None history = Unit {0}
IfFirst ttls r (Some k) history = IsFirst ttls k.0 (rank_at k.1 r) history

pub record IsClaimable (ttls : Ttls) (r : ℕ) (history : History) : Type 0 where
  pub queued : standing r history ≡ queued
  pub few : fails r history < 16
  pub first : IfFirst ttls r (key r history) history

-- ---- the other events

-- The queued command `q` is stale: `p`, the newest applied command of its group since the last purge of its node, has a greater
-- rank.
pub record IsOutdated (ttls : Ttls) (q p : ℕ) (history : History) : Type 0 where
  pub group : Group
  pub stamp : ℤ
  pub newer : Applied
  pub queued : standing q history ≡ queued
  pub key_is : key q history ≡ Some (group, stamp)
  pub newest : newest_of ttls group history ≡ Some newer
  pub receipt : p ≡ newer.receipt
  pub below : IsBelow (rank_at stamp q) (rank_of newer)

-- the fault count rose, or stays at its greatest value
abbrev pub Rises : ℕ → ℕ → Type 0
Rises before after = (before < after) ⊎ ((before ≡ 2 ^ 64 - 1) × (after ≡ 2 ^ 64 - 1))

-- every failure since the last restart was counted at this fault count or below
abbrev pub IsAfterFails : ℕ → History → Type 0
IsAfterFails before [] = Unit {0}
IsAfterFails before (Fail r b a ∷ earlier) = (a ≤ before) × IsAfterFails before earlier
IsAfterFails before (Restart ∷ earlier) = Unit {0}
IsAfterFails before (_ ∷ earlier) = IsAfterFails before earlier

-- The claimed command decodes to a change. The moment is the one at which it was received, or none.
pub record IsApplicable (r : ℕ) (t : Option ℤ) (history : History) : Type 0 where
  pub command_is : Command
  pub change : Change
  pub claimed : standing r history ≡ claimed
  pub submitted : command r history ≡ Some command_is
  pub decodes : answer r history ≡ Some (Ok change)
  pub received : (t ≡ None) ⊎ (t ≡ Some command_is.received)

-- The command has the next receipt, a payload of at most 16 MiB, and a receive time that a stamp can express.
pub record IsNext (r : ℕ) (c : Command) (history : History) : Type 0 where
  pub receipt : r ≡ suc (last_receipt history)
  pub payload : length c.payload ≤ most_payload
  pub received : HasStamp c.received

abbrev pub May : Ttls → Event → History → Type 0
May ttls (Submit r c) earlier = IsNext r c earlier
May ttls (Claim r) earlier = IsClaimable ttls r earlier
May ttls (Release r) earlier = standing r earlier ≡ claimed
May ttls (Apply r t) earlier = IsApplicable r t earlier
May ttls (Supersede q p) earlier = IsOutdated ttls q p earlier
May ttls (Fail r before after) earlier = (standing r earlier ≡ claimed) × Rises before after × IsAfterFails before earlier
May ttls (Discard r (Refused refusal)) earlier = (standing r earlier ≡ claimed) × (answer r earlier ≡ Some (Err refusal))
May ttls (Discard r Failures) earlier = (standing r earlier ≡ queued) × (fails r earlier ≡ 16)
May ttls (Sweep kinds m) earlier = HasStamp m
May ttls Restart earlier = Unit {0}

abbrev pub IsLegal : Ttls → History → Type 0
IsLegal ttls [] = Unit {0}
IsLegal ttls (e ∷ earlier) = May ttls e earlier × IsLegal ttls earlier
