-- What a claim does next.
use Rattle.std.specs.Prelude.{◌≡◌, ℕ, List, if◌then◌else◌, Option, Some, None, IsTrue}
use Rattle.std.specs.Ordering.{is_lt}
use Rattle.core_state.specs.fleet_rows.Rank.{rank_cmp}
use Rattle.core_state.specs.fleet_rows.declared.command.Group.{Group}
use Rattle.core_state.specs.fleet_rows.declared.rank.Rank.{Rank}
use Rattle.core_state.specs.table_machine.Table.{Table}
use Rattle.core_state.specs.fleet_tables.Asked.{newest_in}
use Rattle.core_state.specs.core_spec.declared.entry.Entry.{Entry}
use Rattle.core_state.specs.core_spec.Commands.{Key}
use Rattle.core_state.specs.core_spec.Legal.{rank_at}
use Rattle.core_state.specs.supersede_core.Waiting.{is_queued}
use Rattle.core_claims.specs.declared.choice.Choice.{Choice}
use Rattle.core_claims.specs.declared.choice.Choice.TheVariants.{Nothing, Older, Free, Memory}

-- the receipt of the newest applied command, if its rank is greater
abbrev pub newer : Rank → Option Rank → Option ℕ
newer rank None = None
newer rank (Some other) = if is_lt (rank_cmp rank other) then Some other.receipt else None

abbrev pub newer_in : Table → Group → Rank → Option ℕ
newer_in table group rank = newer rank (newest_in table group.certname group.kind)

abbrev pub newer_than : Table → ℕ → Option Key → Option ℕ
newer_than table r None = None
newer_than table r (Some k) = newer_in table k.0 (rank_at k.1 r)

-- the next step, given the first candidate
abbrev pub ChoiceOf : Choice → Table → Entry → Type 0
ChoiceOf Nothing table e = ⊥
ChoiceOf (Older q p) table e = (q ≡ e.receipt) × (newer_than table e.receipt e.group ≡ Some p)
ChoiceOf (Free job) table e = (job.receipt ≡ e.receipt) × (job.command ≡ e.command) × (newer_than table e.receipt e.group ≡ None)
ChoiceOf Memory table e = Unit {0}

abbrev pub IsNothing : Choice → Type 0
IsNothing Nothing = Unit {0}
IsNothing (Older q p) = ⊥
IsNothing (Free job) = ⊥
IsNothing Memory = ⊥

abbrev pub ChoiceIn : Choice → Table → Option Entry → Type 0
ChoiceIn choice table None = IsNothing choice
ChoiceIn choice table (Some e) = ChoiceOf choice table e

-- the command that is superseded or claimed is pending, and not claimed
abbrev pub IsQueuedChoice : Choice → List Entry → Type 0
IsQueuedChoice Nothing es = Unit {0}
IsQueuedChoice (Older q p) es = IsTrue (is_queued q es)
IsQueuedChoice (Free job) es = IsTrue (is_queued job.receipt es)
IsQueuedChoice Memory es = Unit {0}
