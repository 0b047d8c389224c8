-- Traces: what was applied to the tables, and what was swept from them.
use Rattle.std.specs.Prelude.{◌≢◌, ℕ, ◌≤◌, ℤ, List, [], ◌∷◌, Bool, ◌==◌, Option}
use Rattle.std.specs.List.{AllByRecursion}
use Rattle.wire_spec.specs.fleet_rows.Change.{change_stamp, change_kind, kind_number}
use Rattle.wire_spec.specs.fleet_rows.declared.applied.Applied.{Applied}
use Rattle.wire_spec.specs.fleet_rows.declared.change.Change.{Change}
use Rattle.wire_spec.specs.fleet_rows.declared.command.Kind.{Kind}
use Rattle.wire_spec.specs.fleet_rows.declared.rank.Rank.{Rank}
use Rattle.wire_spec.specs.fleet_rows.declared.settings.Kinds.{Kinds}
use Rattle.history_spec.specs.Lawful.{HasStamp, IfMoment, IsChange}

-- an applied command with this receipt, the moment at which it was received if known, and its change
abbrev pub applied_as : ℕ → Option ℤ → Change → Applied
applied_as receipt received change = record { receipt = receipt; received = received; change = change }

pub data TraceEvent : Type 0 where
  applied : Applied → TraceEvent
  swept : Kinds → ℤ → TraceEvent

-- newest event first
abbrev pub Trace : Type 0
Trace = List TraceEvent

abbrev pub is_kind : Kind → Applied → Bool
is_kind k x = kind_number k == kind_number (change_kind x.change)

abbrev pub rank_of : Applied → Rank
rank_of x = record { stamp = change_stamp x.change; receipt = x.receipt }

-- the receipts of all applied commands
abbrev pub receipts : Trace → List ℕ
receipts [] = []
receipts (applied x ∷ earlier) = x.receipt ∷ receipts earlier
receipts (swept kinds m ∷ earlier) = receipts earlier

-- a possible trace: each change meets its rules, each moment has a stamp, and receipts are distinct and at least 1, so all ranks
-- are distinct
abbrev pub IsTrace : Trace → Type 0
IsTrace [] = Unit {0}
IsTrace (applied x ∷ earlier) =
    IsChange x.change × IfMoment x.received × (1 ≤ x.receipt) × AllByRecursion (λ r. r ≢ x.receipt) (receipts earlier) × IsTrace earlier
IsTrace (swept kinds m ∷ earlier) = HasStamp m × IsTrace earlier
