-- Statements on ranks, and on the newest command of a kind.
use Rattle.std.specs.Prelude.{◌≡◌, ◌≢◌, ◌↔◌, ◌⊎◌, ◌<◌, ◌<ℤ◌, List, Some, None}
use Rattle.std.specs.List.{Contains}
use Rattle.std.specs.declared.cmp.Ordering.TheVariants.{Less}
use Rattle.spool_spec.specs.fleet_rows.Rank.{rank_cmp}
use Rattle.spool_spec.specs.fleet_rows.declared.rank.Rank.{Rank}
use Rattle.spool_spec.specs.fleet_rows.declared.command.Kind.{Kind}
use Rattle.spool_spec.specs.fleet_rows.Change.{change_kind}
use Rattle.spool_spec.specs.fleet_rows.declared.applied.Applied.{Applied}
use Rattle.spool_spec.specs.history_spec.Trace.{rank_of}
use Rattle.spool_spec.specs.history_spec.Node.{newest}

-- ranks are compared by producer timestamp, then by receipt
abbrev pub IsBelow : Rank → Rank → Type 0
IsBelow a b = (a.stamp <ℤ b.stamp) ⊎ ((a.stamp ≡ b.stamp) × (a.receipt < b.receipt))

abbrev pub RanksAreByStampAndReceipt : Type 0
RanksAreByStampAndReceipt = (a b : Rank) → (rank_cmp a b ≡ Less) ↔ IsBelow a b

-- of two distinct ranks exactly one is below the other
abbrev pub RanksAreInOrder : Type 0
RanksAreInOrder = (a b : Rank) → ((a ≡ b) ⊎ IsBelow a b ⊎ IsBelow b a) × (IsBelow a b → ¬ IsBelow b a)

-- the order of ranks is transitive
abbrev pub RanksGoOn : Type 0
RanksGoOn = (a b c : Rank) → IsBelow a b → IsBelow b c → IsBelow a c

-- x is a command of kind k in the list, and no command of that kind in the list has a greater rank
pub record IsNewest (k : Kind) (xs : List Applied) (x : Applied) : Type 0 where
  pub member : Contains xs x
  pub kind : change_kind x.change ≡ k
  pub not_outranked : (y : Applied) → Contains xs y → change_kind y.change ≡ k → ¬ IsBelow (rank_of x) (rank_of y)

abbrev pub TheNewestIsNotOutranked : Type 0
TheNewestIsNotOutranked = (k : Kind) (xs : List Applied) (x : Applied) → newest k xs ≡ Some x → IsNewest k xs x

abbrev pub NoneIsNewestWhereNoneIsOfTheKind : Type 0
NoneIsNewestWhereNoneIsOfTheKind =
    (k : Kind) (xs : List Applied) → (newest k xs ≡ None) ↔ ((x : Applied) → Contains xs x → change_kind x.change ≢ k)
