-- The order that decides which of two commands wins.
use Rattle.std.specs.declared.cmp.Ordering.{Ordering}
use Rattle.std.specs.Ordering.{nat_cmp, int_cmp, ordering_then}
use Rattle.fleet_rows.specs.declared.rank.Rank.{Rank}

-- by producer timestamp, then by receipt
abbrev pub rank_cmp : Rank → Rank → Ordering
rank_cmp a b = ordering_then (int_cmp a.stamp b.stamp) (nat_cmp a.receipt b.receipt)
