-- A cursor's place: the rows of a node from a row on.
use Rattle.std.proofs.Common.{◌≡◌, ℕ, ◌+◌, ◌-◌, ◌<◌, ◌≤◌, sym, subst, arith}
use Rattle.fleet_tables.specs.fleet_rows.declared.row.Entity.{Entity}
use Rattle.fleet_tables.specs.table_machine.Table.{Table}
use Rattle.row_views.specs.Cursors.{IsPlace, IsSpot}
use Rattle.row_views.specs.declared.cursor.Spot.{Spot}

-- a row behind the spot is the node's
pub place_from : (entity : Entity) (table : Table) (s : Spot) → IsSpot entity table s → (i j : ℕ) → s.from ≤ i → j ≡ s.at + (i - s.from) → j < s.count → IsPlace entity table i s.node.now j
place_from entity table s h i j le e lt =
    let passed : s.from + (i - s.from) ≡ i = omega (arith, le) in
    let within : s.at + (i - s.from) < s.count = omega (arith, lt, e) in
    subst (λ n. IsPlace entity table n s.node.now j) passed (subst (λ n. IsPlace entity table (s.from + (i - s.from)) s.node.now n) (sym e) (h.further (i - s.from) within))
