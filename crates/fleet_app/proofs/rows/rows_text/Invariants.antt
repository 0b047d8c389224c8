use Rattle.std.proofs.Common.{◌≡◌, ◌++◌, ◌∷◌, drop, false}
use Rattle.busy_commands.specs.history_spec.Trace.{Trace}
use Rattle.busy_commands.specs.history_spec.Facts.{fact_rows}
use Rattle.busy_commands.specs.fleet_tables.Stands.{Stands}
use Rattle.fleet_app.specs.Rows.{rows_behind, active}
use Rattle.fleet_app.proofs.rows.rows_text.Given as goal

abbrev pub invariant-rows : goal.invariant-rows
invariant-rows g l = (history : Trace) → Stands l.tables history →
    l.out.items ++ rows_behind l.later (active l.tables.ttls history (drop l.i (fact_rows l.tables.ttls history)))
    ≡ 91 ∷ rows_behind false (active l.tables.ttls history (fact_rows l.tables.ttls history))
