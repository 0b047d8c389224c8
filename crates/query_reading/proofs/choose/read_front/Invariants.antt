use Rattle.std.proofs.Common.{◌≡◌, ◌≤◌, ◌+◌, ◌*◌, ◌++◌, ℕ, List, map, drop, length}
use Rattle.std.specs.Prelude.{filter}
use Rattle.query_plan.specs.Plan.{is_chosen}
use Rattle.query_plan.specs.Made.{stage_of}
use Rattle.fleet_tables.specs.table_machine.Rows.{table_rows}
use Rattle.query_rows.specs.Tables.{world_of}
use Rattle.query_rows.specs.Tries.{HasTried}
use Rattle.query_reading.specs.Stopping.{IsAtMost}
use Rattle.query_reading.proofs.choose.read_front.Given as goal

abbrev pub invariant-reading : goal.invariant-reading
invariant-reading g l =
    let ps = map (λ c. g.P.Patterns.made_from c) l.compiled in
    let rows = table_rows l.entity l.tables in
    let test = is_chosen (world_of l.tables (g.P.Patterns.says l.initial.patterns)) ps l.found (stage_of l.stage) in
    record {
      same : (p t : List ℕ) → g.P.Patterns.says l.patterns p t ≡ g.P.Patterns.says l.initial.patterns p t;
      calm : g.P.Patterns.refusals l.patterns ≡ g.P.Patterns.refusals l.initial.patterns;
      silent : g.P.Patterns.asked l.patterns ≡ g.P.Patterns.asked l.initial.patterns;
      tried : HasTried (g.P.Patterns.course l.initial.patterns) (g.P.Patterns.course l.patterns);
      cost : l.walk ≤ l.initial.walk + l.place * (1 + length l.names);
      few : IsAtMost l.enough (length l.chosen);
      rest : l.chosen ++ filter test (drop l.place rows) ≡ filter test rows;
    }
