use Rattle.std.proofs.Common.{◌≡◌, ◌≤◌, ◌+◌, ◌-◌, ◌++◌, ℕ, List, map, drop, length}
use Rattle.std.specs.Prelude.{filter}
use Rattle.query_plan.specs.Plan.{is_chosen}
use Rattle.query_plan.specs.Made.{stage_of}
use Rattle.fleet_tables.specs.table_machine.Rows.{table_rows}
use Rattle.query_rows.specs.Tables.{world_of}
use Rattle.query_rows.specs.Tries.{HasTried}
use Rattle.query_reading.specs.Fetched.{picked}
use Rattle.query_reading.proofs.blocks.read_blocks.Given as goal

abbrev pub invariant-reading : goal.invariant-reading
invariant-reading g l =
    let ps = map (λ c. g.P.Patterns.made_from c) l.compiled in
    let rows = table_rows l.entity l.tables in
    let test = is_chosen (world_of l.tables (g.P.Patterns.says l.fn.patterns)) ps l.found (stage_of l.stage) in
    record {
      same : (p t : List ℕ) → g.P.Patterns.says l.patterns p t ≡ g.P.Patterns.says l.fn.patterns p t;
      calm : g.P.Patterns.refusals l.patterns ≡ g.P.Patterns.refusals l.fn.patterns;
      silent : g.P.Patterns.asked l.patterns ≡ g.P.Patterns.asked l.fn.patterns;
      tried : HasTried (g.P.Patterns.course l.fn.patterns) (g.P.Patterns.course l.patterns);
      within : l.at ≤ length l.places;
      cost : l.walk ≤ l.fn.walk + l.at;
      rest : l.chosen ++ filter test (picked rows (drop l.at l.places)) ≡ filter test (picked rows l.places);
    }

abbrev pub decreases-reading : goal.decreases-reading
decreases-reading g l = length l.places - l.at
