use Rattle.std.proofs.Common.{◌≡◌, ◌≤◌, ◌+◌, ℕ, List, [], map, drop}
use Rattle.fleet_tables.specs.table_machine.Rows.{table_rows}
use Rattle.query_plan.specs.Made.{stages_of}
use Rattle.query_plan.specs.Plan.{solved, solved_sum}
use Rattle.query_reach.specs.Pins.{stages_read}
use Rattle.query_rows.specs.Tables.{world_of}
use Rattle.query_rows.specs.Tries.{HasTried}
use Rattle.query_reading.specs.declared.reading.Reading.TheVariants.{InReach}
use Rattle.query_engine.proofs.engine.solve.Given as goal

abbrev pub invariant-loop-stage : goal.invariant-loop-stage
invariant-loop-stage g l =
    let ps = map (λ c. g.P.Patterns.made_from c) l.compiled in
    let w = world_of l.tables (g.P.Patterns.says l.initial.patterns) in
    record {
      same : (p t : List ℕ) → g.P.Patterns.says l.patterns p t ≡ g.P.Patterns.says l.initial.patterns p t;
      calm : g.P.Patterns.refusals l.patterns ≡ g.P.Patterns.refusals l.initial.patterns;
      silent : g.P.Patterns.asked l.patterns ≡ g.P.Patterns.asked l.initial.patterns;
      tried : HasTried (g.P.Patterns.course l.initial.patterns) (g.P.Patterns.course l.patterns);
      cost : l.reading ≡ InReach → l.walk + stages_read (λ e. table_rows e l.tables) (stages_of (drop l.stage-index l.stages)) ≤ l.initial.walk + stages_read (λ e. table_rows e l.tables) (stages_of l.stages);
      rows : solved w ps l.found.items (stages_of (drop l.stage-index l.stages)) ≡ solved w ps [] (stages_of l.stages);
      sums : solved_sum w ps l.found.items (stages_of (drop l.stage-index l.stages)) ≡ solved_sum w ps [] (stages_of l.stages);
    }
