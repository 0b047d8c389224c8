use Rattle.std.proofs.Common.{◌≡◌, ℕ, List, [], map, reverse, drop}
use Rattle.query_plan.specs.Plan.{run}
use Rattle.query_rows.specs.Scenes.{world}
use Rattle.query_rows.specs.Tries.{HasTried}
use Rattle.query_rows.proofs.run.holds.Given as goal

abbrev pub invariant-loop-ready : goal.invariant-loop-ready
invariant-loop-ready g l =
    let ps = map (λ c. g.P.Patterns.made_from c) l.compiled in
    let w = world l.scene (g.P.Patterns.says l.initial.patterns) in
    record {
      same : (p t : List ℕ) → g.P.Patterns.says l.patterns p t ≡ g.P.Patterns.says l.initial.patterns p t;
      calm : g.P.Patterns.refusals l.patterns ≡ g.P.Patterns.refusals l.initial.patterns;
      silent : g.P.Patterns.asked l.patterns ≡ g.P.Patterns.asked l.initial.patterns;
      tried : HasTried (g.P.Patterns.course l.initial.patterns) (g.P.Patterns.course l.patterns);
      rest : run w ps l.found l.entity l.row (drop l.ready-index l.steps) (reverse l.stack.items) ≡ run w ps l.found l.entity l.row l.steps [];
    }
