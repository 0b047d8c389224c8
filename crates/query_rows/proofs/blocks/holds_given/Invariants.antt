use Rattle.std.proofs.Common.{◌≡◌, ℕ, List, [], map, reverse, drop}
use Rattle.query_plan.specs.Plan.{run}
use Rattle.query_rows.specs.Scenes.{world}
use Rattle.query_rows.specs.Tries.{HasTried}
use Rattle.query_rows.proofs.blocks.holds_given.Given as goal

abbrev pub invariant-loop-k : goal.invariant-loop-k
invariant-loop-k g l =
    let ps = map (λ c. g.P.Patterns.made_from c) l.compiled in
    let w = world l.scene (g.P.Patterns.says l.fn.patterns) in
    record {
      same : (p t : List ℕ) → g.P.Patterns.says l.patterns p t ≡ g.P.Patterns.says l.fn.patterns p t;
      calm : g.P.Patterns.refusals l.patterns ≡ g.P.Patterns.refusals l.fn.patterns;
      silent : g.P.Patterns.asked l.patterns ≡ g.P.Patterns.asked l.fn.patterns;
      tried : HasTried (g.P.Patterns.course l.fn.patterns) (g.P.Patterns.course l.patterns);
      rest : run w ps l.found l.entity l.row (drop l.k l.steps) (reverse l.stack.items) ≡ run w ps l.found l.entity l.row l.steps [];
    }
