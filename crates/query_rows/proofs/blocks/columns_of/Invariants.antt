use Rattle.std.proofs.Common.{◌≡◌, ℕ, List, map, length}
use Rattle.query_rows.specs.Columns.{AreColumns}
use Rattle.query_rows.specs.Tries.{HasTried}
use Rattle.query_rows.proofs.blocks.columns_of.Given as goal

abbrev pub invariant-loop-ready : goal.invariant-loop-ready
invariant-loop-ready g l =
    let ps = map (λ c. g.P.Patterns.made_from c) l.compiled in
    record {
      same : (p t : List ℕ) → g.P.Patterns.says l.patterns p t ≡ g.P.Patterns.says l.initial.patterns p t;
      calm : g.P.Patterns.refusals l.patterns ≡ g.P.Patterns.refusals l.initial.patterns;
      silent : g.P.Patterns.asked l.patterns ≡ g.P.Patterns.asked l.initial.patterns;
      tried : HasTried (g.P.Patterns.course l.initial.patterns) (g.P.Patterns.course l.patterns);
      count : length l.columns.items ≡ l.ready-index;
      columns : AreColumns l.scene (g.P.Patterns.says l.initial.patterns) ps l.entity l.rows l.steps l.columns.items;
    }
