use Rattle.std.proofs.Common.{◌≡◌, ◌+◌, ◌++◌, ℕ, List, map, drop, length}
use Rattle.std.specs.Prelude.{filter, IfSome}
use Rattle.std.specs.Vec.Iter.{into_iter_items}
use Rattle.query_plan.specs.Plan.{is_chosen}
use Rattle.query_plan.specs.Made.{stage_of}
use Rattle.query_rows.specs.Scenes.{world}
use Rattle.query_rows.specs.Tries.{HasTried}
use Rattle.query_reading.specs.Told.{IsTold}
use Rattle.query_reading.proofs.blocks.choose_block.Given as goal

abbrev pub invariant-choosing : goal.invariant-choosing
invariant-choosing g l =
    let ps = map (λ c. g.P.Patterns.made_from c) l.compiled in
    let test = is_chosen (world l.scene (g.P.Patterns.says l.fn.patterns)) ps l.found (stage_of l.stage) in
    record {
      can : (goal.iterator-choosing g).can_next l.row-iterator;
      ends : (goal.iterator-choosing g).is_finite l.row-iterator;
      count : l.i + length (into_iter_items l.row-iterator) ≡ length l.fn.rows.items;
      left : into_iter_items l.row-iterator ≡ drop l.i l.fn.rows.items;
      told : IfSome l.last (IsTold l.scene.tables.now);
      same : (p t : List ℕ) → g.P.Patterns.says l.patterns p t ≡ g.P.Patterns.says l.fn.patterns p t;
      calm : g.P.Patterns.refusals l.patterns ≡ g.P.Patterns.refusals l.fn.patterns;
      silent : g.P.Patterns.asked l.patterns ≡ g.P.Patterns.asked l.fn.patterns;
      tried : HasTried (g.P.Patterns.course l.fn.patterns) (g.P.Patterns.course l.patterns);
      rest : l.chosen ++ filter test (into_iter_items l.row-iterator) ≡ l.fn.chosen ++ filter test l.fn.rows.items;
    }
