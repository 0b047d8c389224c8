use Rattle.std.proofs.Common.{subst, ◌≤◌, ◌+◌}
use Rattle.fleet_tables.specs.table_machine.Rows.{table_rows}
use Rattle.query_reach.specs.Reach.{level_bound}
use Rattle.query_plan.specs.Plan.{level_patterns}
use Rattle.query_engine.specs.Answers.{AreAsked, MatchPicked}
use Rattle.query_engine.specs.Courses.{IsCourse}
use Rattle.query_rows.specs.Tables.{world_of}
use Rattle.query_engine.proofs.Worlds.{world_is}
use Rattle.query_engine.proofs.engine.select_reading.Goals as goal

pub returns-clause-answer : goal.returns-clause-answer
returns-clause-answer g c =
    subst (λ q. MatchPicked (world_of c.args.tables.now (g.P.Patterns.says c.args.patterns.now)) q c.picked_of.result) c.level.ensures.level c.picked_of.ensures.answer

pub returns-clause-stands : goal.returns-clause-stands
returns-clause-stands g c = λ history s.
    subst (λ w. MatchPicked w c.args.query.now c.picked_of.result) (world_is c.args.tables.now history (g.P.Patterns.says c.args.patterns.now) s)
    (subst (λ q. MatchPicked (world_of c.args.tables.now (g.P.Patterns.says c.args.patterns.now)) q c.picked_of.result) c.level.ensures.level c.picked_of.ensures.answer)

pub returns-clause-asked : goal.returns-clause-asked
returns-clause-asked g c =
    subst (λ q. AreAsked (level_patterns q) (g.P.Patterns.asked c.args.patterns.now) (g.P.Patterns.asked c.picked_of.new.patterns) c.picked_of.result) c.level.ensures.level c.picked_of.ensures.asked

pub returns-clause-course : goal.returns-clause-course
returns-clause-course g c =
    subst (λ q. IsCourse (level_patterns q) (g.P.Patterns.course c.args.patterns.now) (g.P.Patterns.course c.picked_of.new.patterns) c.picked_of.result) c.level.ensures.level c.picked_of.ensures.course

pub returns-clause-bound : goal.returns-clause-bound
returns-clause-bound g c = λ r.
    subst (λ q. c.picked_of.new.walk ≤ c.args.steps.now + level_bound (λ e. table_rows e c.args.tables.now) q) c.level.ensures.level (c.picked_of.ensures.bound r)
