-- The steps and stages of the code, as those of the plan.
use Rattle.std.specs.Prelude.{◌≡◌, List, ◌++◌, map}
use Rattle.std.specs.Borrow.{Bor}
use Rattle.ast_tree.specs.query_spec.declared.parts.Pattern.{Pattern}
use Rattle.ast_tree.specs.query_spec.Query.{Level}
use Rattle.query_plan.specs.Plan as plan
use Rattle.query_plan.specs.Plan.{level_patterns, level_stages}
use Rattle.query_plan.specs.declared.step.Plan.{Plan}
use Rattle.query_plan.specs.declared.step.Shape.{Shape}
use Rattle.query_plan.specs.declared.step.Shape.TheVariants.{Whole, Answers}
use Rattle.query_plan.specs.declared.step.Stage.{Stage}
use Rattle.query_plan.specs.declared.step.Step.{Step}
use Rattle.query_plan.specs.declared.step.Step.TheVariants.{Compares, TestsNull, Lists, Fits, Selects, SharesNode, Constant, Invert, Both, Either}

abbrev pub step_of : Step → plan.Step
step_of (Compares o f l) = plan.compares o f.now l.now
step_of (TestsNull f b) = plan.tests_null f.now b
step_of (Lists fs ls) = plan.lists fs.now ls.now
step_of (Fits f j) = plan.fits f.now j
step_of (Selects fs i) = plan.selects fs.now i
step_of (SharesNode e i) = plan.shares_node e i
step_of (Constant b) = plan.constant b
step_of Invert = plan.invert
step_of Both = plan.both
step_of Either = plan.either

abbrev pub steps_of : List Step → List plan.Step
steps_of = map step_of

abbrev pub shape_of : Shape → plan.Shape
shape_of Whole = plan.whole
shape_of (Answers s g p) = plan.answers s.now g.now p.now

abbrev pub stage_of : Stage → plan.Stage
stage_of s = record { entity = s.entity; state = s.state; steps = s.steps; shape = shape_of s.shape }

abbrev pub stages_of : List Stage → List plan.Stage
stages_of = map stage_of

abbrev pub patterns_of : List (Bor Pattern) → List Pattern
patterns_of = map (λ (p : Bor Pattern). p.now)

-- these patterns and stages were appended
pub record Adds (old new : Plan) (patterns : List Pattern) (stages : List plan.Stage) : Type 0 where
  pub patterns_are : patterns_of new.patterns.items ≡ patterns_of old.patterns.items ++ patterns
  pub stages_are : stages_of new.stages.items ≡ stages_of old.stages.items ++ stages

pub record IsPlanOf (query : Level) (p : Plan) : Type 0 where
  pub patterns_are : patterns_of p.patterns.items ≡ level_patterns query
  pub stages_are : stages_of p.stages.items ≡ level_stages 0 0 query
