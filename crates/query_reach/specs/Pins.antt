-- What the steps of a stage demand of a row that they choose, and the facts that they name.
use Rattle.std.specs.Prelude.{ℕ, ◌+◌, ◌*◌, List, [], ◌∷◌, ◌++◌, length, sum_by, flat_map}
use Rattle.query_plan.specs.Plan.{Step, Stage, compares, tests_null, lists, fits, selects, shares_node, constant, invert, both, either}
use Rattle.query_plan.specs.table_spec.fleet_rows.declared.row.Entity.{Entity}
use Rattle.query_plan.specs.table_spec.Rows.{Cells}
use Rattle.query_reach.specs.Reach.{Pin, pin_of, reach, field_facts, fields_facts}

-- for each boolean on the stack, what is demanded where it is true

-- a boolean that demands nothing, in place of the top, or of the top two
abbrev pub loosened : List (List Pin) → List (List Pin)
loosened [] = []
loosened (a ∷ st) = [] ∷ st

abbrev pub loosened_two : List (List Pin) → List (List Pin)
loosened_two [] = []
loosened_two (b ∷ []) = []
loosened_two (b ∷ a ∷ st) = [] ∷ st

-- what each of the top two demands
abbrev pub joined : List (List Pin) → List (List Pin)
joined [] = []
joined (b ∷ []) = []
joined (b ∷ a ∷ st) = (a ++ b) ∷ st

abbrev pub pin_act : Step → List (List Pin) → List (List Pin)
pin_act (compares o f l) st = pin_of o f l ∷ st
pin_act (tests_null f b) st = [] ∷ st
pin_act (lists fs ls) st = [] ∷ st
pin_act (fits f j) st = [] ∷ st
pin_act (selects fs i) st = [] ∷ st
pin_act (shares_node o i) st = [] ∷ st
pin_act (constant b) st = [] ∷ st
pin_act invert st = loosened st
pin_act both st = joined st
pin_act either st = loosened_two st

abbrev pub pin_run : List Step → List (List Pin) → List (List Pin)
pin_run [] st = st
pin_run (s ∷ ss) st = pin_run ss (pin_act s st)

abbrev pub pin_top : List (List Pin) → List Pin
pin_top [] = []
pin_top (ps ∷ st) = ps

abbrev pub step_pins : List Step → List Pin
step_pins ss = pin_top (pin_run ss [])

-- the facts that steps name
abbrev pub step_facts : Step → List (List ℕ)
step_facts (compares o f l) = field_facts f
step_facts (tests_null f b) = field_facts f
step_facts (lists fs ls) = fields_facts fs
step_facts (fits f j) = field_facts f
step_facts (selects fs i) = fields_facts fs
step_facts (shares_node o i) = []
step_facts (constant b) = []
step_facts invert = []
step_facts both = []
step_facts either = []

abbrev pub steps_facts : List Step → List (List ℕ)
steps_facts = flat_map step_facts

-- what a stage reads
abbrev pub stage_reads : (Entity → List Cells) → Stage → ℕ
stage_reads rows s = reach rows s.entity (step_pins s.steps) * (1 + length (steps_facts s.steps))

abbrev pub stages_read : (Entity → List Cells) → List Stage → ℕ
stages_read rows ss = sum_by (stage_reads rows) ss
