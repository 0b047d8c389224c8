-- Whether a filter reads a column that a row doesn't show by reference.
use Rattle.std.specs.Prelude.{ℕ, List, Bool, false, not, codes}
use Rattle.std.specs.List.{list_any}
use Rattle.fleet_tables.specs.fleet_rows.declared.row.Entity.{Entity}
use Rattle.query_plan.specs.Plan as plan
use Rattle.query_plan.specs.Plan.{Step}
use Rattle.query_plan.specs.query_spec.declared.parts.Field.{Field}
use Rattle.query_plan.specs.query_spec.declared.parts.Field.TheVariants.{Column, Parameter, Fact, Tag, NodeState}
use Rattle.query_plan.specs.table_spec.Columns.{columns}
use Rattle.row_views.specs.Narrow.{is_referred, referred}

-- the column that is read for a field
abbrev pub field_column : Field → List ℕ
field_column (Column n) = n.text
field_column (Parameter n) = codes "parameters"
field_column (Fact n) = codes "certname"
field_column (Tag p) = codes "tags"
field_column (NodeState p) = codes "certname"

module _ (e : Entity) where
  -- the column would have to be made
  abbrev pub is_made : List ℕ → Bool
  is_made s = not (is_referred (columns e) (referred e) s)

  abbrev pub field_makes : Field → Bool
  field_makes f = is_made (field_column f)

  abbrev pub step_makes : Step → Bool
  step_makes (plan.compares o f l) = field_makes f
  step_makes (plan.tests_null f b) = field_makes f
  step_makes (plan.lists fs ls) = list_any field_makes fs
  step_makes (plan.fits f j) = field_makes f
  step_makes (plan.selects fs i) = list_any field_makes fs
  step_makes _ = false

  abbrev pub steps_make : List Step → Bool
  steps_make = list_any step_makes
