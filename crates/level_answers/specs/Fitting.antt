-- Sums that fit into 128 bits.
use Rattle.std.specs.Prelude.{◌≡◌, List, false, Option}
use Rattle.std.specs.List.{AllByRecursion}
use Rattle.fleet_tables.specs.fleet_rows.declared.row.Entity.{Entity}
use Rattle.query_plan.specs.means_spec.Groups.{Group}
use Rattle.query_plan.specs.means_spec.Sums.{sum_too_large}
use Rattle.query_plan.specs.query_spec.declared.parts.Function.TheVariants.{Sum}
use Rattle.query_plan.specs.query_spec.declared.parts.Selected.{Selected}
use Rattle.query_plan.specs.query_spec.declared.parts.Selected.TheVariants.{Function}

-- this output of the group isn't a sum that is too large
abbrev pub SumFits : Option Entity → Group → Selected → Type 0
SumFits e x (Function Sum n) = sum_too_large e n x ≡ false
SumFits e x s = Unit {0}

abbrev pub SumsFit : Option Entity → Group → List Selected → Type 0
SumsFit e x ss = AllByRecursion (SumFits e x) ss

abbrev pub AllSumsFit : Option Entity → List Selected → List Group → Type 0
AllSumsFit e ss xs = AllByRecursion (λ x. SumsFit e x ss) xs
