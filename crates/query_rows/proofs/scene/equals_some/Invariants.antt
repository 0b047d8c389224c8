use Rattle.std.proofs.Common.{◌≡◌, drop}
use Rattle.std.specs.List.{list_any}
use Rattle.query_plan.specs.means_spec.Cells.{equals}
use Rattle.query_plan.specs.query_spec.declared.parts.Literal.{Literal}
use Rattle.row_views.specs.Seen.{seen_value}
use Rattle.query_rows.proofs.scene.equals_some.Given as goal

abbrev pub invariant-loop-literal : goal.invariant-loop-literal
invariant-loop-literal l = list_any (λ (x : Literal). equals (seen_value l.seen) x.value) (drop l.literal-index l.literals) ≡ list_any (λ (x : Literal). equals (seen_value l.seen) x.value) l.literals
