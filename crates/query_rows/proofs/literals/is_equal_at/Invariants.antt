use Rattle.std.proofs.Common.{◌≡◌, drop}
use Rattle.std.specs.List.{list_any}
use Rattle.query_plan.specs.means_spec.Cells.{equals}
use Rattle.query_plan.specs.query_spec.declared.parts.Literal.{Literal}
use Rattle.query_rows.specs.Indexed.{passes_at}
use Rattle.row_views.specs.Seen.{seen_value}
use Rattle.query_rows.proofs.literals.is_equal_at.Given as goal

abbrev pub invariant-loop-place : goal.invariant-loop-place
invariant-loop-place l =
    let test = passes_at (λ (a : Literal). equals (seen_value l.seen) a.value) l.literals in
    list_any test (drop l.place-index l.places) ≡ list_any test l.places
