use Rattle.std.proofs.Common.{◌≡◌, drop}
use Rattle.std.specs.List.{list_any}
use Rattle.std.specs.Str.{bytes_eq}
use Rattle.query_plan.specs.means_spec.Cells.{node_in}
use Rattle.query_rows.specs.Indexed.{passes_at}
use Rattle.query_rows.proofs.tuples.is_of_node_at.Given as goal

abbrev pub invariant-loop-place : goal.invariant-loop-place
invariant-loop-place l =
    let test = passes_at (λ x. bytes_eq (node_in l.other x) l.node) l.rows in
    list_any test (drop l.place-index l.places) ≡ list_any test l.places
