use Rattle.std.proofs.Common.{◌≡◌, drop}
use Rattle.std.specs.List.{list_any}
use Rattle.std.specs.Str.{bytes_eq}
use Rattle.query_plan.specs.means_spec.Cells.{node_in}
use Rattle.query_rows.proofs.tuples.is_some_of_node.Given as goal

abbrev pub invariant-loop-row : goal.invariant-loop-row
invariant-loop-row l = list_any (λ x. bytes_eq (node_in l.other x) l.node) (drop l.row-index l.rows) ≡ list_any (λ x. bytes_eq (node_in l.other x) l.node) l.rows
