use Rattle.std.proofs.Common.{◌≡◌, ℕ, List, true, ◌||◌, drop}
use Rattle.std.specs.List.{list_any}
use Rattle.query_plan.specs.means_spec.Cells.{node_in}
use Rattle.std.specs.Str.{bytes_eq}
use Rattle.query_reach.specs.Seen.{texts_seen}
use Rattle.query_reading.specs.Joins.{is_among}
use Rattle.query_reading.proofs.joins.by_node.Given as goal

abbrev pub invariant-noting : goal.invariant-noting
invariant-noting l =
    (s : List ℕ) → list_any (λ row. bytes_eq s (node_in l.entity row)) l.rows ≡ true
    → (is_among (texts_seen l.nodes.items) s || list_any (λ row. bytes_eq s (node_in l.entity row)) (drop l.row-index l.rows)) ≡ true
