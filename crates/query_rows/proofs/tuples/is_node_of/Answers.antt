use Rattle.std.proofs.Common.{◌∙◌, List, ℕ, ap, subst}
use Rattle.std.specs.List.{list_any}
use Rattle.std.specs.Str.{bytes_eq}
use Rattle.std.proofs.lemmas.Slice.Eq.{bytes_eq-Decides}
use Rattle.query_plan.specs.means_spec.Cells.{node_in}
use Rattle.query_plan.specs.table_spec.Rows.{Cells}
use Rattle.query_rows.specs.Indexed.{places_under, holds_place, passes_at}
use Rattle.query_rows.proofs.IndexLaws.{found_under}
use Rattle.query_rows.proofs.tuples.is_node_of.Goals as goal

pub returns : goal.returns
returns c =
    let node : List ℕ = c.args.node.now in
    let rows : List Cells = c.args.rows.now in
    let test = λ (x : Cells). bytes_eq (node_in c.args.other x) node in
    c.is_of_node_at.ensures
    ∙ ap (list_any (passes_at test rows)) (c.places_under.ensures ∙ ap (places_under c.args.index.now) c.as_bytes.ensures.value)
    ∙ found_under test rows c.args.index.now node
    (λ j row at h. subst (λ t. holds_place c.args.index.now t j) ((bytes_eq-Decides (node_in c.args.other row) node).0 h) (c.requires j row at))
