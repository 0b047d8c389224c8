use Rattle.std.proofs.Common.{◌∙◌, ℕ, List, ap}
use Rattle.std.specs.Prelude.{slice_get}
use Rattle.std.specs.List.{find}
use Rattle.std.specs.Option.{option_and_then}
use Rattle.query_plan.specs.means_spec.Cells.{is_fact}
use Rattle.query_plan.specs.table_spec.Rows.{Cells}
use Rattle.query_rows.specs.Indexed.{places_under, passes_at}
use Rattle.query_rows.proofs.NodeFacts.{fact_under}
use Rattle.query_rows.proofs.seen.fact_place.Goals as goal

pub returns : goal.returns
returns c =
    let rows : List Cells = c.args.facts.now in
    let node : List ℕ = c.args.node.now in
    let name : List ℕ = c.args.name.now in
    let found = λ (ps : List ℕ). option_and_then (slice_get rows) (find (passes_at (is_fact node name) rows) ps) in
    ap (option_and_then (slice_get rows)) c.fact_at.ensures
    ∙ ap found (c.places_under.ensures ∙ ap (places_under c.args.nodes.now) c.as_bytes.ensures.value)
    ∙ fact_under rows c.args.nodes.now node name c.requires
