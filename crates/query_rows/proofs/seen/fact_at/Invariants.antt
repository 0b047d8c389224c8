use Rattle.std.proofs.Common.{◌≡◌, drop}
use Rattle.std.specs.List.{find}
use Rattle.query_plan.specs.means_spec.Cells.{is_fact}
use Rattle.query_rows.specs.Indexed.{passes_at}
use Rattle.query_rows.proofs.seen.fact_at.Given as goal

abbrev pub invariant-loop-place : goal.invariant-loop-place
invariant-loop-place l =
    let test = passes_at (is_fact l.node l.name) l.facts in
    find test (drop l.place-index l.places) ≡ find test l.places
