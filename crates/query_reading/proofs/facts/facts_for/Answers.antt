use Rattle.std.proofs.Common.{◌≡◌, ◌∙◌, ℕ, List, Some, ap}
use Rattle.std.proofs.lemmas.Result.{IfOk-weaker}
use Rattle.fleet_tables.specs.fleet_rows.declared.row.Entity.TheVariants.{Facts}
use Rattle.fleet_tables.specs.table_machine.Rows.{table_rows}
use Rattle.query_plan.specs.means_spec.Cells.{node_in}
use Rattle.query_reach.specs.Seen.{texts_seen}
use Rattle.query_reading.specs.Fetched.{fetched}
use Rattle.query_reading.proofs.NarrowLaws.{shown_node}
use Rattle.query_reading.proofs.facts.facts_for.Goals as goal

pub returns-clause-value : goal.returns-clause-value
returns-clause-value g c =
    IfOk-weaker c.facts_seen.result _ _
    (λ facts h. h
    ∙ ap (λ (node : List ℕ). fetched node (table_rows Facts c.args.tables.now) (texts_seen c.args.names.now))
    (ap (node_in (Some c.args.entity)) c.in_ok-view.ensures ∙ shown_node c.args.entity c.args.narrow c.args.row.now))
    c.facts_seen.ensures.value
