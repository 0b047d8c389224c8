use Rattle.std.proofs.Common.{◌∙◌, sym, ap, subst}
use Rattle.checkpoint_spec.specs.table_machine.Rows.{table_rows}
use Rattle.checkpoint_spec.specs.table_machine.Table.{Table}
use Rattle.fleet_tables.specs.Groups.{joined, AreFew, rows_of}
use Rattle.kept_nodes.specs.Runs.{number}
use Rattle.kept_nodes.specs.Wanted.{has_own, texts_of}
use Rattle.fleet_tables.proofs.JoinedNodes.{Groups}
use Rattle.fleet_tables.proofs.RowBounds.{counted_few}
use Rattle.fleet_tables.proofs.state.State.sought_number.Goals as goal

pub count_groups-requires : goal.count_groups-requires
count_groups-requires c =
    let inside = c.self.inside in
    subst (λ (gs : Groups). AreFew (joined gs)) (sym c.as_slice.ensures.value) (counted_few inside.total (joined inside.groups.items) c.self.invariant.4 c.self.invariant.5)

pub returns : goal.returns
returns c =
    let inside = c.self.inside in
    let test = has_own c.args.entity (texts_of c.args.sought.now) in
    c.count_groups.ensures inside.ttls inside.expiry ∙ ap (λ (gs : Groups). number test (rows_of c.args.entity inside.ttls inside.expiry (joined gs))) c.as_slice.ensures.value
    ∙ ap (λ (t : Table). number test (table_rows c.args.entity t)) c.self.view_is
