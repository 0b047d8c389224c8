use Rattle.std.proofs.Common.{◌≡◌, ◌+◌, Ok, sym, subst, arith}
use Rattle.checkpoint_spec.specs.table_machine.Rows.{table_rows}
use Rattle.checkpoint_spec.specs.table_machine.Table.{Table}
use Rattle.fleet_tables.specs.Groups.{joined, AreFew, rows_of}
use Rattle.kept_nodes.specs.Runs.{number}
use Rattle.kept_nodes.specs.Spans.{IsNthPlace}
use Rattle.kept_nodes.specs.Wanted.{has_own, texts_of}
use Rattle.fleet_tables.proofs.JoinedNodes.{Groups}
use Rattle.fleet_tables.proofs.RowBounds.{counted_few}
use Rattle.fleet_tables.proofs.state.State.sought_at.Goals as goal

pub place_in_groups-requires : goal.place_in_groups-requires
place_in_groups-requires c =
    let inside = c.self.inside in
    subst (λ (gs : Groups). AreFew (joined gs)) (sym c.as_slice.ensures.value) (counted_few inside.total (joined inside.groups.items) c.self.invariant.4 c.self.invariant.5)

pub returns : goal.returns
returns c =
    let inside = c.self.inside in
    let test = has_own c.args.entity (texts_of c.args.sought.now) in
    subst (λ (t : Table). IsNthPlace 0 test (table_rows c.args.entity t) c.args.i (Ok c.in-Ok.place)) c.self.view_is
    (subst (λ (gs : Groups). IsNthPlace 0 test (rows_of c.args.entity inside.ttls inside.expiry (joined gs)) c.args.i (Ok c.in-Ok.place)) c.as_slice.ensures.value
    (c.in-Ok.ensures inside.ttls inside.expiry))

-- behind all rows no row is sought
pub unreachable-requires : goal.unreachable-requires
unreachable-requires c =
    let inside = c.self.inside in
    let test = has_own c.args.entity (texts_of c.args.sought.now) in
    let behind : c.args.i ≡ number test (table_rows c.args.entity c.args.self.now) + c.in-Err.field-0 =
    subst (λ (t : Table). c.args.i ≡ number test (table_rows c.args.entity t) + c.in-Err.field-0) c.self.view_is
    (subst (λ (gs : Groups). c.args.i ≡ number test (rows_of c.args.entity inside.ttls inside.expiry (joined gs)) + c.in-Err.field-0) c.as_slice.ensures.value (c.in-Err.ensures inside.ttls inside.expiry)) in
    absurd (omega (arith, behind, c.requires))
