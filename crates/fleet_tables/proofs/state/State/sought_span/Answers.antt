use Rattle.std.proofs.Common.{sym, subst}
use Rattle.std.specs.List.{AllByRecursion}
use Rattle.checkpoint_spec.specs.table_machine.Rows.{table_rows}
use Rattle.checkpoint_spec.specs.table_machine.Table.{Table}
use Rattle.fleet_tables.specs.Groups.{joined, AreFew, AreFilledOrOne, StandInOrder, rows_of}
use Rattle.kept_nodes.specs.Owned.{IsOwn}
use Rattle.kept_nodes.specs.Spans.{IsSpanOf}
use Rattle.kept_nodes.specs.Wanted.{is_of_node, texts_of}
use Rattle.fleet_tables.proofs.JoinedNodes.{Groups, filled_or_one}
use Rattle.fleet_tables.proofs.RowBounds.{counted_few}
use Rattle.fleet_tables.proofs.state.State.sought_span.Goals as goal

pub span_among-requires : goal.span_among-requires
span_among-requires c =
    let inside = c.self.inside in
    let groups = inside.groups.items in
    let same = sym c.as_slice.ensures.value in
    record {
      filled = subst AreFilledOrOne same (filled_or_one groups c.self.invariant.2);
      order = subst (λ (gs : Groups). StandInOrder (joined gs)) same c.self.invariant.3;
      few = subst (λ (gs : Groups). AreFew (joined gs)) same (counted_few inside.total (joined groups) c.self.invariant.4 c.self.invariant.5);
      own = subst (λ (gs : Groups). AllByRecursion IsOwn (joined gs)) same c.self.invariant.6;
    }

pub returns : goal.returns
returns c =
    let inside = c.self.inside in
    let test = is_of_node c.args.entity c.args.certname.now (texts_of c.args.sought.now) in
    subst (λ (t : Table). IsSpanOf test (table_rows c.args.entity t) c.span_among.result) c.self.view_is
    (subst (λ (gs : Groups). IsSpanOf test (rows_of c.args.entity inside.ttls inside.expiry (joined gs)) c.span_among.result) c.as_slice.ensures.value (c.span_among.ensures inside.ttls inside.expiry))
