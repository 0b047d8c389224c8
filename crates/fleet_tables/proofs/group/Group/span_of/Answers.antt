use Rattle.std.proofs.Common.{List, sym, subst}
use Rattle.std.specs.List.{AllByRecursion}
use Rattle.checkpoint_spec.specs.table_machine.Table as machine
use Rattle.kept_nodes.specs.Counted.{none, AreCountedFrom}
use Rattle.fleet_tables.specs.Groups.{rows_of, AreFew}
use Rattle.kept_nodes.specs.Kept.{IsNode}
use Rattle.kept_nodes.specs.Owned.{IsOwn}
use Rattle.kept_nodes.specs.Places.{Boxes, nodes_in, seen_in, InOrder}
use Rattle.kept_nodes.specs.Spans.{IsSpanOf}
use Rattle.kept_nodes.specs.Wanted.{is_of_node, texts_of}
use Rattle.fleet_tables.proofs.RowBounds.{nodes_counted, counted_few}
use Rattle.fleet_tables.proofs.group.Group.span_of.Goals as goal

pub span_in-requires : goal.span_in-requires
span_in-requires c =
    let boxes = c.self.inside.nodes.items in
    let total = c.self.inside.total in
    let same = sym c.as_slice.ensures.value in
    record {
      kept = subst (λ (l : Boxes). AllByRecursion IsNode (nodes_in l)) same c.self.invariant.0;
      order = subst (λ (l : Boxes). InOrder (nodes_in l)) same c.self.invariant.1;
      counted = subst (λ (l : Boxes). AreCountedFrom none (nodes_in l)) same c.self.invariant.2;
      few = subst (λ (l : Boxes). AreFew (seen_in l)) same (counted_few total (seen_in boxes) (nodes_counted (nodes_in boxes) total c.self.invariant.0 c.self.invariant.3) c.self.invariant.4);
      own = subst (λ (l : Boxes). AllByRecursion IsOwn (seen_in l)) same (subst (AllByRecursion IsOwn) (sym c.self.view_is) c.requires);
    }

pub returns : goal.returns
returns c = λ ttls expiry.
    let test = is_of_node c.args.entity c.args.certname.now (texts_of c.args.sought.now) in
    subst (λ (ns : List machine.Node). IsSpanOf test (rows_of c.args.entity ttls expiry ns) c.span_in.result) c.self.view_is
    (subst (λ (l : Boxes). IsSpanOf test (rows_of c.args.entity ttls expiry (seen_in l)) c.span_in.result) c.as_slice.ensures.value (c.span_in.ensures ttls expiry))
