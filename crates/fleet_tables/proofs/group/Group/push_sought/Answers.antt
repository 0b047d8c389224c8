use Rattle.std.proofs.Common.{◌∙◌, ◌<◌, ◌^◌, ◌+◌, ◌++◌, List, length, sym, ap, subst}
use Rattle.std.specs.List.{AllByRecursion}
use Rattle.std.proofs.lemmas.Result.{on_ok_weaker}
use Rattle.checkpoint_spec.specs.table_machine.Table as machine
use Rattle.fleet_tables.specs.Groups.{rows_of}
use Rattle.kept_nodes.specs.Kept.{IsNode}
use Rattle.kept_nodes.specs.Places.{Boxes, nodes_in, seen_in}
use Rattle.kept_nodes.specs.Spans.{places_from}
use Rattle.kept_nodes.specs.Wanted.{has_own, texts_of}
use Rattle.fleet_tables.proofs.group.Group.push_sought.Goals as goal

pub push_nodes-requires : goal.push_nodes-requires
push_nodes-requires c = record {
  kept = subst (λ (l : Boxes). AllByRecursion IsNode (nodes_in l)) (sym c.as_slice.ensures.value) c.self.invariant.0;
  few = λ ttls expiry.
      subst (λ (l : Boxes). c.args.before + length (rows_of c.args.entity ttls expiry (seen_in l)) < 2 ^ 64) (sym c.as_slice.ensures.value)
      (subst (λ (ns : List machine.Node). c.args.before + length (rows_of c.args.entity ttls expiry ns) < 2 ^ 64) (sym c.self.view_is) (c.requires ttls expiry));
}

pub returns : goal.returns
returns c =
    on_ok_weaker c.push_nodes.result (λ h ttls expiry.
    h ttls expiry ∙ ap (λ (l : Boxes). c.args.places.now.items ++ places_from c.args.before (has_own c.args.entity (texts_of c.args.sought.now)) (rows_of c.args.entity ttls expiry (seen_in l))) c.as_slice.ensures.value
    ∙ ap (λ (ns : List machine.Node). c.args.places.now.items ++ places_from c.args.before (has_own c.args.entity (texts_of c.args.sought.now)) (rows_of c.args.entity ttls expiry ns)) c.self.view_is)
    c.push_nodes.ensures
