use Rattle.std.proofs.Common.{◌∙◌, ◌<◌, ◌^◌, List, length, sym, ap, subst}
use Rattle.std.specs.List.{AllByRecursion}
use Rattle.checkpoint_spec.specs.table_machine.Table as machine
use Rattle.fleet_tables.specs.Groups.{rows_of}
use Rattle.kept_nodes.specs.Kept.{IsNode}
use Rattle.kept_nodes.specs.Places.{Boxes, nodes_in, seen_in}
use Rattle.kept_nodes.specs.Runs.{number}
use Rattle.kept_nodes.specs.Wanted.{has_own, texts_of}
use Rattle.fleet_tables.proofs.group.Group.sought_count.Goals as goal

pub count_nodes-requires : goal.count_nodes-requires
count_nodes-requires c = record {
  kept = subst (λ (l : Boxes). AllByRecursion IsNode (nodes_in l)) (sym c.as_slice.ensures.value) c.self.invariant.0;
  few = λ ttls expiry.
      subst (λ (l : Boxes). length (rows_of c.args.entity ttls expiry (seen_in l)) < 2 ^ 64) (sym c.as_slice.ensures.value)
      (subst (λ (ns : List machine.Node). length (rows_of c.args.entity ttls expiry ns) < 2 ^ 64) (sym c.self.view_is) (c.requires ttls expiry));
}

pub returns : goal.returns
returns c = λ ttls expiry.
    let test = has_own c.args.entity (texts_of c.args.sought.now) in
    c.count_nodes.ensures ttls expiry ∙ ap (λ (l : Boxes). number test (rows_of c.args.entity ttls expiry (seen_in l))) c.as_slice.ensures.value
    ∙ ap (λ (ns : List machine.Node). number test (rows_of c.args.entity ttls expiry ns)) c.self.view_is
