use Rattle.std.proofs.Common.{◌∙◌, ◌<◌, length, sym, ap, arith}
use Rattle.std.specs.List.{slice_index_or}
use Rattle.std.proofs.Math.ListN.{set}
use Rattle.std.proofs.lemmas.List.{length-map}
use Rattle.std.proofs.lemmas.List.Edits.{map_over_more}
use Rattle.checkpoint_spec.specs.table_machine.Steps.{with_retained}
use Rattle.kept_nodes.specs.Places.{seen_in, nodes_in}
use Rattle.kept_nodes.specs.Seen.{node_seen}
use Rattle.kept_nodes.proofs.FoundNodes.{box_kept}
use Rattle.kept_nodes.proofs.PutNodes.{seen_at, seen_changed, kept_changed}
use Rattle.fleet_tables.proofs.group.retain_each.Goals as goal

pub retain-requires-clause-kept : goal.retain-requires-clause-kept
retain-requires-clause-kept c =
    let boxes = c.sweeping.node-items in
    let b = c.node-item.result in
    let within : c.sweeping.node-index < length boxes = omega arith in
    box_kept boxes c.sweeping.node-index b c.deref_mut.result.now c.sweeping.invariant.kept within c.node-item.is (c.deref_mut.ensures.value ∙ ap (λ x. x.value) (sym c.node-item.is))

pub sweeping-preserved : goal.sweeping-preserved
sweeping-preserved c =
    let boxes = c.sweeping.node-items in
    let i = c.sweeping.node-index in
    let b = c.node-item.result in
    let f = with_retained c.args.ttls.now c.args.retention.now in
    let old = seen_in c.args.nodes.now in
    let within : i < length boxes = omega arith in
    let within_old : i < length old = omega (arith, within, length-map c.args.nodes.now (λ x. x.value), length-map (nodes_in c.args.nodes.now) node_seen) in
    let value = c.deref_mut.ensures.value ∙ ap (λ x. x.value) (sym c.node-item.is) in
    let there = seen_at boxes i b c.deref_mut.result.now within c.node-item.is value in
    record {
      seen = seen_changed boxes i (slice_index_or boxes i b) c.retain.new.self ∙ ap (set (seen_in boxes) i) c.retain.ensures.seen
          ∙ map_over_more f old (seen_in boxes) i (node_seen c.deref_mut.result.now) within_old c.sweeping.invariant.seen there;
      kept = kept_changed boxes i (slice_index_or boxes i b) c.retain.new.self c.sweeping.invariant.kept c.retain.ensures.kept;
    }
