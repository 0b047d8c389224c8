use Rattle.std.proofs.Common.{◌≡◌, ◌∙◌, ℕ, List, ◌<◌, ◌+◌, ◌-◌, get_or, slice_get, None, Some, length, refl, sym, ap, subst, arith}
use Rattle.std.specs.List.{flat_map}
use Rattle.std.specs.declared.alloc.Global.{Global}
use Rattle.std.specs.declared.boxed.Box.{Box}
use Rattle.checkpoint_spec.specs.fleet_rows.Defaults.{default_ttls}
use Rattle.checkpoint_spec.specs.fleet_rows.declared.row.Entity.{Entity}
use Rattle.checkpoint_spec.specs.table_machine.Rows.{node_rows}
use Rattle.checkpoint_spec.specs.table_machine.Table as machine
use Rattle.fleet_tables.specs.Groups.{rows_of}
use Rattle.kept_nodes.specs.Counted.{none, counts, count_of, total_from}
use Rattle.kept_nodes.specs.Places.{nodes_in, Boxes, HasRow}
use Rattle.kept_nodes.specs.Seen.{node_seen}
use Rattle.kept_nodes.specs.declared.node.Node.{Node}
use Rattle.kept_nodes.proofs.FoundNodes.{box_kept}
use Rattle.kept_nodes.proofs.NodePlaces.{box_there}
use Rattle.kept_nodes.proofs.RowCounts.{total_is}
use Rattle.kept_nodes.proofs.RowPlaces.{row_of_node}
use Rattle.fleet_tables.proofs.group.Group.node_at.Goals as goal

record Place (boxes : Boxes) (entity : Entity) (i k : ℕ) (b : Box Node Global) : Type 0 where
  within : k < length boxes
  there : slice_get (nodes_in boxes) k ≡ Some b.value
  row : HasRow entity i b.value

place : (boxes slice : Boxes) (entity : Entity) (i k : ℕ) (b : Box Node Global) → slice ≡ boxes → k < length slice → ((node : Node) → slice_get (nodes_in slice) k ≡ Some node → HasRow entity i node) → b ≡ get_or boxes k b → Place boxes entity i k b
place boxes slice entity i k b same h row is =
    let within : k < length boxes = subst (λ (l : Boxes). k < length l) same h in
    let there = box_there boxes k b within is in
    record { within = within; there = there; row = row b.value (ap (λ (l : Boxes). slice_get (nodes_in l) k) same ∙ there) }

pub node_of_row-at-requires-clause-within : goal.node_of_row-at-requires-clause-within
node_of_row-at-requires-clause-within c =
    let boxes = c.self.inside.nodes.items in
    let number = total_is default_ttls None c.args.entity (nodes_in boxes) c.self.invariant.0 ∙ ap (λ (ns : List machine.Node). length (rows_of c.args.entity default_ttls None ns)) c.self.view_is in
    subst (λ (l : Boxes). c.args.i < count_of c.args.entity (total_from none (nodes_in l))) (sym c.as_slice.ensures.value) (subst (λ n. c.args.i < n) (sym number) (c.requires default_ttls None))

pub overflow_sub-result : goal.overflow_sub-result
overflow_sub-result c =
    let p = place c.self.inside.nodes.items c.as_slice.result.now c.args.entity c.args.i c.node_of_row-at.result c.index.result.now c.as_slice.ensures.value c.node_of_row-at.ensures.place c.node_of_row-at.ensures.row c.index.ensures in
    let before = c.of.ensures ∙ ap (λ (n : Node). count_of c.args.entity n.before) c.deref-node.ensures in
    omega (arith, p.row.0, before)

pub returns-clause-kept : goal.returns-clause-kept
returns-clause-kept c =
    let boxes = c.self.inside.nodes.items in
    let p = place boxes c.as_slice.result.now c.args.entity c.args.i c.node_of_row-at.result c.index.result.now c.as_slice.ensures.value c.node_of_row-at.ensures.place c.node_of_row-at.ensures.row c.index.ensures in
    box_kept boxes c.node_of_row-at.result c.index.result.now c.deref-node.result.now c.self.invariant.0 p.within c.index.ensures c.deref-node.ensures

pub returns-clause-within : goal.returns-clause-within
returns-clause-within c =
    let boxes = c.self.inside.nodes.items in
    let p = place boxes c.as_slice.result.now c.args.entity c.args.i c.node_of_row-at.result c.index.result.now c.as_slice.ensures.value c.node_of_row-at.ensures.place c.node_of_row-at.ensures.row c.index.ensures in
    let before = c.of.ensures ∙ ap (λ (n : Node). count_of c.args.entity n.before) c.deref-node.ensures in
    let number = ap (λ (n : Node). count_of c.args.entity (counts n)) c.deref-node.ensures in
    omega (arith, p.row.0, p.row.1, before, number)

pub returns-clause-row : goal.returns-clause-row
returns-clause-row c = λ ttls expiry.
    let boxes = c.self.inside.nodes.items in
    let entity = c.args.entity in
    let b = c.index.result.now in
    let p = place boxes c.as_slice.result.now entity c.args.i c.node_of_row-at.result b c.as_slice.ensures.value c.node_of_row-at.ensures.place c.node_of_row-at.ensures.row c.index.ensures in
    let before = c.of.ensures ∙ ap (λ (n : Node). count_of entity n.before) c.deref-node.ensures in
    let kept = box_kept boxes c.node_of_row-at.result b b.value c.self.invariant.0 p.within c.index.ensures refl in
    ap (λ (ns : List machine.Node). slice_get (flat_map (node_rows entity ttls expiry) ns) c.args.i) (sym c.self.view_is)
    ∙ row_of_node ttls expiry entity (nodes_in boxes) c.node_of_row-at.result b.value c.args.i c.self.invariant.0 c.self.invariant.2 kept p.there p.row
    ∙ (λ j. slice_get (node_rows entity ttls expiry (node_seen (sym c.deref-node.ensures j))) (c.args.i - sym before j))

pub returns-clause-rows : goal.returns-clause-rows
returns-clause-rows c = λ ttls expiry d lt.
    let boxes = c.self.inside.nodes.items in
    let entity = c.args.entity in
    let b = c.index.result.now in
    let p = place boxes c.as_slice.result.now entity c.args.i c.node_of_row-at.result b c.as_slice.ensures.value c.node_of_row-at.ensures.place c.node_of_row-at.ensures.row c.index.ensures in
    let before = c.of.ensures ∙ ap (λ (n : Node). count_of entity n.before) c.deref-node.ensures in
    let number = ap (λ (n : Node). count_of entity (counts n)) c.deref-node.ensures in
    let kept = box_kept boxes c.node_of_row-at.result b b.value c.self.invariant.0 p.within c.index.ensures refl in
    let further : HasRow entity (c.args.i + d) b.value = (omega (arith, p.row.0), omega (arith, p.row.0, p.row.1, before, number, lt)) in
    let same : (c.args.i + d) - count_of entity b.value.before ≡ (c.args.i - count_of entity b.value.before) + d = omega (arith, p.row.0) in
    ap (λ (ns : List machine.Node). slice_get (flat_map (node_rows entity ttls expiry) ns) (c.args.i + d)) (sym c.self.view_is)
    ∙ row_of_node ttls expiry entity (nodes_in boxes) c.node_of_row-at.result b.value (c.args.i + d) c.self.invariant.0 c.self.invariant.2 kept p.there further
    ∙ ap (slice_get (node_rows entity ttls expiry (node_seen b.value))) same
    ∙ (λ j. slice_get (node_rows entity ttls expiry (node_seen (sym c.deref-node.ensures j))) ((c.args.i - sym before j) + d))
