use Rattle.std.proofs.Common.{◌≡◌, ◌∙◌, ◌≤◌, length, map, take, true, false, sym, ap, subst, arith}
use Rattle.std.specs.declared.alloc.Global.{Global}
use Rattle.std.specs.declared.boxed.Box.{Box}
use Rattle.std.specs.Box.{with_value}
use Rattle.std.proofs.Math.ListN.{set}
use Rattle.std.proofs.lemmas.List.{length-map, length-set, map-set, take-set}
use Rattle.checkpoint_spec.specs.fleet_rows.Change.{change_certname}
use Rattle.checkpoint_spec.specs.fleet_rows.declared.applied.Applied.{Applied}
use Rattle.checkpoint_spec.specs.history_spec.Trace.{applied_as}
use Rattle.checkpoint_spec.specs.table_machine.Steps.{find_node, with_node, with_applied}
use Rattle.kept_nodes.specs.Counted.{IsCountedBefore, counts, numbers}
use Rattle.kept_nodes.specs.Places.{Boxes, nodes_in, seen_in, reports_of}
use Rattle.kept_nodes.specs.Computed.{IsShownFor}
use Rattle.kept_nodes.specs.Seen.{node_seen, report_seen}
use Rattle.kept_nodes.specs.declared.node.Node.{Node}
use Rattle.kept_nodes.proofs.Counting.{counted_before, numbers_kept}
use Rattle.kept_nodes.proofs.FoundNodes.{box_kept}
use Rattle.kept_nodes.proofs.PutNodes.{seen_there, seen_changed, kept_changed, is_none}
use Rattle.fleet_tables.proofs.group.apply_change.Goals as goal
use Rattle.fleet_tables.proofs.group.apply_change.Goals.{then-came, else-came}

pub apply-changed-requires-clause-kept : goal.apply-changed-requires-clause-kept
apply-changed-requires-clause-kept c =
    box_kept c.node_at-at.new.nodes.items c.node_at-at.result c.index_mut.result.now c.deref_mut.result.now c.node_at-at.ensures.kept c.node_at-at.ensures.place c.index_mut.ensures.value c.deref_mut.ensures.value

pub apply-changed-requires-clause-shown : goal.apply-changed-requires-clause-shown
apply-changed-requires-clause-shown c =
    let node = c.deref_mut.result.now in
    let there = seen_there c.node_at-at.new.nodes.items c.node_at-at.result c.index_mut.result.now node c.node_at-at.ensures.place c.index_mut.ensures.value c.deref_mut.ensures.value in
    let reports : map report_seen node.reports.items ≡ reports_of (find_node c.certname.result.now (seen_in c.args.nodes.now.items)) = (c.node_at-at.ensures.node (node_seen node) there).0 in
    let same : reports_of (find_node (change_certname c.args.change) (seen_in c.args.nodes.now.items)) ≡ map report_seen node.reports.items =
    ap (λ name. reports_of (find_node name (seen_in c.args.nodes.now.items))) (sym c.certname.ensures) ∙ sym reports in
    subst (IsShownFor c.args.shown c.args.change) same c.requires.room.0

pub returns-clause-seen : goal.returns-clause-seen
returns-clause-seen c =
    let boxes = c.node_at-at.new.nodes.items in
    let at = c.node_at-at.result in
    let node = c.deref_mut.result.now in
    let x : Applied = applied_as c.args.receipt c.args.received c.args.change in
    let there = seen_there boxes at c.index_mut.result.now node c.node_at-at.ensures.place c.index_mut.ensures.value c.deref_mut.ensures.value in
    seen_changed boxes at c.index_mut.result.now c.apply-changed.new.self
    ∙ ap (set (seen_in boxes) at) c.apply-changed.ensures.seen
    ∙ sym ((c.node_at-at.ensures.node (node_seen node) there).1 (with_applied c.args.ttls.now c.args.retention.now x))
    ∙ ap (λ name. with_node name (with_applied c.args.ttls.now c.args.retention.now x) (seen_in c.args.nodes.now.items)) c.certname.ensures

pub returns-clause-kept : goal.returns-clause-kept
returns-clause-kept c =
    kept_changed c.node_at-at.new.nodes.items c.node_at-at.result c.index_mut.result.now c.apply-changed.new.self c.node_at-at.ensures.kept c.apply-changed.ensures.kept

pub returns-clause-counted : goal.returns-clause-counted
returns-clause-counted c =
    let boxes = c.node_at-at.new.nodes.items in
    let at = c.node_at-at.result in
    let b = c.index_mut.result.now in
    let node = c.apply-changed.new.self in
    let old = nodes_in c.args.nodes.now.items in
    let new = nodes_in (set boxes at (with_value b node)) in
    let list : new ≡ set (nodes_in boxes) at node = map-set (λ (x : Box Node Global). x.value) boxes at (with_value b node) in
    let within : at ≤ length new = omega (arith, length-map (set boxes at (with_value b node)) (λ (x : Box Node Global). x.value), length-set boxes at (with_value b node), c.node_at-at.ensures.place) in
    let front : take at new ≡ take at old = ap (take at) list ∙ take-set (nodes_in boxes) at node ∙ c.node_at-at.ensures.before in
    let kept : c.is_some-came.result ≡ false → c.apply-changed.result ≡ false → numbers new ≡ numbers old =
    λ came changed.
    numbers_kept boxes at b node c.index_mut.ensures.value c.node_at-at.ensures.place
    (c.apply-changed.ensures.before ∙ ap (λ (n : Node). n.before) c.deref_mut.ensures.value)
    (c.apply-changed.ensures.counts changed ∙ ap counts c.deref_mut.ensures.value)
    ∙ ap (λ (l : Boxes). numbers (nodes_in l)) (c.node_at-at.ensures.same (is_none c.args.new (sym c.is_some-came.ensures ∙ came))) in
    let same : c.if-came.then_some ≡ false → numbers new ≡ numbers old =
    λ e. elim c.if-came.branch [
      | then-came w ↦ let no : true ≡ false = sym w.if-came.true ∙ sym w.then_some-is ∙ e in cc
      | else-came w ↦ kept w.if-came.false (sym w.then_some-is ∙ e)
    ] in
    subst (λ from. IsCountedBefore from old new) (sym c.then_some.ensures) (counted_before old new at c.if-came.then_some within front same)
