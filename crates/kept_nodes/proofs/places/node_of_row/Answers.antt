use Rattle.std.proofs.Common.{◌≡◌, ◌≤◌, ◌<◌, ◌+◌, ◌-◌, ◌/◌, suc, take, ap, arith, rules}
use Rattle.kept_nodes.specs.Counted.{none, count_of, total_from}
use Rattle.kept_nodes.specs.Places.{nodes_in}
use Rattle.kept_nodes.proofs.Counting.{box_before, has_row}
use Rattle.kept_nodes.proofs.places.node_of_row.Goals as goal

pub halves-preserved-then-of-i : goal.halves-preserved-then-of-i
halves-preserved-then-of-i c =
    let nodes = c.args.nodes.now in
    let middle = c.halves.low + (c.halves.high - c.halves.low) / 2 in
    let b = c.index-nodes-middle.result in
    let before : count_of c.args.entity b.value.before ≡ count_of c.args.entity (total_from none (take middle (nodes_in nodes))) =
    ap (count_of c.args.entity) (box_before nodes middle b c.requires.counted (omega arith) c.index-nodes-middle.is) in
    let few : count_of c.args.entity b.value.before ≤ c.args.i = search rules in
    record { ordered = omega arith; within = c.halves.invariant.within; before = omega (arith, before, few); behind = c.halves.invariant.behind }

pub halves-preserved : goal.halves-preserved
halves-preserved c =
    let nodes = c.args.nodes.now in
    let middle = c.halves.low + (c.halves.high - c.halves.low) / 2 in
    let b = c.index-nodes-middle.result in
    let before : count_of c.args.entity b.value.before ≡ count_of c.args.entity (total_from none (take middle (nodes_in nodes))) =
    ap (count_of c.args.entity) (box_before nodes middle b c.requires.counted (omega arith) c.index-nodes-middle.is) in
    let many : c.args.i < count_of c.args.entity b.value.before = search rules in
    record { ordered = omega arith; within = omega arith; before = c.halves.invariant.before; behind = omega (arith, before, many) }

pub returns-clause-row : goal.returns-clause-row
returns-clause-row c = λ node e.
    let next : c.halves.high ≡ suc c.halves.low = omega arith in
    has_row c.args.entity c.args.i (nodes_in c.args.nodes.now) c.halves.low c.halves.high node c.requires.counted e next c.halves.invariant.before c.halves.invariant.behind
