use Rattle.std.proofs.Common.{◌≡◌, ◌∙◌, ◌<◌, ◌++◌, List, length, refl, sym, subst, arith, Some}
use Rattle.std.specs.Prelude.{slice_get}
use Rattle.std.proofs.lemmas.Option.{slice_get_read}
use Rattle.dump_writer.specs.dump_spec.history_spec.Thread.{Item}
use Rattle.kept_nodes.specs.Seen.{node_seen}
use Rattle.kept_nodes.specs.declared.node.Node.{Node}
use Rattle.fleet_dump.specs.Dumpable.{IsDumpableNode}
use Rattle.fleet_dump.specs.Printed.{node_items, items_text, Prints, PrintsLess, PrintsFront}
use Rattle.fleet_dump.proofs.of_plain_laws.Members.{all_at}
use Rattle.fleet_dump.proofs.Progress.{prints_nothing}
use Rattle.fleet_dump.proofs.Loops.{prints_more, less_more, front_more, prints_all}
use Rattle.fleet_dump.proofs.Listed.{boxes_in, each_boxed}
use Rattle.fleet_dump.proofs.dump.print_nodes.Goals as goal

pub nodes-init : goal.nodes-init
nodes-init g c = record { so_far = prints_nothing c.args.printer.now.text.items (g.O.Sink.held c.args.out.now) c.args.printer.now.room; calm = refl }

pub print_node-requires : goal.print_node-requires
print_node-requires g c =
    let xs = c.args.nodes.now in
    let at = c.nodes.node-index in
    let within : at < length xs = omega arith in
    let x = c.node-item.result in
    let there : slice_get xs at ≡ Some x = slice_get_read xs (length xs) at x refl within c.node-item.is in
    subst (λ (n : Node). IsDumpableNode (node_seen n)) (sym c.deref.ensures) (all_at (λ b. IsDumpableNode (node_seen b.value)) xs at x (each_boxed xs c.requires) there)

pub nodes-preserved : goal.nodes-preserved
nodes-preserved g c =
    let held = g.O.Sink.held in
    let xs = c.args.nodes.now in
    let at = c.nodes.node-index in
    let within : at < length xs = omega arith in
    let x = c.node-item.result in
    let there : slice_get xs at ≡ Some x = slice_get_read xs (length xs) at x refl within c.node-item.is in
    let new = c.print_node.new in
    let mid = c.nodes.printer in
    record {
      so_far = prints_more (λ b. node_items (node_seen b.value)) xs at x there c.args.printer.now.text.items mid.text.items (held c.args.out.now) (held c.nodes.out) (held new.out) c.args.printer.now.room mid.room
          c.nodes.invariant.so_far new.printer.text.items new.printer.room (subst (λ (n : Node). Prints (node_items (node_seen n)) mid.text.items new.printer.text.items (held c.nodes.out) (held new.out) mid.room new.printer.room) c.deref.ensures c.in-Ok.ensures.which);
      calm = c.in-Ok.ensures.cause.calm (λ same. absurd (cc)) ∙ c.nodes.invariant.calm;
    }

pub returns-in-WriteFault-clause-which : goal.returns-in-WriteFault-clause-which
returns-in-WriteFault-clause-which g c =
    let held = g.O.Sink.held in
    let xs = c.args.nodes.now in
    let at = c.nodes.node-index in
    let within : at < length xs = omega arith in
    let x = c.node-item.result in
    let there : slice_get xs at ≡ Some x = slice_get_read xs (length xs) at x refl within c.node-item.is in
    let new = c.print_node.new in
    let mid = c.nodes.printer in
    let old = c.args.printer.now in
    subst (λ (items : List Item). PrintsLess (old.text.items ++ items_text items) (held c.args.out.now) (held new.out)) (boxes_in xs)
    (less_more (λ b. node_items (node_seen b.value)) xs at x there old.text.items mid.text.items (held c.args.out.now) (held c.nodes.out) (held new.out) old.room mid.room c.nodes.invariant.so_far
    (subst (λ (n : Node). PrintsLess (mid.text.items ++ items_text (node_items (node_seen n))) (held c.nodes.out) (held new.out)) c.deref.ensures c.in-WriteFault.ensures.which))

pub returns-in-Memory-clause-which : goal.returns-in-Memory-clause-which
returns-in-Memory-clause-which g c =
    let held = g.O.Sink.held in
    let xs = c.args.nodes.now in
    let at = c.nodes.node-index in
    let within : at < length xs = omega arith in
    let x = c.node-item.result in
    let there : slice_get xs at ≡ Some x = slice_get_read xs (length xs) at x refl within c.node-item.is in
    let new = c.print_node.new in
    let mid = c.nodes.printer in
    let old = c.args.printer.now in
    subst (λ (items : List Item). PrintsFront (old.text.items ++ items_text items) (held c.args.out.now) (held new.out)) (boxes_in xs)
    (front_more (λ b. node_items (node_seen b.value)) xs at x there old.text.items mid.text.items (held c.args.out.now) (held c.nodes.out) (held new.out) old.room mid.room c.nodes.invariant.so_far
    (subst (λ (n : Node). PrintsFront (mid.text.items ++ items_text (node_items (node_seen n))) (held c.nodes.out) (held new.out)) c.deref.ensures c.in-Memory.ensures.which))

pub returns-clause-which : goal.returns-clause-which
returns-clause-which g c =
    let held = g.O.Sink.held in
    let xs = c.args.nodes.now in
    let at = c.nodes.node-index in
    let all : at ≡ length xs = omega (arith, c.nodes-test.false) in
    let last = c.nodes.printer in
    let old = c.args.printer.now in
    subst (λ (items : List Item). Prints items old.text.items last.text.items (held c.args.out.now) (held c.nodes.out) old.room last.room) (boxes_in xs)
    (prints_all (λ b. node_items (node_seen b.value)) xs at old.text.items last.text.items (held c.args.out.now) (held c.nodes.out) old.room last.room all c.nodes.invariant.so_far)
