use Rattle.std.proofs.Common.{◌≡◌, ◌∙◌, ◌<◌, ◌++◌, List, length, refl, subst, arith, Some}
use Rattle.std.specs.List.{AllByRecursion, flat_map}
use Rattle.std.specs.Prelude.{slice_get}
use Rattle.std.proofs.lemmas.Option.{slice_get_read}
use Rattle.dump_writer.specs.dump_spec.history_spec.Thread.{Item}
use Rattle.kept_nodes.specs.Places.{seen_in}
use Rattle.fleet_dump.specs.Dumpable.{IsDumpableNode}
use Rattle.fleet_dump.specs.Printed.{node_items, items_text, Prints, PrintsLess, PrintsFront}
use Rattle.fleet_dump.proofs.of_plain_laws.Members.{all_at}
use Rattle.fleet_dump.proofs.Progress.{prints_nothing}
use Rattle.fleet_dump.proofs.Loops.{prints_more, less_more, front_more, prints_all}
use Rattle.fleet_dump.proofs.dump.print_lists.Goals as goal

pub lists-init : goal.lists-init
lists-init g c = record { so_far = prints_nothing c.args.printer.now.text.items (g.O.Sink.held c.args.out.now) c.args.printer.now.room; calm = refl }

pub print_nodes-requires : goal.print_nodes-requires
print_nodes-requires g c =
    let xs = c.args.lists.now in
    let at = c.lists.nodes-index in
    let within : at < length xs = omega arith in
    let x = c.nodes-item.result in
    let there : slice_get xs at ≡ Some x = slice_get_read xs (length xs) at x refl within c.nodes-item.is in
    all_at (λ nodes. AllByRecursion IsDumpableNode (seen_in nodes.now)) xs at x c.requires there

pub lists-preserved : goal.lists-preserved
lists-preserved g c =
    let held = g.O.Sink.held in
    let xs = c.args.lists.now in
    let at = c.lists.nodes-index in
    let within : at < length xs = omega arith in
    let x = c.nodes-item.result in
    let there : slice_get xs at ≡ Some x = slice_get_read xs (length xs) at x refl within c.nodes-item.is in
    let new = c.print_nodes.new in
    let mid = c.lists.printer in
    record {
      so_far = prints_more (λ nodes. flat_map node_items (seen_in nodes.now)) xs at x there c.args.printer.now.text.items mid.text.items (held c.args.out.now) (held c.lists.out) (held new.out) c.args.printer.now.room mid.room
          c.lists.invariant.so_far new.printer.text.items new.printer.room c.in-Ok.ensures.which;
      calm = c.in-Ok.ensures.cause.calm (λ same. absurd (cc)) ∙ c.lists.invariant.calm;
    }

pub returns-in-WriteFault-clause-which : goal.returns-in-WriteFault-clause-which
returns-in-WriteFault-clause-which g c =
    let held = g.O.Sink.held in
    let xs = c.args.lists.now in
    let at = c.lists.nodes-index in
    let within : at < length xs = omega arith in
    let x = c.nodes-item.result in
    let there : slice_get xs at ≡ Some x = slice_get_read xs (length xs) at x refl within c.nodes-item.is in
    let new = c.print_nodes.new in
    let mid = c.lists.printer in
    let old = c.args.printer.now in
    subst (λ (items : List Item). PrintsLess (old.text.items ++ items_text items) (held c.args.out.now) (held new.out)) (refl)
    (less_more (λ nodes. flat_map node_items (seen_in nodes.now)) xs at x there old.text.items mid.text.items (held c.args.out.now) (held c.lists.out) (held new.out) old.room mid.room c.lists.invariant.so_far
    c.in-WriteFault.ensures.which)

pub returns-in-Memory-clause-which : goal.returns-in-Memory-clause-which
returns-in-Memory-clause-which g c =
    let held = g.O.Sink.held in
    let xs = c.args.lists.now in
    let at = c.lists.nodes-index in
    let within : at < length xs = omega arith in
    let x = c.nodes-item.result in
    let there : slice_get xs at ≡ Some x = slice_get_read xs (length xs) at x refl within c.nodes-item.is in
    let new = c.print_nodes.new in
    let mid = c.lists.printer in
    let old = c.args.printer.now in
    subst (λ (items : List Item). PrintsFront (old.text.items ++ items_text items) (held c.args.out.now) (held new.out)) (refl)
    (front_more (λ nodes. flat_map node_items (seen_in nodes.now)) xs at x there old.text.items mid.text.items (held c.args.out.now) (held c.lists.out) (held new.out) old.room mid.room c.lists.invariant.so_far
    c.in-Memory.ensures.which)

pub returns-clause-which : goal.returns-clause-which
returns-clause-which g c =
    let held = g.O.Sink.held in
    let xs = c.args.lists.now in
    let at = c.lists.nodes-index in
    let all : at ≡ length xs = omega (arith, c.lists-test.false) in
    let last = c.lists.printer in
    let old = c.args.printer.now in
    subst (λ (items : List Item). Prints items old.text.items last.text.items (held c.args.out.now) (held c.lists.out) old.room last.room) (refl)
    (prints_all (λ nodes. flat_map node_items (seen_in nodes.now)) xs at old.text.items last.text.items (held c.args.out.now) (held c.lists.out) old.room last.room all c.lists.invariant.so_far)
