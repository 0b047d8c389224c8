use Rattle.std.proofs.Common.{◌++◌, List, subst, true, false, flat_map}
use Rattle.dump_writer.specs.dump_spec.history_spec.Thread.{Item}
use Rattle.fleet_dump.specs.Printed.{node_items, sweep_items, items_text, Printed, PrintsLess, PrintsFront}
use Rattle.fleet_dump.proofs.Progress.{printed_then, less_of_first, front_of_first}
use Rattle.fleet_dump.proofs.Whole.{items_are}
use Rattle.fleet_dump.proofs.dump.print_tables.Goals as goal

pub returns-in-Ok-clause-which : goal.returns-in-Ok-clause-which
returns-in-Ok-clause-which g c =
    let held = g.O.Sink.held in
    let t = c.args.tables.now in
    let old = c.args.printer.now in
    let mid = c.print_all_nodes.new in
    let new = c.print_sweeps.new in
    let r = c.print_sweeps.result in
    subst (λ (items : List Item). Printed r items old.text.items new.printer.text.items (held c.args.out.now) (held new.out) old.room new.printer.room) (items_are t)
    (printed_then r (flat_map node_items t.nodes) (sweep_items false t.expiry ++ sweep_items true t.retention) old.text.items mid.printer.text.items new.printer.text.items
    (held c.args.out.now) (held mid.out) (held new.out) old.room mid.printer.room new.printer.room c.in-Ok.ensures.which c.print_sweeps.ensures.which)

pub returns-in-WriteFault-clause-which : goal.returns-in-WriteFault-clause-which
returns-in-WriteFault-clause-which g c =
    let held = g.O.Sink.held in
    let t = c.args.tables.now in
    let old = c.args.printer.now.text.items in
    let after = held c.print_all_nodes.new.out in
    subst (λ (items : List Item). PrintsLess (old ++ items_text items) (held c.args.out.now) after) (items_are t)
    (less_of_first (flat_map node_items t.nodes) (sweep_items false t.expiry ++ sweep_items true t.retention) old (held c.args.out.now) after c.in-WriteFault.ensures.which)

pub returns-in-Memory-clause-which : goal.returns-in-Memory-clause-which
returns-in-Memory-clause-which g c =
    let held = g.O.Sink.held in
    let t = c.args.tables.now in
    let old = c.args.printer.now in
    let after = held c.print_all_nodes.new.out in
    subst (λ (items : List Item). PrintsFront (old.text.items ++ items_text items) (held c.args.out.now) after) (items_are t)
    (front_of_first (flat_map node_items t.nodes) (sweep_items false t.expiry ++ sweep_items true t.retention) old.text.items (held c.args.out.now) after old.room c.in-Memory.ensures.which)
