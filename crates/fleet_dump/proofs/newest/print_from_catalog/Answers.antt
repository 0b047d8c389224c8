use Rattle.std.proofs.Common.{◌++◌, map, sym, subst, List}
use Rattle.std.proofs.lemmas.List.{map-append}
use Rattle.dump_writer.specs.dump_spec.history_spec.Lawful.{IsChange}
use Rattle.dump_writer.specs.dump_spec.history_spec.Thread.{Item}
use Rattle.dump_writer.specs.dump_spec.list_again.Told.{if_there}
use Rattle.dump_writer.specs.dump_spec.table_spec.Rows.{change_of}
use Rattle.kept_nodes.specs.Seen.{node_seen}
use Rattle.fleet_dump.specs.Dumpable.{from_expiration}
use Rattle.fleet_dump.specs.Printed.{change_item, items_text, Printed, PrintsLess, PrintsFront}
use Rattle.fleet_dump.proofs.Listed.{all_parts}
use Rattle.fleet_dump.proofs.Progress.{printed_then, less_of_first, front_of_first}
use Rattle.fleet_dump.proofs.newest.print_from_catalog.Goals as goal

pub print_catalog-requires : goal.print_catalog-requires
print_catalog-requires g c = let n = node_seen c.args.node.now in (all_parts IsChange (if_there (change_of n.catalog)) (from_expiration n) c.requires).0

pub print_from_expiration-requires : goal.print_from_expiration-requires
print_from_expiration-requires g c = let n = node_seen c.args.node.now in (all_parts IsChange (if_there (change_of n.catalog)) (from_expiration n) c.requires).1

pub returns-in-Ok-clause-which : goal.returns-in-Ok-clause-which
returns-in-Ok-clause-which g c =
    let held = g.O.Sink.held in
    let n = node_seen c.args.node.now in
    let xs = if_there (change_of n.catalog) in
    let ys = from_expiration n in
    let old = c.args.printer.now in
    let mid = c.print_catalog.new in
    let new = c.print_from_expiration.new in
    let r = c.print_from_expiration.result in
    subst (λ (items : List Item). Printed r items old.text.items new.printer.text.items (held c.args.out.now) (held new.out) old.room new.printer.room) (sym (map-append change_item xs ys))
    (printed_then r (map change_item xs) (map change_item ys) old.text.items mid.printer.text.items new.printer.text.items (held c.args.out.now) (held mid.out) (held new.out)
    old.room mid.printer.room new.printer.room c.in-Ok.ensures.which c.print_from_expiration.ensures.which)

pub returns-in-WriteFault-clause-which : goal.returns-in-WriteFault-clause-which
returns-in-WriteFault-clause-which g c =
    let held = g.O.Sink.held in
    let n = node_seen c.args.node.now in
    let xs = if_there (change_of n.catalog) in
    let ys = from_expiration n in
    let old = c.args.printer.now.text.items in
    let after = held c.print_catalog.new.out in
    subst (λ (items : List Item). PrintsLess (old ++ items_text items) (held c.args.out.now) after) (sym (map-append change_item xs ys))
    (less_of_first (map change_item xs) (map change_item ys) old (held c.args.out.now) after c.in-WriteFault.ensures.which)

pub returns-in-Memory-clause-which : goal.returns-in-Memory-clause-which
returns-in-Memory-clause-which g c =
    let held = g.O.Sink.held in
    let n = node_seen c.args.node.now in
    let xs = if_there (change_of n.catalog) in
    let ys = from_expiration n in
    let old = c.args.printer.now in
    let after = held c.print_catalog.new.out in
    subst (λ (items : List Item). PrintsFront (old.text.items ++ items_text items) (held c.args.out.now) after) (sym (map-append change_item xs ys))
    (front_of_first (map change_item xs) (map change_item ys) old.text.items (held c.args.out.now) after old.room c.in-Memory.ensures.which)
