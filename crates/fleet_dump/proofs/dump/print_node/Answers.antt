use Rattle.std.proofs.Common.{◌++◌, map, sym, subst, List}
use Rattle.std.specs.List.{AllByRecursion}
use Rattle.dump_writer.specs.dump_spec.checkpoint_spec.Lists.{by_rank}
use Rattle.dump_writer.specs.dump_spec.fleet_rows.declared.change.Change.{Change}
use Rattle.dump_writer.specs.dump_spec.history_spec.Lawful.{IsChange}
use Rattle.dump_writer.specs.dump_spec.history_spec.Thread.{Item}
use Rattle.dump_writer.specs.dump_spec.list_again.Told.{change_in}
use Rattle.dump_writer.specs.dump_spec.table_spec.Sorted.{sorted_by}
use Rattle.kept_nodes.specs.declared.kept.Report.{Report}
use Rattle.kept_nodes.specs.Seen.{node_seen, report_seen}
use Rattle.fleet_dump.specs.Dumpable.{newest_changes}
use Rattle.fleet_dump.specs.Printed.{change_item, items_text, Printed, PrintsLess, PrintsFront}
use Rattle.fleet_dump.proofs.Listed.{all_parts, in_two, items_in_two}
use Rattle.fleet_dump.proofs.Progress.{printed_then, less_of_first, front_of_first}
use Rattle.fleet_dump.proofs.dump.print_node.Goals as goal

pub print_newest-requires : goal.print_newest-requires
print_newest-requires g c =
    let n = node_seen c.args.node.now in
    (all_parts IsChange (newest_changes n) (map change_in (sorted_by by_rank n.reports)) (subst (λ (cs : List Change). AllByRecursion IsChange cs) (in_two n) c.requires)).0

pub print_ranked-requires : goal.print_ranked-requires
print_ranked-requires g c =
    let n = node_seen c.args.node.now in
    subst (λ (rs : List Report). AllByRecursion IsChange (map change_in (sorted_by by_rank (map report_seen rs)))) (sym c.as_slice.ensures.value)
    (all_parts IsChange (newest_changes n) (map change_in (sorted_by by_rank n.reports)) (subst (λ (cs : List Change). AllByRecursion IsChange cs) (in_two n) c.requires)).1

pub returns-in-Ok-clause-which : goal.returns-in-Ok-clause-which
returns-in-Ok-clause-which g c =
    let held = g.O.Sink.held in
    let n = node_seen c.args.node.now in
    let old = c.args.printer.now in
    let mid = c.print_newest.new in
    let new = c.print_ranked.new in
    let r = c.print_ranked.result in
    let xs = map change_item (newest_changes n) in
    let ys = map change_item (map change_in (sorted_by by_rank n.reports)) in
    let q =
    subst (λ (rs : List Report). Printed r (map change_item (map change_in (sorted_by by_rank (map report_seen rs)))) mid.printer.text.items new.printer.text.items (held mid.out) (held new.out) mid.printer.room new.printer.room)
    c.as_slice.ensures.value c.print_ranked.ensures.which in
    subst (λ (items : List Item). Printed r items old.text.items new.printer.text.items (held c.args.out.now) (held new.out) old.room new.printer.room) (items_in_two n)
    (printed_then r xs ys old.text.items mid.printer.text.items new.printer.text.items (held c.args.out.now) (held mid.out) (held new.out) old.room mid.printer.room new.printer.room c.in-Ok.ensures.which q)

pub returns-in-WriteFault-clause-which : goal.returns-in-WriteFault-clause-which
returns-in-WriteFault-clause-which g c =
    let held = g.O.Sink.held in
    let n = node_seen c.args.node.now in
    let old = c.args.printer.now in
    subst (λ (items : List Item). PrintsLess (old.text.items ++ items_text items) (held c.args.out.now) (held c.print_newest.new.out)) (items_in_two n)
    (less_of_first (map change_item (newest_changes n)) (map change_item (map change_in (sorted_by by_rank n.reports))) old.text.items (held c.args.out.now) (held c.print_newest.new.out)
    c.in-WriteFault.ensures.which)

pub returns-in-Memory-clause-which : goal.returns-in-Memory-clause-which
returns-in-Memory-clause-which g c =
    let held = g.O.Sink.held in
    let n = node_seen c.args.node.now in
    let old = c.args.printer.now in
    subst (λ (items : List Item). PrintsFront (old.text.items ++ items_text items) (held c.args.out.now) (held c.print_newest.new.out)) (items_in_two n)
    (front_of_first (map change_item (newest_changes n)) (map change_item (map change_in (sorted_by by_rank n.reports))) old.text.items (held c.args.out.now) (held c.print_newest.new.out) old.room
    c.in-Memory.ensures.which)
