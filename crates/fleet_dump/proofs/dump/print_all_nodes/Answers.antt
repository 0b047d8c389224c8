use Rattle.std.proofs.Common.{◌∙◌, map, sym, ap, subst, List}
use Rattle.std.specs.List.{AllByRecursion, flat_map}
use Rattle.dump_writer.specs.dump_spec.history_spec.Thread.{Item}
use Rattle.dump_writer.specs.dump_spec.table_machine.Table.{Node}
use Rattle.fleet_tables.specs.Groups.{joined}
use Rattle.kept_nodes.specs.Places.{seen_in}
use Rattle.fleet_dump.specs.Dumpable.{IsDumpableNode}
use Rattle.fleet_dump.specs.Printed.{node_items, Printed}
use Rattle.fleet_dump.proofs.Listed.{each_joined, list_by_list}
use Rattle.fleet_dump.proofs.Progress.{front_of_none}
use Rattle.fleet_dump.proofs.dump.print_all_nodes.Goals as goal

pub print_lists-requires : goal.print_lists-requires
print_lists-requires g c =
    let lists = c.as_slice.result.now in
    let same = ap (λ ls. joined (map (λ nodes. seen_in nodes.now) ls)) c.as_slice.ensures.value ∙ c.in-Ok.ensures in
    each_joined IsDumpableNode (λ nodes. seen_in nodes.now) lists (subst (λ (ns : List Node). AllByRecursion IsDumpableNode ns) (sym same) c.requires)

pub returns-in-Ok-clause-which : goal.returns-in-Ok-clause-which
returns-in-Ok-clause-which g c =
    let held = g.O.Sink.held in
    let lists = c.as_slice.result.now in
    let same = ap (λ ls. joined (map (λ nodes. seen_in nodes.now) ls)) c.as_slice.ensures.value ∙ c.in-Ok.ensures in
    let old = c.args.printer.now in
    let new = c.print_lists.new in
    subst (λ (items : List Item). Printed c.print_lists.result items old.text.items new.printer.text.items (held c.args.out.now) (held new.out) old.room new.printer.room)
    (list_by_list (λ nodes. seen_in nodes.now) lists ∙ ap (flat_map node_items) same) c.print_lists.ensures.which

pub returns-in-Err-clause-which : goal.returns-in-Err-clause-which
returns-in-Err-clause-which g c = front_of_none _ (g.O.Sink.held c.args.out.now)
