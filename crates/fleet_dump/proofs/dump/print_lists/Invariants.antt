use Rattle.std.proofs.Common.{◌≡◌, take}
use Rattle.std.specs.List.{flat_map}
use Rattle.kept_nodes.specs.Places.{seen_in}
use Rattle.fleet_dump.specs.Printed.{node_items, Prints}
use Rattle.fleet_dump.proofs.dump.print_lists.Given as goal

-- the items so far were written or are left in the text
abbrev pub invariant-lists : goal.invariant-lists
invariant-lists g l = record {
  so_far : Prints (flat_map (λ nodes. flat_map node_items (seen_in nodes.now)) (take l.nodes-index l.lists)) l.fn.printer.text.items l.printer.text.items (g.O.Sink.held l.fn.out) (g.O.Sink.held l.out) l.fn.printer.room l.printer.room;
  calm : g.O.Sink.fault_count l.out ≡ g.O.Sink.fault_count l.fn.out;
}
