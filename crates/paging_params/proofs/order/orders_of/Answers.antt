use Rattle.json_read.specs.json_tree.Tree.{jsons}
use Rattle.means_spec.specs.OutRows.{names_of}
use Rattle.paging_params.proofs.OrderReads.{of_list}
use Rattle.paging_params.proofs.order.orders_of.Goals as goal

pub returns-in-List : goal.returns-in-List
returns-in-List c =
    of_list (names_of c.args.level.now) c.in-List.items (jsons c.as_slice.result.now) c.args.json.now c.orders_among.result c.in-List.is c.as_slice.ensures.items c.orders_among.ensures
