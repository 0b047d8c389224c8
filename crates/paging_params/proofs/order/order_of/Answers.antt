use Rattle.means_spec.specs.OutRows.{names_of}
use Rattle.paging_params.proofs.OrderReads.{of_map}
use Rattle.paging_params.proofs.order.order_of.Goals as goal

pub returns-in-Map : goal.returns-in-Map
returns-in-Map c = of_map (names_of c.args.level.now) c.in-Map.members c.args.json.now c.order_of_members.result c.in-Map.is c.order_of_members.ensures
