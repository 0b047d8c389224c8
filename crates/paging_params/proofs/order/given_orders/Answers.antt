use Rattle.std.proofs.Common.{ap, Some}
use Rattle.json_read.specs.json_tree.Tree.{json_of}
use Rattle.means_spec.specs.OutRows.{names_of}
use Rattle.paging_params.specs.declared.params.Param.{Param}
use Rattle.paging_params.specs.Params.{value_of}
use Rattle.paging_params.proofs.OrderReads.{of_body}
use Rattle.paging_params.proofs.order.given_orders.Goals as goal

pub returns-in-Body : goal.returns-in-Body
returns-in-Body c =
    of_body (names_of c.args.level.now) (Some (value_of c.args.value.now)) (json_of c.in-Body.json) c.orders_of.result (ap (λ (p : Param). Some (value_of p)) c.in-Body.is) c.orders_of.ensures
