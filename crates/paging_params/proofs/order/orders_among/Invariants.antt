use Rattle.std.proofs.Common.{◌≡◌, ◌++◌, drop}
use Rattle.std.specs.Option.{option_map}
use Rattle.json_read.specs.json_tree.Tree.{jsons}
use Rattle.means_spec.specs.OutRows.{names_of}
use Rattle.paging_params.specs.Paging.{orders_among}
use Rattle.paging_params.proofs.order.orders_among.Given as goal

abbrev pub invariant-loop-json : goal.invariant-loop-json
invariant-loop-json l =
    option_map (λ os. l.orders ++ os) (orders_among (names_of l.level) (jsons (drop l.json-index l.list))) ≡ orders_among (names_of l.level) (jsons l.list)
