use Rattle.std.proofs.Common.{◌∙◌, ◌+◌, ◌++◌, drop, sym, ap, arith}
use Rattle.std.specs.Option.{option_map}
use Rattle.json_read.specs.json_tree.Tree.{jsons}
use Rattle.means_spec.specs.OutRows.{names_of}
use Rattle.paging_params.specs.Paging.{orders_among}
use Rattle.paging_params.proofs.OrderReads.{order_on}
use Rattle.paging_params.proofs.order.orders_among.Goals as goal

pub loop-json-preserved : goal.loop-json-preserved
loop-json-preserved c =
    let names = names_of c.args.level.now in
    let list = c.args.list.now in
    let i = c.loop-json.json-index in
    ap (λ found. option_map (λ os. found ++ os) (orders_among names (jsons (drop (i + 1) list)))) c.in_ok-push-in-Some.ensures.ok
    ∙ order_on names c.loop-json.orders c.in-Some.order i list c.json-item.result (omega arith) c.json-item.is (sym c.in-Some.is ∙ c.in_ok-order.ensures)
    ∙ c.loop-json.invariant
