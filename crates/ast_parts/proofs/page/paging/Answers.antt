use Rattle.std.proofs.Common.{◌≤◌, arith}
use Rattle.json_tree.specs.text_spec.Json.{items_of, levels, items_levels}
use Rattle.json_tree.specs.Tree.{json_of, jsons}
use Rattle.ast_parts.proofs.Items.{item-within}
use Rattle.ast_parts.proofs.page.paging.Goals as goal

pub paged-requires : goal.paged-requires
paged-requires c =
    let below : levels (json_of c.json-item.result) ≤ items_levels (items_of (jsons c.args.list.now)) =
    item-within c.args.list.now c.loop-json.json-index c.json-item.result c.json-item.is c.loop-json-test.true in
    omega (arith, below, c.in_ok-inner.ensures.longer, c.requires.place)
