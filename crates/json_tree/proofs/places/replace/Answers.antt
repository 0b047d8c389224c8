use Rattle.std.proofs.Common.{◌≡◌, ◌∙◌, ◌<◌, ap, arith, length, set}
use Rattle.std.proofs.lemmas.List.{length-map}
use Rattle.json_tree.specs.Tree.{pair, pairs}
use Rattle.json_tree.proofs.PlaceLaws.{index-below, set-found}
use Rattle.json_tree.proofs.places.replace.Goals as goal

pub index_mut-requires : goal.index_mut-requires
index_mut-requires c =
    let below = index-below c.args.key (pairs c.args.list.now.items) c.args.at c.requires in
    let size : length (pairs c.args.list.now.items) ≡ length c.args.list.now.items = length-map c.args.list.now.items pair in
    let at : c.args.at < length c.args.list.now.items = omega (arith, below, size) in
    grind arith

pub returns : goal.returns
returns c = ap (λ x. pairs (set c.args.list.now.items c.args.at (x.0, c.args.value))) c.index_mut.ensures.value ∙ set-found c.args.key c.args.value c.index_mut.result.now c.args.list.now.items c.args.at c.requires
