use Rattle.std.proofs.Common.{◌∙◌, sym, ap}
use Rattle.std.specs.BTreeMap.{get_by_text}
use Rattle.json_tree.specs.Tree.{json_of, pairs}
use Rattle.json_tree.specs.Places.{index_of}
use Rattle.json_tree.proofs.PlaceLaws.{index-set}
use Rattle.json_tree.proofs.settled.put.Goals as goal

pub returns-in-Some-clause-index : goal.returns-in-Some-clause-index
returns-in-Some-clause-index c = λ q.
    let old = pairs c.args.done.now.items in
    c.requires q
    ∙ sym (index-set c.args.key (json_of c.args.value) q old c.in-Some.at (sym (c.requires c.args.key) ∙ ap (get_by_text c.args.places.now) (sym c.as_str.ensures) ∙ sym c.in-Some.ensures))
    ∙ ap (index_of q) (sym c.replace.ensures)
