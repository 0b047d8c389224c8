use Rattle.std.proofs.Common.{◌≡◌, ◌∙◌, ◌∷◌, [], sym, ap, None}
use Rattle.std.proofs.lemmas.List.{map-append}
use Rattle.json_tree.specs.Tree.{json_of, pair, pairs}
use Rattle.json_tree.specs.Places.{index_of}
use Rattle.json_tree.proofs.PlaceLaws.{set-absent}
use Rattle.json_tree.proofs.places.set_in.Goals as goal

pub returns-in_ok-push-in-None-clause-ok : goal.returns-in_ok-push-in-None-clause-ok
returns-in_ok-push-in-None-clause-ok c =
    let list = c.args.list.now.items in
    let absent : index_of c.args.key (pairs list) ≡ None = sym (c.in-None.ensures ∙ (λ i. index_of (c.as_str.ensures i) (pairs (c.as_slice.ensures.value i)))) in
    ap pairs c.in_ok-push-in-None.ensures.items
    ∙ map-append pair list ((c.args.key, c.args.value) ∷ [])
    ∙ sym (set-absent c.args.key (json_of c.args.value) (pairs list) absent)
