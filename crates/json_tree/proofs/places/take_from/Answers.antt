use Rattle.std.proofs.Common.{◌≡◌, ◌∙◌, ◌<◌, sym, ap, arith, length, Some}
use Rattle.std.proofs.lemmas.List.{length-map}
use Rattle.json_tree.specs.Tree.{json_of, pair, pairs}
use Rattle.json_tree.specs.Places.{index_of}
use Rattle.json_tree.proofs.PlaceLaws.{index-below, find-found, remove-found, find-absent, without-absent}
use Rattle.json_tree.proofs.places.take_from.Goals as goal

pub remove-key-requires : goal.remove-key-requires
remove-key-requires c =
    let list = c.args.list.now.items in
    let found : index_of c.args.name.now (pairs list) ≡ Some c.in-Some.at = sym (c.in-Some.ensures ∙ ap (λ x. index_of c.args.name.now (pairs x)) c.as_slice.ensures.value) in
    let below = index-below c.args.name.now (pairs list) c.in-Some.at found in
    let size : length (pairs list) ≡ length list = length-map list pair in
    let at : c.in-Some.at < length list = omega (arith, below, size) in
    grind arith

pub returns-in-Some-clause-value : goal.returns-in-Some-clause-value
returns-in-Some-clause-value c =
    let list = c.args.list.now.items in
    let found : index_of c.args.name.now (pairs list) ≡ Some c.in-Some.at = sym (c.in-Some.ensures ∙ ap (λ x. index_of c.args.name.now (pairs x)) c.as_slice.ensures.value) in
    ap (λ x. Some (json_of x.1)) c.remove-key.ensures.value
    ∙ sym (find-found c.args.name.now c.remove-key.result list c.in-Some.at found)

pub returns-in-Some-clause-others : goal.returns-in-Some-clause-others
returns-in-Some-clause-others c =
    let list = c.args.list.now.items in
    let found : index_of c.args.name.now (pairs list) ≡ Some c.in-Some.at = sym (c.in-Some.ensures ∙ ap (λ x. index_of c.args.name.now (pairs x)) c.as_slice.ensures.value) in
    ap pairs c.remove-key.ensures.items ∙ remove-found c.args.name.now list c.in-Some.at found

pub returns-in-None-clause-value : goal.returns-in-None-clause-value
returns-in-None-clause-value c =
    let list = c.args.list.now.items in
    sym (find-absent c.args.name.now (pairs list) (sym (c.in-None.ensures ∙ ap (λ x. index_of c.args.name.now (pairs x)) c.as_slice.ensures.value)))

pub returns-in-None-clause-others : goal.returns-in-None-clause-others
returns-in-None-clause-others c =
    let list = c.args.list.now.items in
    sym (without-absent c.args.name.now (pairs list) (sym (c.in-None.ensures ∙ ap (λ x. index_of c.args.name.now (pairs x)) c.as_slice.ensures.value)))
