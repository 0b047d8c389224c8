use Rattle.std.proofs.Common.{◌≡◌, ◌∙◌, ◌++◌, ◌∷◌, [], sym, ap, Some, length, arith, if◌then◌else◌}
use Rattle.std.specs.Str.{bytes_eq}
use Rattle.std.specs.String.{string_bytes}
use Rattle.std.proofs.lemmas.List.{map-append, length-map}
use Rattle.std.proofs.lemmas.Map.Text.{btree_map_updates_text}
use Rattle.json_tree.specs.Tree.{json_of, pair, pairs}
use Rattle.json_tree.specs.Places.{index_of}
use Rattle.json_tree.proofs.PlaceLaws.{index-push, set-absent}
use Rattle.json_tree.proofs.settled.append.Goals as goal

pub returns-clause-pairs : goal.returns-clause-pairs
returns-clause-pairs c =
    ap pairs c.in_ok-push.ensures.items
    ∙ map-append pair c.args.done.now.items ((c.args.key, c.args.value) ∷ [])
    ∙ sym (set-absent c.args.key (json_of c.args.value) (pairs c.args.done.now.items) c.requires.absent)

pub returns-clause-index : goal.returns-clause-index
returns-clause-index c = λ q.
    let old = c.args.done.now.items in
    let new : pairs c.push.new.self.items ≡ pairs old ++ (c.args.key, json_of c.args.value) ∷ [] = ap pairs c.in_ok-push.ensures.items ∙ map-append pair old ((c.args.key, c.args.value) ∷ []) in
    let name : string_bytes c.in_ok-name.name ≡ c.args.key = c.in_ok-name.ensures.ok ∙ c.as_str.ensures in
    let count : length old ≡ c.len.result = grind arith in
    let size : length (pairs old) ≡ c.len.result = length-map old pair ∙ count in
    btree_map_updates_text (string_bytes c.in_ok-name.name) c.args.places.now c.insert.new.self (Some c.len.result) c.in_ok-insert.ensures.updates q
    ∙ (λ i. if bytes_eq (name i) q then Some (sym size i) else c.requires.index q i)
    ∙ sym (index-push c.args.key (json_of c.args.value) q (pairs old) c.requires.absent)
    ∙ ap (index_of q) (sym new)
