use Rattle.std.proofs.Common.{◌≡◌, ◌∙◌, get_or, sym, ap, true, arith}
use Rattle.std.specs.Str.{bytes_eq}
use Rattle.std.proofs.lemmas.Slice.Eq.{bytes_eq-Decides}
use Rattle.json_tree.specs.Tree.{pairs}
use Rattle.json_tree.specs.Places.{index_of}
use Rattle.json_tree.proofs.SameLaws.{found_within, key_at}
use Rattle.json_tree.proofs.places.place_near.Goals as goal

pub returns-then-eq-clause-place : goal.returns-then-eq-clause-place
returns-then-eq-clause-place c =
    let list = c.args.list.now in
    let x = c.index-list-at.result in
    let name = c.args.name.now in
    let equal : bytes_eq name c.as_str.result.now ≡ true = grind (arith, c.eq.ensures, c.if-eq.true, c.if-eq.ensures) in
    let same : name ≡ (get_or list c.args.at x).0 = (bytes_eq-Decides name c.as_str.result.now).0 equal ∙ c.as_str.ensures in
    sym (ap (λ q. index_of q (pairs list)) same ∙ key_at list c.args.at x c.requires.distinct c.requires.within)

pub returns-clause-within : goal.returns-clause-within
returns-clause-within c = found_within c.args.name.now c.args.list.now c.place_of.result c.place_of.ensures
