use Rattle.std.proofs.Common.{◌∙◌, length, take, refl, ap, add-one}
use Rattle.std.specs.List.{insert}
use Rattle.std.proofs.Math.ListN.{set}
use Rattle.std.proofs.lemmas.Option.{slice_get_read}
use Rattle.fleet_tables.specs.Groups.{joined}
use Rattle.fleet_tables.proofs.JoinedNodes.{split_joined}
use Rattle.fleet_tables.proofs.StartLaws.{split_before}
use Rattle.fleet_tables.proofs.groups.split_at.Goals as goal

pub returns-clause-same : goal.returns-clause-same
returns-clause-same c =
    let groups = c.args.groups.now.items in
    let at = c.args.at in
    let g = c.index_mut.result.now in
    let lower = c.split.new.self in
    let upper = c.in_ok-upper.upper in
    let there = slice_get_read groups (length groups) at g refl c.requires.place c.index_mut.ensures.value in
    ap joined c.insert_in_room.ensures
    ∙ ap (λ k. joined (insert (set groups at lower) k upper)) (add-one at)
    ∙ split_joined groups at g lower upper there c.in_ok-upper.ensures.nodes

pub returns-clause-before : goal.returns-clause-before
returns-clause-before c =
    let at = c.args.at in
    ap (take at) c.insert_in_room.ensures
    ∙ ap (λ k. take at (insert (set c.args.groups.now.items at c.split.new.self) k c.in_ok-upper.upper)) (add-one at)
    ∙ split_before c.args.groups.now.items c.args.at c.split.new.self c.in_ok-upper.upper c.requires.place
