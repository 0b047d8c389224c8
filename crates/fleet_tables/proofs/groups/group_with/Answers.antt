use Rattle.std.proofs.Common.{◌+◌, length, take, drop, refl, sym, subst}
use Rattle.std.proofs.lemmas.Option.{slice_get_read}
use Rattle.fleet_tables.specs.Groups.{joined, AreBelow, AreAbove}
use Rattle.fleet_tables.proofs.JoinedNodes.{found_in}
use Rattle.fleet_tables.proofs.groups.group_with.Goals as goal

pub returns : goal.returns
returns c =
    let groups = c.args.groups.now in
    let at = c.group_of.result in
    let g = c.index-groups-group_of.result in
    let there = slice_get_read groups (length groups) at g refl c.group_of.ensures.place c.index-groups-group_of.is in
    sym (found_in c.args.certname.now groups at g there
    (subst (λ name. AreBelow name (joined (take at groups))) c.as_str.ensures c.group_of.ensures.below)
    (subst (λ name. AreAbove name (joined (drop (at + 1) groups))) c.as_str.ensures c.group_of.ensures.above))
