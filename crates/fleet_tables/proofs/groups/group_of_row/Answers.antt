use Rattle.std.proofs.Common.{◌∙◌, ◌<◌, ◌≤◌, length, refl, sym, subst, arith}
use Rattle.std.proofs.lemmas.Option.{slice_get_read, same_Some}
use Rattle.fleet_tables.specs.Groups.{joined, IsRowOf}
use Rattle.fleet_tables.proofs.GroupRows.{row_here, row_behind, no_row}
use Rattle.fleet_tables.proofs.StartLaws.{row_from}
use Rattle.fleet_tables.proofs.groups.group_of_row.Goals as goal

pub passing-init : goal.passing-init
passing-init c =
    let groups = c.args.groups.now in
    row_from c.args.entity groups c.start_of_row-first.result.0 c.start_of_row-first.result.1 c.args.i c.start_of_row-first.ensures.within
    (c.start_of_row-first.ensures.before groups c.requires.starts) c.requires.row

pub returns-then-behind-count-clause-row : goal.returns-then-behind-count-clause-row
returns-then-behind-count-clause-row c = λ group e.
    let groups = c.args.groups.now in
    let g = c.index-groups-at.result in
    let within : c.passing.at < length groups = omega arith in
    let there = slice_get_read groups (length groups) c.passing.at g refl within c.index-groups-at.is in
    let before : c.passing.behind < c.count-count.result = omega arith in
    subst (λ part. IsRowOf c.args.entity (joined groups) c.args.i part c.passing.behind) (same_Some g group (sym there ∙ e))
    (row_here c.args.entity (joined groups) c.args.i groups c.passing.at c.passing.behind c.count-count.result g there c.count-count.ensures c.passing.invariant before)

pub passing-preserved : goal.passing-preserved
passing-preserved c =
    let groups = c.args.groups.now in
    let g = c.index-groups-at.result in
    let within : c.passing.at < length groups = omega arith in
    let there = slice_get_read groups (length groups) c.passing.at g refl within c.index-groups-at.is in
    let behind : c.count-count.result ≤ c.passing.behind = omega arith in
    row_behind c.args.entity (joined groups) c.args.i groups c.passing.at c.passing.behind c.count-count.result g there c.count-count.ensures c.passing.invariant behind

pub unreachable-requires : goal.unreachable-requires
unreachable-requires c = no_row c.args.entity (joined c.args.groups.now) c.args.i c.args.groups.now c.passing.at c.passing.behind c.passing-test.false c.passing.invariant
