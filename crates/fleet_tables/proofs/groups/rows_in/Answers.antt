use Rattle.std.proofs.Common.{◌+◌, ◌<◌, length, take, refl, sym, ap, subst, arith}
use Rattle.std.proofs.lemmas.List.{take_all}
use Rattle.std.proofs.lemmas.Option.{slice_get_read}
use Rattle.kept_nodes.specs.Counted.{IsWithin}
use Rattle.fleet_tables.specs.Groups.{joined, AreCountsOf}
use Rattle.fleet_tables.proofs.GroupRows.{counted_more, within_more}
use Rattle.fleet_tables.proofs.groups.rows_in.Goals as goal

pub plus-total-requires : goal.plus-total-requires
plus-total-requires c =
    let groups = c.args.groups.now in
    let i = c.adding.group-index in
    let g = c.group-item.result in
    let within : i < length groups = omega arith in
    let there = slice_get_read groups (length groups) i g refl within c.group-item.is in
    record { within = within_more groups i g there c.adding.total c.counts.result c.adding.invariant.rows c.counts.ensures c.requires }

pub adding-preserved : goal.adding-preserved
adding-preserved c =
    let groups = c.args.groups.now in
    let i = c.adding.group-index in
    let g = c.group-item.result in
    let within : i < length groups = omega arith in
    let there = slice_get_read groups (length groups) i g refl within c.group-item.is in
    record {
      rows = subst (λ total. AreCountsOf total (joined (take (i + 1) groups))) (sym c.plus-total.ensures) (counted_more groups i g there c.adding.total c.counts.result c.adding.invariant.rows c.counts.ensures);
      within = subst IsWithin (sym c.plus-total.ensures) (within_more groups i g there c.adding.total c.counts.result c.adding.invariant.rows c.counts.ensures c.requires);
    }

pub returns-clause-rows : goal.returns-clause-rows
returns-clause-rows c = subst (AreCountsOf c.adding.total) (ap joined (take_all c.adding.group-index c.args.groups.now (omega arith))) c.adding.invariant.rows
