use Rattle.std.proofs.Common.{◌≡◌, ◌∙◌, ◌+◌, ◌-◌, ◌<◌, length, take, get_or, refl, sym, subst, arith}
use Rattle.std.proofs.lemmas.Option.{slice_get_read, slice_get-get_or}
use Rattle.kept_nodes.specs.Counted.{none}
use Rattle.fleet_tables.specs.Groups.{joined, AreCountsOf}
use Rattle.fleet_tables.proofs.GroupRows.{counted_more, within_more}
use Rattle.fleet_tables.proofs.StartLaws.{some_start}
use Rattle.fleet_tables.proofs.groups.next_start.Goals as goal

pub plus-requires : goal.plus-requires
plus-requires c =
    let groups = c.args.groups.now in
    let starts = c.args.starts.now in
    let last = length starts - 1 in
    let some = some_start (length starts) (sym c.is_empty.ensures ∙ c.if-is_empty.false) in
    let counted : last < length starts = omega (arith, some) in
    let within : last < length groups = omega (arith, c.requires.within, some) in
    let there = slice_get_read groups (length groups) last c.index-groups-last.result refl within c.index-groups-last.is in
    let known = c.requires.starts last (get_or starts last none) (slice_get-get_or starts last none counted) in
    record { within = within_more groups last c.index-groups-last.result there (get_or starts last none) c.counts.result known c.counts.ensures c.requires.few }

pub returns : goal.returns
returns c =
    let groups = c.args.groups.now in
    let starts = c.args.starts.now in
    let last = length starts - 1 in
    let some = some_start (length starts) (sym c.is_empty.ensures ∙ c.if-is_empty.false) in
    let counted : last < length starts = omega (arith, some) in
    let within : last < length groups = omega (arith, c.requires.within, some) in
    let all : last + 1 ≡ length starts = omega (arith, some) in
    let there = slice_get_read groups (length groups) last c.index-groups-last.result refl within c.index-groups-last.is in
    let known = c.requires.starts last (get_or starts last none) (slice_get-get_or starts last none counted) in
    subst (λ n. AreCountsOf c.plus.result (joined (take n groups))) all
    (subst (λ total. AreCountsOf total (joined (take (last + 1) groups))) (sym c.plus.ensures)
    (counted_more groups last c.index-groups-last.result there (get_or starts last none) c.counts.result known c.counts.ensures))
