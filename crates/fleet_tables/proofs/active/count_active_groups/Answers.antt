use Rattle.std.proofs.Common.{◌+◌, ◌<◌, length, drop, refl, ap, arith}
use Rattle.std.proofs.lemmas.Option.{slice_get_read}
use Rattle.fleet_tables.specs.Active.{active_rows_of}
use Rattle.fleet_tables.specs.Groups.{joined}
use Rattle.fleet_tables.proofs.ActiveLaws.{active_fewer, active_fits, active_left_joined, active_none_left_joined, active_step, all_active}
use Rattle.fleet_tables.proofs.SpanNodes.{group_in_few}
use Rattle.fleet_tables.proofs.active.count_active_groups.Goals as goal

pub active_count-count-requires : goal.active_count-count-requires
active_count-count-requires c =
    let groups = c.args.groups.now in
    let at = c.walking.group-index in
    let g = c.group-item.result in
    let ttls = c.args.ttls.now in
    let expiry = c.args.expiry.now in
    let within : at < length groups = omega arith in
    let there = slice_get_read groups (length groups) at g refl within c.group-item.is in
    omega (arith, active_fewer c.args.entity ttls expiry g, group_in_few c.args.entity ttls expiry groups at g there (c.requires c.args.entity ttls expiry))

pub overflow_add-count : goal.overflow_add-count
overflow_add-count c =
    let groups = c.args.groups.now in
    let at = c.walking.group-index in
    let g = c.group-item.result in
    let ttls = c.args.ttls.now in
    let expiry = c.args.expiry.now in
    let within : at < length groups = omega arith in
    let there = slice_get_read groups (length groups) at g refl within c.group-item.is in
    let left = active_rows_of c.args.entity ttls expiry (joined (drop at groups)) in
    let own = active_rows_of c.args.entity ttls expiry g in
    let rest = active_rows_of c.args.entity ttls expiry (joined (drop (at + 1) groups)) in
    let all = active_rows_of c.args.entity ttls expiry (joined groups) in
    let fits = active_fits left own rest (active_left_joined c.args.entity ttls expiry groups at g there) c.walking.count (length all) c.walking.invariant in
    omega (arith, fits, c.active_count-count.ensures, active_fewer c.args.entity ttls expiry (joined groups), c.requires c.args.entity ttls expiry)

pub walking-preserved : goal.walking-preserved
walking-preserved c =
    let groups = c.args.groups.now in
    let at = c.walking.group-index in
    let g = c.group-item.result in
    let ttls = c.args.ttls.now in
    let expiry = c.args.expiry.now in
    let within : at < length groups = omega arith in
    let there = slice_get_read groups (length groups) at g refl within c.group-item.is in
    let left = active_rows_of c.args.entity ttls expiry (joined (drop at groups)) in
    let own = active_rows_of c.args.entity ttls expiry g in
    let rest = active_rows_of c.args.entity ttls expiry (joined (drop (at + 1) groups)) in
    active_step left own rest (active_left_joined c.args.entity ttls expiry groups at g there) c.walking.count (c.walking.count + c.active_count-count.result)
    (length (active_rows_of c.args.entity ttls expiry (joined groups))) (ap (λ n. c.walking.count + n) c.active_count-count.ensures) c.walking.invariant

pub returns : goal.returns
returns c =
    let groups = c.args.groups.now in
    let ttls = c.args.ttls.now in
    let expiry = c.args.expiry.now in
    all_active (active_rows_of c.args.entity ttls expiry (joined (drop c.walking.group-index groups))) c.walking.count (length (active_rows_of c.args.entity ttls expiry (joined groups)))
    (active_none_left_joined c.args.entity ttls expiry groups c.walking.group-index (omega arith)) c.walking.invariant
