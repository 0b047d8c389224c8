use Rattle.std.proofs.Common.{◌+◌, ◌<◌, length, drop, None, refl, ap, arith}
use Rattle.std.proofs.lemmas.Option.{slice_get_read}
use Rattle.checkpoint_spec.specs.fleet_rows.Defaults.{default_ttls}
use Rattle.fleet_tables.specs.Groups.{joined, rows_of}
use Rattle.kept_nodes.specs.Runs.{number}
use Rattle.kept_nodes.specs.Wanted.{has_own, texts_of}
use Rattle.kept_nodes.proofs.RunLaws.{at_most_all}
use Rattle.fleet_tables.proofs.SeekLaws.{all_counted, count_fits, count_step, none_left_joined, rows_left_joined}
use Rattle.fleet_tables.proofs.SpanNodes.{group_in_few}
use Rattle.fleet_tables.proofs.seek.count_groups.Goals as goal

pub sought_count-count-requires : goal.sought_count-count-requires
sought_count-count-requires c = λ ttls expiry.
    let groups = c.args.groups.now in
    let at = c.walking.group-index in
    let g = c.group-item.result in
    let within : at < length groups = omega arith in
    let there = slice_get_read groups (length groups) at g refl within c.group-item.is in
    let fits = group_in_few c.args.entity ttls expiry groups at g there (c.requires c.args.entity ttls expiry) in
    omega (arith, fits)

pub overflow_add-count : goal.overflow_add-count
overflow_add-count c =
    let groups = c.args.groups.now in
    let at = c.walking.group-index in
    let g = c.group-item.result in
    let within : at < length groups = omega arith in
    let there = slice_get_read groups (length groups) at g refl within c.group-item.is in
    let test = has_own c.args.entity (texts_of c.args.sought.now) in
    let left = rows_of c.args.entity default_ttls None (joined (drop at groups)) in
    let own = rows_of c.args.entity default_ttls None g in
    let rest = rows_of c.args.entity default_ttls None (joined (drop (at + 1) groups)) in
    let parts = rows_left_joined c.args.entity default_ttls None groups at g there in
    let all = rows_of c.args.entity default_ttls None (joined groups) in
    let fits = count_fits test 0 left own rest parts c.walking.count (number test all) (c.walking.invariant default_ttls None) in
    omega (arith, fits, c.sought_count-count.ensures default_ttls None, at_most_all test all, c.requires c.args.entity default_ttls None)

pub walking-preserved : goal.walking-preserved
walking-preserved c = λ ttls expiry.
    let groups = c.args.groups.now in
    let at = c.walking.group-index in
    let g = c.group-item.result in
    let within : at < length groups = omega arith in
    let there = slice_get_read groups (length groups) at g refl within c.group-item.is in
    let test = has_own c.args.entity (texts_of c.args.sought.now) in
    let left = rows_of c.args.entity ttls expiry (joined (drop at groups)) in
    let own = rows_of c.args.entity ttls expiry g in
    let rest = rows_of c.args.entity ttls expiry (joined (drop (at + 1) groups)) in
    let parts = rows_left_joined c.args.entity ttls expiry groups at g there in
    count_step test 0 left own rest parts c.walking.count (c.walking.count + c.sought_count-count.result) (number test (rows_of c.args.entity ttls expiry (joined groups)))
    (ap (λ n. c.walking.count + n) (c.sought_count-count.ensures ttls expiry)) (c.walking.invariant ttls expiry)

pub returns : goal.returns
returns c = λ ttls expiry.
    let groups = c.args.groups.now in
    let test = has_own c.args.entity (texts_of c.args.sought.now) in
    all_counted test (rows_of c.args.entity ttls expiry (joined (drop c.walking.group-index groups))) (none_left_joined c.args.entity ttls expiry groups c.walking.group-index (omega arith)) c.walking.count
    (number test (rows_of c.args.entity ttls expiry (joined groups))) (c.walking.invariant ttls expiry)
