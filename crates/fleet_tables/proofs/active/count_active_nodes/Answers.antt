use Rattle.std.proofs.Common.{◌+◌, ◌<◌, length, drop, refl, ap, arith}
use Rattle.fleet_tables.specs.Active.{active_rows, active_rows_of}
use Rattle.kept_nodes.specs.Places.{seen_in}
use Rattle.kept_nodes.specs.Seen.{node_seen}
use Rattle.kept_nodes.proofs.FoundNodes.{box_kept}
use Rattle.fleet_tables.proofs.ActiveLaws.{active_fits, active_left, active_none_left, active_step, all_active}
use Rattle.fleet_tables.proofs.active.count_active_nodes.Goals as goal

pub count_if_active-count-requires : goal.count_if_active-count-requires
count_if_active-count-requires c =
    let within : c.walking.node-index < length c.args.nodes.now = omega arith in
    box_kept c.args.nodes.now c.walking.node-index c.node-item.result c.node-item.result.value c.requires.kept within c.node-item.is refl

pub overflow_add-count : goal.overflow_add-count
overflow_add-count c =
    let boxes = c.args.nodes.now in
    let at = c.walking.node-index in
    let b = c.node-item.result in
    let ttls = c.args.ttls.now in
    let expiry = c.args.expiry.now in
    let within : at < length boxes = omega arith in
    let left = active_rows_of c.args.entity ttls expiry (seen_in (drop at boxes)) in
    let own = active_rows c.args.entity ttls expiry (node_seen b.value) in
    let rest = active_rows_of c.args.entity ttls expiry (seen_in (drop (at + 1) boxes)) in
    let all = active_rows_of c.args.entity ttls expiry (seen_in boxes) in
    let fits = active_fits left own rest (active_left c.args.entity ttls expiry boxes at b within c.node-item.is) c.walking.count (length all) c.walking.invariant in
    omega (arith, fits, c.count_if_active-count.ensures, c.requires.few)

pub walking-preserved : goal.walking-preserved
walking-preserved c =
    let boxes = c.args.nodes.now in
    let at = c.walking.node-index in
    let b = c.node-item.result in
    let ttls = c.args.ttls.now in
    let expiry = c.args.expiry.now in
    let within : at < length boxes = omega arith in
    let left = active_rows_of c.args.entity ttls expiry (seen_in (drop at boxes)) in
    let own = active_rows c.args.entity ttls expiry (node_seen b.value) in
    let rest = active_rows_of c.args.entity ttls expiry (seen_in (drop (at + 1) boxes)) in
    active_step left own rest (active_left c.args.entity ttls expiry boxes at b within c.node-item.is) c.walking.count (c.walking.count + c.count_if_active-count.result)
    (length (active_rows_of c.args.entity ttls expiry (seen_in boxes))) (ap (λ n. c.walking.count + n) c.count_if_active-count.ensures) c.walking.invariant

pub returns : goal.returns
returns c =
    let boxes = c.args.nodes.now in
    let ttls = c.args.ttls.now in
    let expiry = c.args.expiry.now in
    all_active (active_rows_of c.args.entity ttls expiry (seen_in (drop c.walking.node-index boxes))) c.walking.count (length (active_rows_of c.args.entity ttls expiry (seen_in boxes)))
    (active_none_left c.args.entity ttls expiry boxes c.walking.node-index (omega arith)) c.walking.invariant
