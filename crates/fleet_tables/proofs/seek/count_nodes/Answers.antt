use Rattle.std.proofs.Common.{◌+◌, ◌<◌, length, drop, None, sym, ap, arith}
use Rattle.checkpoint_spec.specs.fleet_rows.Defaults.{default_ttls}
use Rattle.checkpoint_spec.specs.table_machine.Rows.{node_rows}
use Rattle.fleet_tables.specs.Groups.{rows_of}
use Rattle.kept_nodes.specs.Places.{seen_in}
use Rattle.kept_nodes.specs.Runs.{number}
use Rattle.kept_nodes.specs.Seen.{node_seen}
use Rattle.kept_nodes.specs.Wanted.{has_own, texts_of}
use Rattle.kept_nodes.proofs.FoundNodes.{box_kept}
use Rattle.kept_nodes.proofs.RunLaws.{at_most_all}
use Rattle.fleet_tables.proofs.SeekLaws.{all_counted, count_fits, count_step, none_left, rows_left, span_number}
use Rattle.fleet_tables.proofs.seek.count_nodes.Goals as goal

pub span-count-requires : goal.span-count-requires
span-count-requires c =
    let within : c.walking.node-index < length c.args.nodes.now = omega arith in
    box_kept c.args.nodes.now c.walking.node-index c.node-item.result c.deref.result.now c.requires.kept within c.node-item.is c.deref.ensures

pub overflow_add-count : goal.overflow_add-count
overflow_add-count c =
    let boxes = c.args.nodes.now in
    let at = c.walking.node-index in
    let b = c.node-item.result in
    let node = c.deref.result.now in
    let within : at < length boxes = omega arith in
    let test = has_own c.args.entity (texts_of c.args.sought.now) in
    let left = rows_of c.args.entity default_ttls None (seen_in (drop at boxes)) in
    let own = node_rows c.args.entity default_ttls None (node_seen node) in
    let rest = rows_of c.args.entity default_ttls None (seen_in (drop (at + 1) boxes)) in
    let parts = rows_left c.args.entity default_ttls None boxes at b node within c.node-item.is c.deref.ensures in
    let all = rows_of c.args.entity default_ttls None (seen_in boxes) in
    let fits = count_fits test 0 left own rest parts c.walking.count (number test all) (c.walking.invariant default_ttls None) in
    omega (arith, fits, span_number test own c.span-count.result (c.span-count.ensures default_ttls None) 0, at_most_all test all, c.requires.few default_ttls None)

pub walking-preserved : goal.walking-preserved
walking-preserved c = λ ttls expiry.
    let boxes = c.args.nodes.now in
    let at = c.walking.node-index in
    let b = c.node-item.result in
    let node = c.deref.result.now in
    let within : at < length boxes = omega arith in
    let test = has_own c.args.entity (texts_of c.args.sought.now) in
    let left = rows_of c.args.entity ttls expiry (seen_in (drop at boxes)) in
    let own = node_rows c.args.entity ttls expiry (node_seen node) in
    let rest = rows_of c.args.entity ttls expiry (seen_in (drop (at + 1) boxes)) in
    let parts = rows_left c.args.entity ttls expiry boxes at b node within c.node-item.is c.deref.ensures in
    count_step test 0 left own rest parts c.walking.count (c.walking.count + c.span-count.result.count) (number test (rows_of c.args.entity ttls expiry (seen_in boxes)))
    (ap (λ n. c.walking.count + n) (sym (span_number test own c.span-count.result (c.span-count.ensures ttls expiry) 0))) (c.walking.invariant ttls expiry)

pub returns : goal.returns
returns c = λ ttls expiry.
    let boxes = c.args.nodes.now in
    let test = has_own c.args.entity (texts_of c.args.sought.now) in
    all_counted test (rows_of c.args.entity ttls expiry (seen_in (drop c.walking.node-index boxes))) (none_left c.args.entity ttls expiry boxes c.walking.node-index (omega arith)) c.walking.count
    (number test (rows_of c.args.entity ttls expiry (seen_in boxes))) (c.walking.invariant ttls expiry)
