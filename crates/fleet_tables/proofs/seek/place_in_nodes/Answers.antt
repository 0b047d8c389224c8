use Rattle.std.proofs.Common.{◌≡◌, ◌∙◌, ◌+◌, ◌-◌, ◌<◌, length, drop, slice_get, None, sym, ap, arith}
use Rattle.checkpoint_spec.specs.fleet_rows.Defaults.{default_ttls}
use Rattle.checkpoint_spec.specs.table_machine.Rows.{node_rows}
use Rattle.fleet_tables.specs.Groups.{rows_of}
use Rattle.kept_nodes.specs.Places.{seen_in}
use Rattle.kept_nodes.specs.Runs.{number}
use Rattle.kept_nodes.specs.Seen.{node_seen}
use Rattle.kept_nodes.specs.Spans.{places_from}
use Rattle.kept_nodes.specs.Wanted.{has_own, texts_of}
use Rattle.kept_nodes.specs.declared.node.Node.{Node}
use Rattle.kept_nodes.proofs.FoundNodes.{box_kept}
use Rattle.fleet_tables.proofs.SeekLaws.{all_passed, behind_step, fits_step, here_step, left_step, long_step, none_left, rows_left, span_nth, span_number}
use Rattle.fleet_tables.proofs.seek.place_in_nodes.Goals as goal

pub span-span-requires : goal.span-span-requires
span-span-requires c =
    let within : c.walking.node-index < length c.args.nodes.now = omega arith in
    box_kept c.args.nodes.now c.walking.node-index c.node-item.result c.deref.result.now c.requires.kept within c.node-item.is c.deref.ensures

pub number_of-before-requires : goal.number_of-before-requires
number_of-before-requires c =
    let within : c.walking.node-index < length c.args.nodes.now = omega arith in
    box_kept c.args.nodes.now c.walking.node-index c.node-item.result c.deref-in-walking.result.now c.requires.kept within c.node-item.is c.deref-in-walking.ensures

pub overflow_add-result : goal.overflow_add-result
overflow_add-result c =
    let boxes = c.args.nodes.now in
    let at = c.walking.node-index in
    let b = c.node-item.result in
    let node = c.deref.result.now in
    let within : at < length boxes = omega arith in
    let test = has_own c.args.entity (texts_of c.args.sought.now) in
    let left = rows_of c.args.entity default_ttls None (seen_in (drop at boxes)) in
    let own = node_rows c.args.entity default_ttls None (node_seen node) in
    let rest = rows_of c.args.entity default_ttls None (seen_in (drop (at + 1) boxes)) in
    let parts = rows_left c.args.entity default_ttls None boxes at b node within c.node-item.is c.deref.ensures in
    let all = rows_of c.args.entity default_ttls None (seen_in boxes) in
    let fits = fits_step test c.walking.before left own rest parts (c.args.before + length all) (c.walking.invariant.few default_ttls None) in
    omega (arith, fits, (c.span-span.ensures default_ttls None).1, c.requires.few default_ttls None)

pub overflow_add-result-then-left-span : goal.overflow_add-result-then-left-span
overflow_add-result-then-left-span c =
    let boxes = c.args.nodes.now in
    let at = c.walking.node-index in
    let b = c.node-item.result in
    let node = c.deref.result.now in
    let within : at < length boxes = omega arith in
    let test = has_own c.args.entity (texts_of c.args.sought.now) in
    let left = rows_of c.args.entity default_ttls None (seen_in (drop at boxes)) in
    let own = node_rows c.args.entity default_ttls None (node_seen node) in
    let rest = rows_of c.args.entity default_ttls None (seen_in (drop (at + 1) boxes)) in
    let parts = rows_left c.args.entity default_ttls None boxes at b node within c.node-item.is c.deref.ensures in
    let all = rows_of c.args.entity default_ttls None (seen_in boxes) in
    let fits = fits_step test c.walking.before left own rest parts (c.args.before + length all) (c.walking.invariant.few default_ttls None) in
    omega (arith, fits, (c.span-span.ensures default_ttls None).1, c.requires.few default_ttls None)

pub overflow_add-before : goal.overflow_add-before
overflow_add-before c =
    let boxes = c.args.nodes.now in
    let at = c.walking.node-index in
    let b = c.node-item.result in
    let node = c.deref.result.now in
    let within : at < length boxes = omega arith in
    let test = has_own c.args.entity (texts_of c.args.sought.now) in
    let left = rows_of c.args.entity default_ttls None (seen_in (drop at boxes)) in
    let own = node_rows c.args.entity default_ttls None (node_seen node) in
    let rest = rows_of c.args.entity default_ttls None (seen_in (drop (at + 1) boxes)) in
    let parts = rows_left c.args.entity default_ttls None boxes at b node within c.node-item.is c.deref.ensures in
    let all = rows_of c.args.entity default_ttls None (seen_in boxes) in
    let fits = fits_step test c.walking.before left own rest parts (c.args.before + length all) (c.walking.invariant.few default_ttls None) in
    let more : c.number_of-before.result ≡ length own = c.number_of-before.ensures default_ttls None ∙ ap (λ (n : Node). length (node_rows c.args.entity default_ttls None (node_seen n))) (c.deref-in-walking.ensures ∙ sym c.deref.ensures) in
    omega (arith, fits, more, c.requires.few default_ttls None)

pub returns-then-left-span : goal.returns-then-left-span
returns-then-left-span c = λ ttls expiry.
    let boxes = c.args.nodes.now in
    let at = c.walking.node-index in
    let b = c.node-item.result in
    let node = c.deref.result.now in
    let within : at < length boxes = omega arith in
    let test = has_own c.args.entity (texts_of c.args.sought.now) in
    let left = rows_of c.args.entity ttls expiry (seen_in (drop at boxes)) in
    let own = node_rows c.args.entity ttls expiry (node_seen node) in
    let rest = rows_of c.args.entity ttls expiry (seen_in (drop (at + 1) boxes)) in
    let parts = rows_left c.args.entity ttls expiry boxes at b node within c.node-item.is c.deref.ensures in
    let all = rows_of c.args.entity ttls expiry (seen_in boxes) in
    c.walking.invariant.place ttls expiry
    ∙ here_step test c.walking.before left own rest parts c.walking.left ((c.walking.before + c.span-span.result.from) + c.walking.left)
    (span_nth test own c.span-span.result (c.span-span.ensures ttls expiry) c.walking.before c.walking.left (omega arith))

pub walking-preserved : goal.walking-preserved
walking-preserved c = record {
  place = λ ttls expiry.
      let boxes = c.args.nodes.now in
      let at = c.walking.node-index in
      let b = c.node-item.result in
      let node = c.deref.result.now in
      let within : at < length boxes = omega arith in
      let test = has_own c.args.entity (texts_of c.args.sought.now) in
      let left = rows_of c.args.entity ttls expiry (seen_in (drop at boxes)) in
      let own = node_rows c.args.entity ttls expiry (node_seen node) in
      let rest = rows_of c.args.entity ttls expiry (seen_in (drop (at + 1) boxes)) in
      let parts = rows_left c.args.entity ttls expiry boxes at b node within c.node-item.is c.deref.ensures in
      let all = rows_of c.args.entity ttls expiry (seen_in boxes) in
      let more : c.number_of-before.result ≡ length own = c.number_of-before.ensures ttls expiry ∙ ap (λ (n : Node). length (node_rows c.args.entity ttls expiry (node_seen n))) (c.deref-in-walking.ensures ∙ sym c.deref.ensures) in
      let some = span_number test own c.span-span.result (c.span-span.ensures ttls expiry) 0 in
      let passed : c.walking.left ≡ number test own + (c.walking.left - c.span-span.result.count) = omega (arith, some) in
      behind_step test c.walking.before left own rest parts (c.walking.before + c.number_of-before.result) c.walking.left (c.walking.left - c.span-span.result.count) (slice_get (places_from c.args.before test all) c.args.i)
      (ap (λ n. c.walking.before + n) more) passed (c.walking.invariant.place ttls expiry);
  left = λ ttls expiry.
      let boxes = c.args.nodes.now in
      let at = c.walking.node-index in
      let b = c.node-item.result in
      let node = c.deref.result.now in
      let within : at < length boxes = omega arith in
      let test = has_own c.args.entity (texts_of c.args.sought.now) in
      let left = rows_of c.args.entity ttls expiry (seen_in (drop at boxes)) in
      let own = node_rows c.args.entity ttls expiry (node_seen node) in
      let rest = rows_of c.args.entity ttls expiry (seen_in (drop (at + 1) boxes)) in
      let parts = rows_left c.args.entity ttls expiry boxes at b node within c.node-item.is c.deref.ensures in
      let all = rows_of c.args.entity ttls expiry (seen_in boxes) in
      let some = span_number test own c.span-span.result (c.span-span.ensures ttls expiry) 0 in
      let passed : c.walking.left ≡ number test own + (c.walking.left - c.span-span.result.count) = omega (arith, some) in
      left_step test c.walking.before left own rest parts c.walking.left (c.walking.left - c.span-span.result.count) c.args.i (number test all) passed (c.walking.invariant.left ttls expiry);
  few = λ ttls expiry.
      let boxes = c.args.nodes.now in
      let at = c.walking.node-index in
      let b = c.node-item.result in
      let node = c.deref.result.now in
      let within : at < length boxes = omega arith in
      let test = has_own c.args.entity (texts_of c.args.sought.now) in
      let left = rows_of c.args.entity ttls expiry (seen_in (drop at boxes)) in
      let own = node_rows c.args.entity ttls expiry (node_seen node) in
      let rest = rows_of c.args.entity ttls expiry (seen_in (drop (at + 1) boxes)) in
      let parts = rows_left c.args.entity ttls expiry boxes at b node within c.node-item.is c.deref.ensures in
      let all = rows_of c.args.entity ttls expiry (seen_in boxes) in
      let more : c.number_of-before.result ≡ length own = c.number_of-before.ensures ttls expiry ∙ ap (λ (n : Node). length (node_rows c.args.entity ttls expiry (node_seen n))) (c.deref-in-walking.ensures ∙ sym c.deref.ensures) in
      long_step test c.walking.before left own rest parts (c.walking.before + c.number_of-before.result) (c.args.before + length all)
      (ap (λ n. c.walking.before + n) more) (c.walking.invariant.few ttls expiry);
}

pub returns : goal.returns
returns c = λ ttls expiry.
    let boxes = c.args.nodes.now in
    let test = has_own c.args.entity (texts_of c.args.sought.now) in
    all_passed test (rows_of c.args.entity ttls expiry (seen_in (drop c.walking.node-index boxes))) (none_left c.args.entity ttls expiry boxes c.walking.node-index (omega arith)) c.args.i c.walking.left
    (number test (rows_of c.args.entity ttls expiry (seen_in boxes))) (c.walking.invariant.left ttls expiry)
