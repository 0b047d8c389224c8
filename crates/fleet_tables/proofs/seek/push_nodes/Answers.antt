use Rattle.std.proofs.Common.{◌≡◌, ◌∙◌, ◌+◌, ◌<◌, ◌++◌, length, drop, None, sym, ap, arith}
use Rattle.checkpoint_spec.specs.fleet_rows.Defaults.{default_ttls}
use Rattle.checkpoint_spec.specs.table_machine.Rows.{node_rows}
use Rattle.fleet_tables.specs.Groups.{rows_of}
use Rattle.kept_nodes.specs.Places.{seen_in}
use Rattle.kept_nodes.specs.Seen.{node_seen}
use Rattle.kept_nodes.specs.Spans.{places_from}
use Rattle.kept_nodes.specs.Wanted.{has_own, texts_of}
use Rattle.kept_nodes.specs.declared.node.Node.{Node}
use Rattle.kept_nodes.proofs.FoundNodes.{box_kept}
use Rattle.fleet_tables.proofs.SeekLaws.{all_pushed, fits_step, long_step, none_left, push_step, rows_left, span_pushed}
use Rattle.fleet_tables.proofs.seek.push_nodes.Goals as goal

pub span-requires : goal.span-requires
span-requires c =
    let within : c.walking.node-index < length c.args.nodes.now = omega arith in
    box_kept c.args.nodes.now c.walking.node-index c.node-item.result c.deref.result.now c.requires.kept within c.node-item.is c.deref.ensures

pub number_of-before-requires : goal.number_of-before-requires
number_of-before-requires c =
    let within : c.walking.node-index < length c.args.nodes.now = omega arith in
    box_kept c.args.nodes.now c.walking.node-index c.node-item.result c.deref-in-walking.result.now c.requires.kept within c.node-item.is c.deref-in-walking.ensures

pub behind-requires : goal.behind-requires
behind-requires c =
    let boxes = c.args.nodes.now in
    let at = c.walking.node-index in
    let b = c.node-item.result in
    let node = c.deref.result.now in
    let within : at < length boxes = omega arith in
    let test = has_own c.args.entity (texts_of c.args.sought.now) in
    let left = rows_of c.args.entity default_ttls None (seen_in (drop at boxes)) in
    let own = node_rows c.args.entity default_ttls None (node_seen node) in
    let rest = rows_of c.args.entity default_ttls None (seen_in (drop (at + 1) boxes)) in
    let parts = rows_left c.args.entity default_ttls None boxes at b node within c.node-item.is c.deref.ensures in
    let fits = fits_step test c.walking.before left own rest parts (c.args.before + length (rows_of c.args.entity default_ttls None (seen_in boxes))) (c.walking.invariant.few default_ttls None) in
    omega (arith, fits, (c.span.ensures default_ttls None).1, c.requires.few default_ttls None)

pub push_neighbours-requires : goal.push_neighbours-requires
push_neighbours-requires c =
    let boxes = c.args.nodes.now in
    let at = c.walking.node-index in
    let b = c.node-item.result in
    let node = c.deref.result.now in
    let within : at < length boxes = omega arith in
    let test = has_own c.args.entity (texts_of c.args.sought.now) in
    let left = rows_of c.args.entity default_ttls None (seen_in (drop at boxes)) in
    let own = node_rows c.args.entity default_ttls None (node_seen node) in
    let rest = rows_of c.args.entity default_ttls None (seen_in (drop (at + 1) boxes)) in
    let parts = rows_left c.args.entity default_ttls None boxes at b node within c.node-item.is c.deref.ensures in
    let fits = fits_step test c.walking.before left own rest parts (c.args.before + length (rows_of c.args.entity default_ttls None (seen_in boxes))) (c.walking.invariant.few default_ttls None) in
    omega (arith, fits, (c.span.ensures default_ttls None).1, c.requires.few default_ttls None, c.behind.ensures.from, c.behind.ensures.count)

pub overflow_add-before : goal.overflow_add-before
overflow_add-before c =
    let boxes = c.args.nodes.now in
    let at = c.walking.node-index in
    let b = c.node-item.result in
    let node = c.deref.result.now in
    let within : at < length boxes = omega arith in
    let test = has_own c.args.entity (texts_of c.args.sought.now) in
    let left = rows_of c.args.entity default_ttls None (seen_in (drop at boxes)) in
    let own = node_rows c.args.entity default_ttls None (node_seen node) in
    let rest = rows_of c.args.entity default_ttls None (seen_in (drop (at + 1) boxes)) in
    let parts = rows_left c.args.entity default_ttls None boxes at b node within c.node-item.is c.deref.ensures in
    let fits = fits_step test c.walking.before left own rest parts (c.args.before + length (rows_of c.args.entity default_ttls None (seen_in boxes))) (c.walking.invariant.few default_ttls None) in
    let more : c.number_of-before.result ≡ length own = c.number_of-before.ensures default_ttls None ∙ ap (λ (n : Node). length (node_rows c.args.entity default_ttls None (node_seen n))) (c.deref-in-walking.ensures ∙ sym c.deref.ensures) in
    omega (arith, fits, more, c.requires.few default_ttls None)

pub walking-preserved : goal.walking-preserved
walking-preserved c = record {
  places = λ ttls expiry.
      let boxes = c.args.nodes.now in
      let at = c.walking.node-index in
      let b = c.node-item.result in
      let node = c.deref.result.now in
      let within : at < length boxes = omega arith in
      let test = has_own c.args.entity (texts_of c.args.sought.now) in
      let left = rows_of c.args.entity ttls expiry (seen_in (drop at boxes)) in
      let own = node_rows c.args.entity ttls expiry (node_seen node) in
      let rest = rows_of c.args.entity ttls expiry (seen_in (drop (at + 1) boxes)) in
      let parts = rows_left c.args.entity ttls expiry boxes at b node within c.node-item.is c.deref.ensures in
      let more : c.number_of-before.result ≡ length own = c.number_of-before.ensures ttls expiry ∙ ap (λ (n : Node). length (node_rows c.args.entity ttls expiry (node_seen n))) (c.deref-in-walking.ensures ∙ sym c.deref.ensures) in
      push_step test c.walking.before left own rest parts (c.walking.before + c.number_of-before.result) c.walking.places.items c.push_neighbours.new.places.items
      (c.args.places.now.items ++ places_from c.args.before test (rows_of c.args.entity ttls expiry (seen_in boxes)))
      (span_pushed test own c.span.result (c.span.ensures ttls expiry) c.walking.before c.walking.places.items c.push_neighbours.new.places.items c.behind.result c.in_ok-push_neighbours.ensures c.behind.ensures.from c.behind.ensures.count)
      (ap (λ n. c.walking.before + n) more) (c.walking.invariant.places ttls expiry);
  few = λ ttls expiry.
      let boxes = c.args.nodes.now in
      let at = c.walking.node-index in
      let b = c.node-item.result in
      let node = c.deref.result.now in
      let within : at < length boxes = omega arith in
      let test = has_own c.args.entity (texts_of c.args.sought.now) in
      let left = rows_of c.args.entity ttls expiry (seen_in (drop at boxes)) in
      let own = node_rows c.args.entity ttls expiry (node_seen node) in
      let rest = rows_of c.args.entity ttls expiry (seen_in (drop (at + 1) boxes)) in
      let parts = rows_left c.args.entity ttls expiry boxes at b node within c.node-item.is c.deref.ensures in
      let more : c.number_of-before.result ≡ length own = c.number_of-before.ensures ttls expiry ∙ ap (λ (n : Node). length (node_rows c.args.entity ttls expiry (node_seen n))) (c.deref-in-walking.ensures ∙ sym c.deref.ensures) in
      long_step test c.walking.before left own rest parts (c.walking.before + c.number_of-before.result) (c.args.before + length (rows_of c.args.entity ttls expiry (seen_in boxes)))
      (ap (λ n. c.walking.before + n) more) (c.walking.invariant.few ttls expiry);
}

pub returns : goal.returns
returns c = λ ttls expiry.
    let boxes = c.args.nodes.now in
    let test = has_own c.args.entity (texts_of c.args.sought.now) in
    all_pushed test (rows_of c.args.entity ttls expiry (seen_in (drop c.walking.node-index boxes))) (none_left c.args.entity ttls expiry boxes c.walking.node-index (omega arith)) c.walking.before c.walking.places.items
    (c.args.places.now.items ++ places_from c.args.before test (rows_of c.args.entity ttls expiry (seen_in boxes))) (c.walking.invariant.places ttls expiry)
