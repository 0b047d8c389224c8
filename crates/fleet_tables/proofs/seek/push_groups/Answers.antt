use Rattle.std.proofs.Common.{◌+◌, ◌<◌, ◌++◌, length, drop, None, refl, ap, arith}
use Rattle.std.proofs.lemmas.Option.{slice_get_read}
use Rattle.checkpoint_spec.specs.fleet_rows.Defaults.{default_ttls}
use Rattle.fleet_tables.specs.Groups.{joined, rows_of}
use Rattle.kept_nodes.specs.Spans.{places_from}
use Rattle.kept_nodes.specs.Wanted.{has_own, texts_of}
use Rattle.fleet_tables.proofs.SeekLaws.{all_pushed, fits_step, long_step, none_left_joined, push_step, rows_left_joined}
use Rattle.fleet_tables.proofs.seek.push_groups.Goals as goal

pub push_sought-requires : goal.push_sought-requires
push_sought-requires c = λ ttls expiry.
    let groups = c.args.groups.now in
    let at = c.walking.group-index in
    let g = c.group-item.result in
    let within : at < length groups = omega arith in
    let there = slice_get_read groups (length groups) at g refl within c.group-item.is in
    let test = has_own c.args.entity (texts_of c.args.sought.now) in
    let left = rows_of c.args.entity ttls expiry (joined (drop at groups)) in
    let own = rows_of c.args.entity ttls expiry g in
    let rest = rows_of c.args.entity ttls expiry (joined (drop (at + 1) groups)) in
    let parts = rows_left_joined c.args.entity ttls expiry groups at g there in
    let fits = fits_step test c.walking.before left own rest parts (length (rows_of c.args.entity ttls expiry (joined groups))) (c.walking.invariant.few ttls expiry) in
    omega (arith, fits, c.requires c.args.entity ttls expiry)

pub overflow_add-before : goal.overflow_add-before
overflow_add-before c =
    let groups = c.args.groups.now in
    let at = c.walking.group-index in
    let g = c.group-item.result in
    let within : at < length groups = omega arith in
    let there = slice_get_read groups (length groups) at g refl within c.group-item.is in
    let test = has_own c.args.entity (texts_of c.args.sought.now) in
    let left = rows_of c.args.entity default_ttls None (joined (drop at groups)) in
    let own = rows_of c.args.entity default_ttls None g in
    let rest = rows_of c.args.entity default_ttls None (joined (drop (at + 1) groups)) in
    let parts = rows_left_joined c.args.entity default_ttls None groups at g there in
    let fits = fits_step test c.walking.before left own rest parts (length (rows_of c.args.entity default_ttls None (joined groups))) (c.walking.invariant.few default_ttls None) in
    omega (arith, fits, c.count-before.ensures default_ttls None, c.requires c.args.entity default_ttls None)

pub walking-preserved : goal.walking-preserved
walking-preserved c = record {
  places = λ ttls expiry.
      let groups = c.args.groups.now in
      let at = c.walking.group-index in
      let g = c.group-item.result in
      let within : at < length groups = omega arith in
      let there = slice_get_read groups (length groups) at g refl within c.group-item.is in
      let test = has_own c.args.entity (texts_of c.args.sought.now) in
      let left = rows_of c.args.entity ttls expiry (joined (drop at groups)) in
      let own = rows_of c.args.entity ttls expiry g in
      let rest = rows_of c.args.entity ttls expiry (joined (drop (at + 1) groups)) in
      let parts = rows_left_joined c.args.entity ttls expiry groups at g there in
      push_step test c.walking.before left own rest parts (c.walking.before + c.count-before.result) c.walking.places.items c.push_sought.new.places.items
      (c.args.places.now.items ++ places_from 0 test (rows_of c.args.entity ttls expiry (joined groups))) (c.in_ok-push_sought.ensures ttls expiry) (ap (λ n. c.walking.before + n) (c.count-before.ensures ttls expiry))
      (c.walking.invariant.places ttls expiry);
  few = λ ttls expiry.
      let groups = c.args.groups.now in
      let at = c.walking.group-index in
      let g = c.group-item.result in
      let within : at < length groups = omega arith in
      let there = slice_get_read groups (length groups) at g refl within c.group-item.is in
      let test = has_own c.args.entity (texts_of c.args.sought.now) in
      let left = rows_of c.args.entity ttls expiry (joined (drop at groups)) in
      let own = rows_of c.args.entity ttls expiry g in
      let rest = rows_of c.args.entity ttls expiry (joined (drop (at + 1) groups)) in
      let parts = rows_left_joined c.args.entity ttls expiry groups at g there in
      long_step test c.walking.before left own rest parts (c.walking.before + c.count-before.result) (length (rows_of c.args.entity ttls expiry (joined groups))) (ap (λ n. c.walking.before + n) (c.count-before.ensures ttls expiry))
      (c.walking.invariant.few ttls expiry);
}

pub returns : goal.returns
returns c = λ ttls expiry.
    let groups = c.args.groups.now in
    let test = has_own c.args.entity (texts_of c.args.sought.now) in
    all_pushed test (rows_of c.args.entity ttls expiry (joined (drop c.walking.group-index groups))) (none_left_joined c.args.entity ttls expiry groups c.walking.group-index (omega arith)) c.walking.before c.walking.places.items
    (c.args.places.now.items ++ places_from 0 test (rows_of c.args.entity ttls expiry (joined groups))) (c.walking.invariant.places ttls expiry)
