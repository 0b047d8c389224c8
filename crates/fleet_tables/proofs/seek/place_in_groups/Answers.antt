use Rattle.std.proofs.Common.{◌∙◌, ◌+◌, ◌-◌, ◌<◌, length, drop, slice_get, None, refl, ap, arith}
use Rattle.std.proofs.lemmas.Option.{slice_get_read}
use Rattle.checkpoint_spec.specs.fleet_rows.Defaults.{default_ttls}
use Rattle.fleet_tables.specs.Groups.{joined, rows_of}
use Rattle.kept_nodes.specs.Runs.{number}
use Rattle.kept_nodes.specs.Spans.{places_from}
use Rattle.kept_nodes.specs.Wanted.{has_own, texts_of}
use Rattle.fleet_tables.proofs.SeekLaws.{all_passed, behind_step, fits_step, here_step, left_step, long_step, none_left_joined, rows_left_joined}
use Rattle.fleet_tables.proofs.seek.place_in_groups.Goals as goal

pub sought_place-requires : goal.sought_place-requires
sought_place-requires c = λ ttls expiry.
    let groups = c.args.groups.now in
    let at = c.walking.group-index in
    let g = c.group-item.result in
    let within : at < length groups = omega arith in
    let there = slice_get_read groups (length groups) at g refl within c.group-item.is in
    let test = has_own c.args.entity (texts_of c.args.sought.now) in
    let left = rows_of c.args.entity ttls expiry (joined (drop at groups)) in
    let own = rows_of c.args.entity ttls expiry g in
    let rest = rows_of c.args.entity ttls expiry (joined (drop (at + 1) groups)) in
    let parts = rows_left_joined c.args.entity ttls expiry groups at g there in
    let all = rows_of c.args.entity ttls expiry (joined groups) in
    let fits = fits_step test c.walking.before left own rest parts (length all) (c.walking.invariant.few ttls expiry) in
    omega (arith, fits, c.requires c.args.entity ttls expiry)

pub returns-in-Ok : goal.returns-in-Ok
returns-in-Ok c = λ ttls expiry.
    let groups = c.args.groups.now in
    let at = c.walking.group-index in
    let g = c.group-item.result in
    let within : at < length groups = omega arith in
    let there = slice_get_read groups (length groups) at g refl within c.group-item.is in
    let test = has_own c.args.entity (texts_of c.args.sought.now) in
    let left = rows_of c.args.entity ttls expiry (joined (drop at groups)) in
    let own = rows_of c.args.entity ttls expiry g in
    let rest = rows_of c.args.entity ttls expiry (joined (drop (at + 1) groups)) in
    let parts = rows_left_joined c.args.entity ttls expiry groups at g there in
    let all = rows_of c.args.entity ttls expiry (joined groups) in
    c.walking.invariant.place ttls expiry ∙ here_step test c.walking.before left own rest parts c.walking.left c.in-Ok.place (c.in-Ok.ensures ttls expiry)

pub overflow_add-before : goal.overflow_add-before
overflow_add-before c =
    let groups = c.args.groups.now in
    let at = c.walking.group-index in
    let g = c.group-item.result in
    let within : at < length groups = omega arith in
    let there = slice_get_read groups (length groups) at g refl within c.group-item.is in
    let test = has_own c.args.entity (texts_of c.args.sought.now) in
    let left = rows_of c.args.entity default_ttls None (joined (drop at groups)) in
    let own = rows_of c.args.entity default_ttls None g in
    let rest = rows_of c.args.entity default_ttls None (joined (drop (at + 1) groups)) in
    let parts = rows_left_joined c.args.entity default_ttls None groups at g there in
    let all = rows_of c.args.entity default_ttls None (joined groups) in
    let fits = fits_step test c.walking.before left own rest parts (length all) (c.walking.invariant.few default_ttls None) in
    omega (arith, fits, c.count-before.ensures default_ttls None, c.requires c.args.entity default_ttls None)

pub walking-preserved : goal.walking-preserved
walking-preserved c = record {
  place = λ ttls expiry.
      let groups = c.args.groups.now in
      let at = c.walking.group-index in
      let g = c.group-item.result in
      let within : at < length groups = omega arith in
      let there = slice_get_read groups (length groups) at g refl within c.group-item.is in
      let test = has_own c.args.entity (texts_of c.args.sought.now) in
      let left = rows_of c.args.entity ttls expiry (joined (drop at groups)) in
      let own = rows_of c.args.entity ttls expiry g in
      let rest = rows_of c.args.entity ttls expiry (joined (drop (at + 1) groups)) in
      let parts = rows_left_joined c.args.entity ttls expiry groups at g there in
      let all = rows_of c.args.entity ttls expiry (joined groups) in
      behind_step test c.walking.before left own rest parts (c.walking.before + c.count-before.result) c.walking.left c.in-Err.rest (slice_get (places_from 0 test all) c.args.i)
      (ap (λ n. c.walking.before + n) (c.count-before.ensures ttls expiry)) (c.in-Err.ensures ttls expiry) (c.walking.invariant.place ttls expiry);
  left = λ ttls expiry.
      let groups = c.args.groups.now in
      let at = c.walking.group-index in
      let g = c.group-item.result in
      let within : at < length groups = omega arith in
      let there = slice_get_read groups (length groups) at g refl within c.group-item.is in
      let test = has_own c.args.entity (texts_of c.args.sought.now) in
      let left = rows_of c.args.entity ttls expiry (joined (drop at groups)) in
      let own = rows_of c.args.entity ttls expiry g in
      let rest = rows_of c.args.entity ttls expiry (joined (drop (at + 1) groups)) in
      let parts = rows_left_joined c.args.entity ttls expiry groups at g there in
      let all = rows_of c.args.entity ttls expiry (joined groups) in
      left_step test c.walking.before left own rest parts c.walking.left c.in-Err.rest c.args.i (number test all) (c.in-Err.ensures ttls expiry) (c.walking.invariant.left ttls expiry);
  few = λ ttls expiry.
      let groups = c.args.groups.now in
      let at = c.walking.group-index in
      let g = c.group-item.result in
      let within : at < length groups = omega arith in
      let there = slice_get_read groups (length groups) at g refl within c.group-item.is in
      let test = has_own c.args.entity (texts_of c.args.sought.now) in
      let left = rows_of c.args.entity ttls expiry (joined (drop at groups)) in
      let own = rows_of c.args.entity ttls expiry g in
      let rest = rows_of c.args.entity ttls expiry (joined (drop (at + 1) groups)) in
      let parts = rows_left_joined c.args.entity ttls expiry groups at g there in
      let all = rows_of c.args.entity ttls expiry (joined groups) in
      long_step test c.walking.before left own rest parts (c.walking.before + c.count-before.result) (length all) (ap (λ n. c.walking.before + n) (c.count-before.ensures ttls expiry)) (c.walking.invariant.few ttls expiry);
}

pub returns : goal.returns
returns c = λ ttls expiry.
    let groups = c.args.groups.now in
    let test = has_own c.args.entity (texts_of c.args.sought.now) in
    all_passed test (rows_of c.args.entity ttls expiry (joined (drop c.walking.group-index groups))) (none_left_joined c.args.entity ttls expiry groups c.walking.group-index (omega arith)) c.args.i c.walking.left
    (number test (rows_of c.args.entity ttls expiry (joined groups))) (c.walking.invariant.left ttls expiry)
