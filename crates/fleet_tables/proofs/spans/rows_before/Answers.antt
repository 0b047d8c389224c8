use Rattle.std.proofs.Common.{◌≡◌, ◌∙◌, ◌<◌, length, take, None, refl, ap, arith}
use Rattle.std.proofs.lemmas.Option.{slice_get_read}
use Rattle.checkpoint_spec.specs.fleet_rows.Defaults.{default_ttls}
use Rattle.fleet_tables.specs.Groups.{joined, rows_of}
use Rattle.fleet_tables.proofs.SpanNodes.{one_group_more, one_group_fits}
use Rattle.fleet_tables.proofs.spans.rows_before.Goals as goal

pub overflow_add-before : goal.overflow_add-before
overflow_add-before c =
    let groups = c.args.groups.now in
    let g = c.index-groups-passed.result in
    let within : c.passing.passed < length groups = omega arith in
    let there = slice_get_read groups (length groups) c.passing.passed g refl within c.index-groups-passed.is in
    let fits = one_group_fits c.args.entity default_ttls None groups c.passing.passed g there (c.requires.few c.args.entity default_ttls None) in
    omega (arith, fits, c.passing.invariant default_ttls None, c.count-before.ensures default_ttls None)

pub passing-preserved : goal.passing-preserved
passing-preserved c = λ ttls expiry.
    let groups = c.args.groups.now in
    let g = c.index-groups-passed.result in
    let within : c.passing.passed < length groups = omega arith in
    let there = slice_get_read groups (length groups) c.passing.passed g refl within c.index-groups-passed.is in
    omega (arith, one_group_more c.args.entity ttls expiry groups c.passing.passed g there, c.passing.invariant ttls expiry, c.count-before.ensures ttls expiry)

pub returns : goal.returns
returns c = λ ttls expiry.
    let all : c.passing.passed ≡ c.args.at = omega arith in
    c.passing.invariant ttls expiry ∙ ap (λ n. length (rows_of c.args.entity ttls expiry (joined (take n c.args.groups.now)))) all
