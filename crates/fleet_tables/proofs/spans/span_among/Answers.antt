use Rattle.std.proofs.Common.{◌≡◌, ◌∙◌, ◌+◌, ℕ, true, nat_eq, length, None, refl, sym, ap, arith}
use Rattle.std.proofs.lemmas.Option.{slice_get_read}
use Rattle.checkpoint_spec.specs.fleet_rows.Defaults.{default_ttls}
use Rattle.kept_nodes.specs.Wanted.{is_of_node, texts_of}
use Rattle.fleet_tables.proofs.SpanNodes.{group_fits, group_own, group_span_at, no_group_span}
use Rattle.fleet_tables.proofs.spans.span_among.Goals as goal

nothing : (n : ℕ) → nat_eq n 0 ≡ true → n ≡ 0
nothing n h = grind (arith, h)

pub returns-then-is_empty : goal.returns-then-is_empty
returns-then-is_empty c = λ ttls expiry.
    no_group_span c.args.entity ttls expiry c.args.groups.now (is_of_node c.args.entity c.args.certname.now (texts_of c.args.sought.now)) c.empty.result (nothing (length c.args.groups.now) (sym c.is_empty.ensures ∙ c.if-is_empty.true)) c.empty.ensures.from c.empty.ensures.count

pub rows_before-before-requires : goal.rows_before-before-requires
rows_before-before-requires c = record { within = omega (arith, c.group_of-at.ensures.place); few = c.requires.few }

pub span_of-requires : goal.span_of-requires
span_of-requires c =
    let groups = c.args.groups.now in
    let at = c.group_of-at.result in
    let g = c.index-groups-at.result in
    let there = slice_get_read groups (length groups) at g refl c.group_of-at.ensures.place c.index-groups-at.is in
    group_own c.args.entity groups at g there c.requires.own

pub behind-requires : goal.behind-requires
behind-requires c =
    let groups = c.args.groups.now in
    let at = c.group_of-at.result in
    let g = c.index-groups-at.result in
    let there = slice_get_read groups (length groups) at g refl c.group_of-at.ensures.place c.index-groups-at.is in
    let before = c.rows_before-before.ensures default_ttls None in
    let fits = group_fits c.args.entity groups at g there c.requires.own default_ttls None c.span_of.result.from c.span_of.result.count (c.span_of.ensures default_ttls None).1 (c.requires.few c.args.entity default_ttls None) in
    omega (arith, before, fits)

pub returns : goal.returns
returns c = λ ttls expiry.
    let groups = c.args.groups.now in
    let at = c.group_of-at.result in
    let g = c.index-groups-at.result in
    let there = slice_get_read groups (length groups) at g refl c.group_of-at.ensures.place c.index-groups-at.is in
    let before = c.rows_before-before.ensures ttls expiry in
    group_span_at c.args.entity groups at g there c.requires.own ttls expiry c.args.certname.now (texts_of c.args.sought.now) c.span_of.result c.behind.result c.group_of-at.ensures.below c.group_of-at.ensures.above
    (c.span_of.ensures ttls expiry) (c.behind.ensures.from ∙ ap (λ n. n + c.span_of.result.from) before) c.behind.ensures.count
