use Rattle.std.proofs.Common.{◌≡◌, ◌∙◌, ◌+◌, ◌≤◌, ℕ, List, length, Some, None, sym, ap, subst, arith}
use Rattle.std.specs.Prelude.{Bool, ◌&&◌, codes}
use Rattle.std.proofs.lemmas.Result.{IfOk-weaker}
use Rattle.checkpoint_spec.specs.fleet_rows.declared.row.Entity.{Entity}
use Rattle.checkpoint_spec.specs.table_machine.Rows.{table_rows}
use Rattle.checkpoint_spec.specs.table_machine.Table.{Table}
use Rattle.checkpoint_spec.specs.table_spec.Rows.{Cells}
use Rattle.kept_nodes.specs.Counted.{limit}
use Rattle.fleet_tables.specs.Groups.{joined, rows_of, AreFew}
use Rattle.kept_nodes.specs.Spans.{neighbours, places_from, places_of}
use Rattle.kept_nodes.specs.Wanted.{WantedTexts, has_own, has_text_in, is_of_node, is_wanted, text_in, texts_of}
use Rattle.fleet_tables.proofs.JoinedNodes.{Groups}
use Rattle.fleet_tables.proofs.RowBounds.{counted_few}
use Rattle.fleet_tables.proofs.state.State.seek.Goals as goal

-- the same test, where a certname is sought
of_one : (entity : Entity) (texts : WantedTexts) (certname : List ℕ) → texts.certname ≡ Some certname → is_of_node entity certname texts ≡ is_wanted entity texts
of_one entity texts certname e = λ i row. has_text_in entity (codes "certname") (sym e i) row && has_own entity texts row

-- and where none is
of_all : (entity : Entity) (texts : WantedTexts) → texts.certname ≡ None → has_own entity texts ≡ is_wanted entity texts
of_all entity texts e = λ i row. has_text_in entity (codes "certname") (sym e i) row && has_own entity texts row

pub places_in_span-requires : goal.places_in_span-requires
places_in_span-requires c =
    let inside = c.self.inside in
    let few = counted_few inside.total (joined inside.groups.items) c.self.invariant.4 c.self.invariant.5 c.args.entity inside.ttls inside.expiry in
    let most : length (table_rows c.args.entity c.args.self.now) ≤ limit = subst (λ (t : Table). length (table_rows c.args.entity t) ≤ limit) c.self.view_is few in
    omega (arith, most, c.sought_span.ensures.1)

pub returns-in-Some : goal.returns-in-Some
returns-in-Some c =
    let texts = texts_of c.args.sought.now in
    let rows = table_rows c.args.entity c.args.self.now in
    let span = c.sought_span.result in
    let test = of_one c.args.entity texts c.in-Some.certname.now (ap text_in c.in-Some.is) in
    let here : span.from ≡ 0 + span.from = omega arith in
    IfOk-weaker c.places_in_span.result _ _ (λ places e.
    e ∙ ap (λ n. neighbours n span.count) here ∙ sym (c.sought_span.ensures.0 0) ∙ ap (λ (p : Cells → Bool). places_of p rows) test)
    c.places_in_span.ensures

pub places_in_groups-requires : goal.places_in_groups-requires
places_in_groups-requires c =
    let inside = c.self.inside in
    subst (λ (gs : Groups). AreFew (joined gs)) (sym c.as_slice.ensures.value) (counted_few inside.total (joined inside.groups.items) c.self.invariant.4 c.self.invariant.5)

pub returns-in-None : goal.returns-in-None
returns-in-None c =
    let inside = c.self.inside in
    let texts = texts_of c.args.sought.now in
    let own = has_own c.args.entity texts in
    let test = of_all c.args.entity texts (ap text_in c.in-None.is) in
    IfOk-weaker c.places_in_groups.result _ _ (λ places e.
    e inside.ttls inside.expiry ∙ ap (λ (gs : Groups). places_from 0 own (rows_of c.args.entity inside.ttls inside.expiry (joined gs))) c.as_slice.ensures.value
    ∙ ap (λ (t : Table). places_of own (table_rows c.args.entity t)) c.self.view_is
    ∙ ap (λ (p : Cells → Bool). places_of p (table_rows c.args.entity c.args.self.now)) test)
    c.places_in_groups.ensures
