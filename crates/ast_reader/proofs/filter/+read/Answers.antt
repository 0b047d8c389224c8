use Rattle.std.proofs.Common.{◌≡◌, ◌∙◌, ◌+◌, ◌≤◌, [], ◌∷◌, drop, map, sym, ap, subst, arith, Some, Ok, Err}
use Rattle.std.proofs.lemmas.List.{drop_more}
use Rattle.json_read.specs.text_spec.Json.{items_of, levels, items_levels}
use Rattle.json_read.specs.json_tree.Tree.{json_of, jsons}
use Rattle.query_spec.specs.Ast.{filter_at, filters_at, query_within, select_at}
use Rattle.query_spec.specs.declared.parts.Selected.TheVariants.{Column}
use Rattle.query_spec.specs.Parts.{unpaged}
use Rattle.query_spec.specs.Query.{level}
use Rattle.query_spec.specs.Words.{inner_word}
use Rattle.ast_tree.specs.Tree.{filter_of}
use Rattle.ast_parts.specs.Gives.{Gives, with_front}
use Rattle.ast_parts.proofs.Items.{item-within}
use Rattle.ast_reader.proofs.Fronts.{filters-on}
use Rattle.ast_reader.proofs.Selects.{queries, rows_fail, rows_chosen, selects}
use Rattle.ast_reader.proofs.filter.+read.Goals as goal

pub each-filter-requires : goal.each-filter-requires
each-filter-requires t c =
    let below : levels (json_of c.json-item.result) ≤ items_levels (items_of (jsons c.args.list.now)) =
    item-within c.args.list.now c.loop-json.json-index c.json-item.result c.json-item.is c.loop-json-test.true in
    (omega (arith, below, c.decreases), (omega (arith, below, c.in_ok-inner.ensures.longer, c.requires.room), c.requires.depth))

pub each-loop-json-preserved : goal.each-loop-json-preserved
each-loop-json-preserved t c = record {
  at = omega (arith, c.loop-json.invariant.at);
  same =
      subst (λ found. with_front found (filters_at c.args.depth c.args.place.now (c.loop-json.at + 1) (items_of (jsons (drop (c.loop-json.json-index + 1) c.args.list.now)))) ≡ filters_at c.args.depth c.args.place.now 1 (items_of (jsons c.args.list.now)))
      (sym (c.in_ok-push.ensures.ok))
      (filters-on c.args.depth c.args.place.now c.loop-json.at c.loop-json.found (filter_of c.in_ok-filter.field-0) (json_of c.json-item.result) (items_of (jsons (drop (c.loop-json.json-index + 1) c.args.list.now))) (filters_at c.args.depth c.args.place.now 1 (items_of (jsons c.args.list.now)))
      (subst (λ p. filter_at c.args.depth p (json_of c.json-item.result) ≡ Ok (filter_of c.in_ok-filter.field-0)) c.in_ok-inner.ensures.place c.in_ok-filter.ensures)
      (ap (λ js. with_front c.loop-json.found (filters_at c.args.depth c.args.place.now c.loop-json.at (items_of (jsons js))))
      (ap (λ j. j ∷ drop (c.loop-json.json-index + 1) c.args.list.now) c.json-item.is ∙ sym (drop_more c.args.list.now c.loop-json.json-index c.json-item.result c.loop-json-test.true))
      ∙ c.loop-json.invariant.same));
}

pub extract-returns-in-Text : goal.extract-returns-in-Text
extract-returns-in-Text t c = rw (c.in-List.is, sym c.as_slice.ensures.items, c.in-Some.ensures, c.in-Text.is) c.extract_form.ensures

pub filter-returns-in-Text : goal.filter-returns-in-Text
filter-returns-in-Text t c = rw (c.in-List.is, sym c.as_slice.ensures.items, c.in-Some.ensures, c.in-Text.is) c.filter_form.ensures

pub inner-returns-in-Text : goal.inner-returns-in-Text
inner-returns-in-Text t c = rw (c.in-List.is, sym c.as_slice.ensures.items, c.in-Some.ensures, c.in-Text.is) c.inner_form.ensures

pub query-returns-in-Some-split : goal.query-returns-in-Some-split
query-returns-in-Some-split t c = rw (c.in-Some.ensures, c.in-Some-split.ensures) c.query_form.ensures

pub rows_of-returns-in-Two : goal.rows_of-returns-in-Two
rows_of-returns-in-Two t c = rw (c.in-List.is, sym c.as_slice.ensures.items, c.in-Two.ensures.items) c.rows_where.ensures

pub rows_where-returns-in_err-filter-in-Text : goal.rows_where-returns-in_err-filter-in-Text
rows_where-returns-in_err-filter-in-Text t c =
    let refused : c.from_residual-in_err-filter-in-Text.result ≡ Err c.in_err-filter-in-Text.field-0.0 = grind (arith, c.from_residual-in_err-filter-in-Text.ensures) in
    rw (refused, c.in-Text.is)
    (rows_fail c.in_err-filter-in-Text.field-0.0 c.args.depth c.args.place.now c.in_ok-within-in-Text.field-0 c.args.columns c.in-Text.word (json_of c.args.json.now) c.in_ok-entity-in-Text.entity c.in_ok-within-in-Text.ensures.place c.in_ok-entity-in-Text.ensures c.in_err-filter-in-Text.ensures)

pub rows_where-returns-in_ok-selected_level-in-Text :
    goal.rows_where-returns-in_ok-selected_level-in-Text
rows_where-returns-in_ok-selected_level-in-Text t c =
    rw c.in-Text.is
    (rows_chosen c.args.depth c.args.place.now c.in_ok-within-in-Text.field-0 c.args.columns c.in-Text.word (json_of c.args.json.now) c.in_ok-entity-in-Text.entity (filter_of c.in_ok-filter-in-Text.filter) c.in_ok-within-in-Text.ensures.place c.in_ok-entity-in-Text.ensures c.in_ok-filter-in-Text.ensures
    ∙ ap Ok (sym (c.in_ok-selected_level-in-Text.ensures ∙ ap (λ k. level c.in_ok-entity-in-Text.entity (Some (map Column c.args.columns)) k [] unpaged) c.in_ok-clause-in-Text.ensures)))

pub inner_form-returns-in-Extract : goal.inner_form-returns-in-Extract
inner_form-returns-in-Extract t c =
    subst (Gives filter_of c.among_rows.result)
    (sym (selects c.args.depth c.args.place.now c.args.fields c.args.head.now (items_of (jsons c.args.rest.now)) (sym (c.in-Extract.ensures ∙ ap inner_word c.as_str.ensures))))
    (c.among_rows.ensures (select_at c.args.depth c.args.place.now (items_of (jsons c.args.rest.now))) c.select.ensures)

pub inner_form-returns-in-From : goal.inner_form-returns-in-From
inner_form-returns-in-From t c =
    subst (Gives filter_of c.among_rows-in-From.result)
    (sym (queries c.args.depth c.args.place.now c.args.fields c.args.head.now (items_of (jsons c.args.rest.now)) (sym (c.in-From.ensures ∙ ap inner_word c.as_str.ensures))))
    (c.among_rows-in-From.ensures (query_within c.args.depth c.args.place.now (items_of (jsons c.args.rest.now))) c.query.ensures)
