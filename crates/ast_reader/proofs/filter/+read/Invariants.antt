-- Each measure is eight times the levels that are left, and a number by which a call within one value falls.
use Rattle.std.proofs.Common.{◌≡◌, ◌+◌, ◌*◌, drop}
use Rattle.json_read.specs.text_spec.Json.{items_of, levels, items_levels}
use Rattle.json_read.specs.json_tree.Tree.{json_of, jsons}
use Rattle.query_spec.specs.Ast.{filters_at}
use Rattle.ast_parts.specs.Gives.{with_front}
use Rattle.ast_reader.proofs.filter.+read.Given as goal

abbrev pub decreases-filter : goal.decreases-filter
decreases-filter l = 8 * levels (json_of l.json.now)

abbrev pub decreases-filter_form : goal.decreases-filter_form
decreases-filter_form l = 8 * items_levels (items_of (jsons l.rest.now)) + 6

abbrev pub decreases-some : goal.decreases-some
decreases-some l = 8 * items_levels (items_of (jsons l.rest.now)) + 5

abbrev pub decreases-each : goal.decreases-each
decreases-each l = 8 * items_levels (items_of (jsons l.list.now)) + 4

abbrev pub decreases-one : goal.decreases-one
decreases-one l = 8 * items_levels (items_of (jsons l.rest.now)) + 5

abbrev pub decreases-sides : goal.decreases-sides
decreases-sides l = 8 * items_levels (items_of (jsons l.rest.now)) + 5

abbrev pub decreases-both_sides : goal.decreases-both_sides
decreases-both_sides l = 8 * levels (json_of l.second.now) + 4

abbrev pub decreases-inner : goal.decreases-inner
decreases-inner l = 8 * levels (json_of l.json.now) + 1

abbrev pub decreases-inner_form : goal.decreases-inner_form
decreases-inner_form l = 8 * items_levels (items_of (jsons l.rest.now)) + 7

abbrev pub decreases-select : goal.decreases-select
decreases-select l = 8 * items_levels (items_of (jsons l.rest.now)) + 6

abbrev pub decreases-select_form : goal.decreases-select_form
decreases-select_form l = 8 * levels (json_of l.second.now) + 4

abbrev pub decreases-rows_of : goal.decreases-rows_of
decreases-rows_of l = 8 * levels (json_of l.json.now) + 2

abbrev pub decreases-rows_where : goal.decreases-rows_where
decreases-rows_where l = 8 * levels (json_of l.json.now) + 4

abbrev pub decreases-subquery : goal.decreases-subquery
decreases-subquery l = 8 * items_levels (items_of (jsons l.rest.now)) + 5

abbrev pub decreases-related : goal.decreases-related
decreases-related l = 8 * levels (json_of l.json.now) + 4

abbrev pub decreases-extract : goal.decreases-extract
decreases-extract l = 8 * levels (json_of l.json.now) + 1

abbrev pub decreases-extract_form : goal.decreases-extract_form
decreases-extract_form l = 8 * items_levels (items_of (jsons l.rest.now)) + 7

abbrev pub decreases-extracted : goal.decreases-extracted
decreases-extracted l = 8 * items_levels (items_of (jsons l.rest.now)) + 6

abbrev pub decreases-extracted_with : goal.decreases-extracted_with
decreases-extracted_with l = 8 * levels (json_of l.part.now) + 4

abbrev pub decreases-extracted_by : goal.decreases-extracted_by
decreases-extracted_by l = 8 * levels (json_of l.chosen.now) + 4

abbrev pub decreases-query : goal.decreases-query
decreases-query l = 8 * items_levels (items_of (jsons l.rest.now)) + 6

abbrev pub decreases-query_form : goal.decreases-query_form
decreases-query_form l = 8 * levels (json_of l.json.now) + 4

abbrev pub invariant-each-loop-json : goal.invariant-each-loop-json
invariant-each-loop-json l = record {
  at : l.at ≡ l.json-index + 1;
  same : with_front l.found (filters_at l.depth l.place l.at (items_of (jsons (drop l.json-index l.list)))) ≡ filters_at l.depth l.place 1 (items_of (jsons l.list));
}
