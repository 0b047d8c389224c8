use Rattle.std.proofs.Common.{◌∙◌, ap, sym}
use Rattle.std.specs.List.{list_any}
use Rattle.same_text.specs.text_spec.Json.{string}
use Rattle.same_text.specs.text_spec.Order.{same}
use Rattle.same_text.proofs.of_text_spec.JsonLemmas.{items_list-of}
use Rattle.same_text.specs.json_tree.Tree.{json_of}
use Rattle.fleet_tables.specs.fleet_rows.Cell.{plain}
use Rattle.query_plan.specs.means_spec.Cells.{has_tag}
use Rattle.query_plan.specs.query_spec.declared.parts.Scalar.TheVariants.{Text}
use Rattle.query_rows.proofs.compare.is_tag.Goals as goal

pub returns-in-List : goal.returns-in-List
returns-in-List c =
    c.has_text.ensures
    ∙ ap (list_any (same (string c.args.text.now))) (c.as_slice.ensures.items ∙ sym (items_list-of c.in-List.items))
    ∙ ap (λ j. has_tag (Text c.args.text.now) (plain (json_of j))) (sym c.in-List.is)
