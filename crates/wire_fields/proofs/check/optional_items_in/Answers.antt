use Rattle.std.proofs.Common.{◌≡◌, ◌∙◌, sym, ap, Ok, Some}
use Rattle.std.specs.Prelude.{option_map}
use Rattle.wire_spec.specs.text_spec.Json.{array, items_of, find_member}
use Rattle.wire_spec.specs.json_tree.Tree.{json_of}
use Rattle.wire_spec.specs.Refusals.{field_key}
use Rattle.wire_spec.specs.Table.{items, taken_if}
use Rattle.wire_spec.proofs.of_text_spec.JsonLemmas.{items_list-of}
use Rattle.wire_fields.proofs.check.optional_items_in.Goals as goal

pub returns-in-Some-List : goal.returns-in-Some-List
returns-in-Some-List c =
    let found : find_member (field_key c.args.place.field) c.args.json.now ≡ Some (array (items_of c.in-Some-List.items)) =
    ap (λ k. find_member k c.args.json.now) (sym c.key.ensures) ∙ sym c.find.ensures ∙ ap (option_map (λ j. json_of j.now)) c.in-Some-List.is ∙ ap (λ j. Some (json_of j)) c.in-Some-List.field-0-is in
    ap (taken_if items c.args.place) found ∙ ap (λ js. Ok (Some js)) (items_list-of c.in-Some-List.items)
