use Rattle.std.proofs.Common.{◌∙◌, sym, ap, Some, Ok}
use Rattle.json_machine.proofs.of_text_spec.JsonLemmas.{items_list-of}
use Rattle.json_tree.specs.Tree.{json_of}
use Rattle.json_read.specs.Fields.{as_list}
use Rattle.json_read.proofs.fields.list_field.Goals as goal

pub returns-in-Some-List : goal.returns-in-Some-List
returns-in-Some-List c = ap as_list (sym c.in-Some-List.ensures.value) ∙ ap (λ j. as_list (Some (json_of j))) c.in-Some-List.field-0-is ∙ ap Ok (items_list-of c.in-Some-List.items)
