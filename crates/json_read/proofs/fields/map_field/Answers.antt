use Rattle.std.proofs.Common.{◌∙◌, sym, ap, Some, Ok}
use Rattle.json_machine.proofs.of_text_spec.JsonLemmas.{members_list-of}
use Rattle.json_tree.specs.Tree.{json_of}
use Rattle.json_read.specs.Fields.{as_map}
use Rattle.json_read.proofs.fields.map_field.Goals as goal

pub returns-in-Some-Map : goal.returns-in-Some-Map
returns-in-Some-Map c = ap as_map (sym c.in-Some-Map.ensures.value) ∙ ap (λ j. as_map (Some (json_of j))) c.in-Some-Map.field-0-is ∙ ap Ok (members_list-of c.in-Some-Map.members)
