use Rattle.std.proofs.Common.{◌∙◌, sym, ap, Ok}
use Rattle.wire_spec.specs.json_tree.Tree.{json_of}
use Rattle.wire_spec.specs.Table.{items}
use Rattle.wire_spec.proofs.of_text_spec.JsonLemmas.{items_list-of}
use Rattle.wire_fields.proofs.kind.items.Goals as goal

pub returns-in-List : goal.returns-in-List
returns-in-List c = ap Ok (sym (items_list-of c.in-List.items)) ∙ ap (λ j. items c.args.place (json_of j)) (sym c.in-List.is)
