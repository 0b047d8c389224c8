use Rattle.std.proofs.Common.{◌∙◌, sym, ap, Ok}
use Rattle.wire_spec.specs.json_tree.Tree.{json_of}
use Rattle.wire_spec.specs.Table.{members}
use Rattle.wire_spec.proofs.of_text_spec.JsonLemmas.{members_list-of}
use Rattle.wire_fields.proofs.kind.members.Goals as goal

pub returns-in-Map : goal.returns-in-Map
returns-in-Map c = ap Ok (sym (members_list-of c.in-Map.members)) ∙ ap (λ j. members c.args.place (json_of j)) (sym c.in-Map.is)
