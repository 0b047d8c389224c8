use Rattle.std.proofs.Common.{◌∙◌, ap, Ok}
use Rattle.wire_spec.specs.json_tree.Tree.{json_of}
use Rattle.wire_spec.specs.Table.{members}
use Rattle.wire_spec.proofs.of_text_spec.JsonLemmas.{members_list-of}
use Rattle.wire_fields.proofs.check.members_in.Goals as goal

pub returns-in-Map : goal.returns-in-Map
returns-in-Map c = ap (λ j. members c.args.place (json_of j)) c.in-Map.is ∙ ap Ok (members_list-of c.in-Map.members)
