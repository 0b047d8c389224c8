use Rattle.std.proofs.Common.{◌∙◌, ap, sym}
use Rattle.fleet_rows.proofs.of_text_spec.JsonLemmas.{members_list-of}
use Rattle.fleet_rows.specs.json_tree.Tree.{json_of}
use Rattle.fleet_rows.specs.text_spec.Json.{find_member}
use Rattle.fact_paths.specs.Leaves.{key, value_in}
use Rattle.fact_paths.proofs.names.member_of.Goals as goal

pub returns-in-Map : goal.returns-in-Map
returns-in-Map c =
    c.member.ensures
    ∙ ap (find_member c.args.name.now) (sym (members_list-of c.in-Map.members))
    ∙ ap (λ j. value_in (key c.args.name.now) (json_of j)) (sym c.in-Map.is)
