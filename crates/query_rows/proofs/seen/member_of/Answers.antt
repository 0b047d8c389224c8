use Rattle.std.proofs.Common.{◌∙◌, ap, sym, unwrap_or}
use Rattle.same_text.specs.text_spec.Json.{null, find_member}
use Rattle.same_text.proofs.of_text_spec.JsonLemmas.{members_list-of}
use Rattle.same_text.specs.json_tree.Tree.{json_of}
use Rattle.fleet_tables.specs.fleet_rows.Cell.{plain}
use Rattle.query_plan.specs.means_spec.Cells.{member_in}
use Rattle.query_rows.proofs.seen.member_of.Goals as goal

pub returns-in-Map : goal.returns-in-Map
returns-in-Map c =
    c.member.ensures
    ∙ ap (λ ms. plain (unwrap_or (find_member c.args.name.now ms) null)) (sym (members_list-of c.in-Map.members))
    ∙ ap (λ j. member_in c.args.name.now (plain (json_of j))) (sym c.in-Map.is)
