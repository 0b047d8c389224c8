use Rattle.std.proofs.Common.{◌≡◌, ◌∙◌, ap, sym, subst, IfOk, codes, unwrap_or}
use Rattle.fleet_rows.proofs.of_text_spec.JsonLemmas.{members_list-of}
use Rattle.fleet_rows.specs.Cell.{cell_of, plain}
use Rattle.fleet_rows.specs.json_tree.Tree.{json_of}
use Rattle.fleet_rows.specs.text_spec.Json.{null, find_member}
use Rattle.fact_paths.specs.Rows.{trusted_in}
use Rattle.fact_paths.proofs.factset.trusted_value.Goals as goal

pub returns-in-Map : goal.returns-in-Map
returns-in-Map c =
    let ms = c.in-Map.members in
    let same : unwrap_or (find_member (codes "trusted") ms) null ≡ trusted_in (plain (json_of c.args.facts.now)) =
    ap (λ facts. unwrap_or (find_member (codes "trusted") facts) null) (sym (members_list-of ms))
    ∙ ap (λ facts. trusted_in (plain (json_of facts))) (sym c.in-Map.is) in
    subst (λ j. IfOk c.trusted_member.result (λ made. cell_of made ≡ plain j)) same c.trusted_member.ensures
