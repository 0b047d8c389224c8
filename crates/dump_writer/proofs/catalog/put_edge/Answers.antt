use Rattle.std.proofs.Common.{◌∙◌, ap, ◌++◌, ◌∷◌, [], List, ℕ, true, false, codes}
use Rattle.dump_laws.specs.dump_spec.text_spec.Compact.{compact, comma_if, quoted}
use Rattle.dump_laws.specs.dump_spec.text_spec.Json.{string}
use Rattle.dump_laws.specs.dump_spec.wire_spec.Table.{relationship_name}
use Rattle.dump_laws.specs.dump_spec.Payloads.{dictionary, name_fields}
use Rattle.dump_writer.proofs.Texts.{three_alone}
use Rattle.dump_writer.proofs.catalog.put_edge.Goals as goal

pub returns : goal.returns
returns c =
    let e = c.args.edge.now in
    let out = c.args.out.now.items in
    let source = dictionary (name_fields e.source) in
    let target = dictionary (name_fields e.target) in
    let relationship = string (relationship_name e.relationship) in
    c.in_ok-push-2.ensures.items
    ∙ ap (λ (t : List ℕ). t ++ 125 ∷ [])
    (c.in_ok-put_relationship.ensures
    ∙ ap (λ (t : List ℕ). t ++ compact relationship)
    (c.in_ok-put_name-3.ensures
    ∙ ap (λ (t : List ℕ). t ++ comma_if true ++ quoted (codes "relationship") ++ 58 ∷ [])
    (c.in_ok-put_resource_name-2.ensures
    ∙ ap (λ (t : List ℕ). t ++ compact target)
    (c.in_ok-put_name-2.ensures
    ∙ ap (λ (t : List ℕ). t ++ comma_if true ++ quoted (codes "target") ++ 58 ∷ [])
    (c.in_ok-put_resource_name.ensures
    ∙ ap (λ (t : List ℕ). t ++ compact source)
    (c.in_ok-put_name.ensures
    ∙ ap (λ (t : List ℕ). t ++ comma_if false ++ quoted (codes "source") ++ 58 ∷ []) c.in_ok-push.ensures.items))))))
    ∙ three_alone out (codes "source") (codes "target") (codes "relationship") source target relationship
