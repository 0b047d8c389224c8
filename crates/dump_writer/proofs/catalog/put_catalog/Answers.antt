use Rattle.std.proofs.Common.{◌∙◌, ap, ◌++◌, ◌∷◌, [], List, ℕ, true, false, map, codes, Some}
use Rattle.std.specs.Option.{option_map}
use Rattle.dump_laws.specs.dump_spec.text_spec.Compact.{compact, comma_if, quoted}
use Rattle.dump_laws.specs.dump_spec.text_spec.Json.{string}
use Rattle.dump_laws.specs.dump_spec.Payloads.{Fields, there, list, stamp, edge_value, resource_value}
use Rattle.dump_writer.specs.Shown.{pairs_text}
use Rattle.dump_writer.proofs.Texts.{two_further}
use Rattle.dump_writer.proofs.catalog.put_catalog.Goals as goal

pub returns : goal.returns
returns c =
    let k = c.args.catalog.now in
    let out = c.args.out.now.items in
    let fs : Fields =
    (codes "version", Some (string k.version)) ∷ (codes "environment", option_map string k.environment) ∷ (codes "transaction_uuid", option_map string k.transaction_uuid)
    ∷ (codes "catalog_uuid", option_map string k.catalog_uuid) ∷ (codes "code_id", option_map string k.code_id) ∷ (codes "job_id", option_map string k.job_id)
    ∷ (codes "producer_timestamp", Some (stamp k.stamp)) ∷ (codes "producer", option_map string k.producer) ∷ [] in
    let first = pairs_text false (there ((codes "certname", Some (string k.certname)) ∷ fs)) in
    let edges = list (map edge_value k.edges) in
    let resources = list (map resource_value k.resources) in
    c.in_ok-push-2.ensures.items
    ∙ ap (λ (t : List ℕ). t ++ 125 ∷ [])
    (c.in_ok-put_resources.ensures
    ∙ (λ i. c.in_ok-put_name-2.ensures i ++ compact (list (map resource_value (c.as_slice-2.ensures i))))
    ∙ ap (λ (t : List ℕ). (t ++ comma_if true ++ quoted (codes "resources") ++ 58 ∷ []) ++ compact resources)
    (c.in_ok-put_edges.ensures
    ∙ (λ i. c.in_ok-put_name.ensures i ++ compact (list (map edge_value (c.as_slice.ensures i))))
    ∙ ap (λ (t : List ℕ). (t ++ comma_if true ++ quoted (codes "edges") ++ 58 ∷ []) ++ compact edges)
    (c.in_ok-put_fields.ensures ∙ ap (λ (t : List ℕ). t ++ first) c.in_ok-push.ensures.items)))
    ∙ two_further out (codes "certname") (string k.certname) fs (codes "edges") (codes "resources") edges resources
