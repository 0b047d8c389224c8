use Rattle.std.proofs.Common.{◌≡◌, ◌+◌, ◌∷◌, ◌∙◌, sym, ap, subst, drop, List}
use Rattle.std.proofs.lemmas.List.{drop_more}
use Rattle.json_read.specs.json_tree.Tree.{json_of, jsons}
use Rattle.wire_catalog.specs.wire_spec.Table.{report_resource, each_from}
use Rattle.wire_catalog.specs.wire_fields.Checks.{checked}
use Rattle.change_reader.proofs.Reports.{refused_list}
use Rattle.change_reader.proofs.report.are_resources.Goals as goal

pub returns-then-is_err : goal.returns-then-is_err
returns-then-is_err c =
    let values = c.args.values.now in
    let k = c.loop-json.json-index in
    let here : drop k values ≡ c.json-item.result ∷ drop (k + 1) values =
    drop_more values k c.json-item.result c.loop-json-test.true ∙ ap (λ x. x ∷ drop (k + 1) values) (sym c.json-item.is) in
    let rest = subst (λ l. checked (each_from c.loop-json.index report_resource (jsons l)) ≡ checked (each_from 0 report_resource (jsons values))) here c.loop-json.invariant.rest in
    refused_list report_resource c.loop-json.index (json_of c.json-item.result) (jsons (drop (k + 1) values)) c.check_resource.result (each_from 0 report_resource (jsons values))
    (sym c.is_err.ensures.value ∙ c.if-is_err.true) c.check_resource.ensures rest
