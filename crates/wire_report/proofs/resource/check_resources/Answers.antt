use Rattle.std.proofs.Common.{◌≡◌, ◌∙◌, ◌+◌, ◌∷◌, drop, refl, sym, ap, Err, arith}
use Rattle.std.proofs.lemmas.List.{drop_more}
use Rattle.wire_fields.specs.json_tree.Tree.{jsons}
use Rattle.wire_fields.specs.wire_spec.Table.{report_resource}
use Rattle.wire_fields.proofs.of_wire_spec.CountedLaws.{listed-le}
use Rattle.wire_report.proofs.KeptLaws.{fails}
use Rattle.wire_report.proofs.resource.check_resources.Goals as goal

pub loop-json-init : goal.loop-json-init
loop-json-init c = record {
  room = omega (arith, listed-le (jsons c.args.resources.now), c.requires);
  rest = refl;
}

pub returns-in_err-check_resource : goal.returns-in_err-check_resource
returns-in_err-check_resource c =
    let list = c.args.resources.now in
    let i = c.loop-json.json-index in
    let x = c.json-item.result in
    let rest : drop i list ≡ x ∷ drop (i + 1) list = drop_more list i x c.loop-json-test.true ∙ ap (λ y. y ∷ drop (i + 1) list) (sym c.json-item.is) in
    let refused : c.from_residual.result ≡ Err c.in_err-check_resource.field-0.0 = grind (arith, c.from_residual.ensures) in
    refused ∙ fails report_resource list i x rest c.loop-json.index c.in_err-check_resource.ensures ∙ c.loop-json.invariant.rest
