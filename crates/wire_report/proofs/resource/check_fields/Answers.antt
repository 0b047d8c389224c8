use Rattle.std.proofs.Common.{◌≡◌, ◌∙◌, sym, ap, subst, length, Ok, Err, Some, arith}
use Rattle.std.proofs.lemmas.List.{length-map}
use Rattle.std.specs.Prelude.{option_map}
use Rattle.wire_fields.specs.text_spec.Json.{array, items_of}
use Rattle.wire_fields.specs.json_tree.Tree.{json_of}
use Rattle.wire_fields.specs.fleet_rows.declared.refusal.Field.TheVariants as field
use Rattle.wire_fields.specs.wire_spec.Table.{outer, text, items, required, optional}
use Rattle.wire_fields.specs.Checks.{checked}
use Rattle.wire_fields.specs.wire_spec.Counted.{IsCounted}
use Rattle.wire_fields.proofs.of_wire_spec.CountedLaws.{optional-counted, few_items, IfCountedSome}
use Rattle.wire_report.proofs.KeptLaws.{skips, stops}
use Rattle.wire_report.proofs.resource.check_fields.Goals as goal

pub returns-in_err-check_required_text-2 : goal.returns-in_err-check_required_text-2
returns-in_err-check_required_text-2 c =
    let ms = c.args.json.now in
    let refused : c.from_residual-in_err-check_required_text-2.result ≡ Err c.in_err-check_required_text-2.field-0.0 = grind (arith, c.from_residual-in_err-check_required_text-2.ensures) in
    let rtype = c.in_ok-check_required_text.ensures ∙ ap (λ p. checked (required text p ms)) c.outer.ensures in
    let title = c.in_err-check_required_text-2.ensures ∙ ap (λ p. checked (required text p ms)) c.outer-2.ensures in
    refused ∙ sym (skips (required text (outer c.args.index field.ResourceType) ms) _ rtype ∙ stops (required text (outer c.args.index field.ResourceTitle) ms) _ title)

pub check_events-requires : goal.check_events-requires
check_events-requires c =
    let js = c.in-Some.events.now in
    let taken : optional items c.outer-3.result c.args.json.now ≡ Ok (Some js) = c.in_ok-events.ensures ∙ ap (λ list. Ok (option_map (λ xs. xs.now) list)) c.in-Some.is in
    let counted : IsCounted (array (items_of js)) = subst IfCountedSome taken (optional-counted c.outer-3.result c.args.json.now c.requires) in
    omega (arith, few_items js counted, length-map c.as_slice.result.now json_of, ap length c.as_slice.ensures.items)
