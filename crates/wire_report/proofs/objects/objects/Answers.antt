use Rattle.std.proofs.Common.{◌≡◌, ◌∙◌, sym, ap, subst, length, Ok, Some, arith}
use Rattle.std.proofs.lemmas.List.{length-map}
use Rattle.wire_fields.specs.text_spec.Json.{array, items_of}
use Rattle.wire_fields.specs.json_tree.Tree.{json_of}
use Rattle.wire_fields.specs.wire_spec.Table.{object_in, each_from}
use Rattle.wire_fields.specs.Checks.{checked}
use Rattle.wire_fields.specs.wire_spec.Counted.{IsCounted}
use Rattle.wire_fields.proofs.of_wire_spec.CountedLaws.{few_items}
use Rattle.wire_report.specs.InOrder.{list_of, IfCounted}
use Rattle.wire_report.proofs.KeptLaws.{kept_ok}
use Rattle.wire_report.proofs.OrderLaws.{keeps_object}
use Rattle.wire_report.proofs.objects.objects.Goals as goal

pub check_objects-requires : goal.check_objects-requires
check_objects-requires c =
    let js = c.in-Some.items in
    let taken : c.args.taken ≡ Ok (Some js) = c.in_ok-items.was ∙ ap Ok c.in-Some.is in
    let counted : IsCounted (array (items_of js)) = subst IfCounted taken c.requires in
    omega (arith, few_items js counted, length-map c.as_slice.result.now json_of, ap length c.as_slice.ensures.items)

pub returns-in_ok-check_objects-in-Some : goal.returns-in_ok-check_objects-in-Some
returns-in_ok-check_objects-in-Some c =
    let js = c.in-Some.items in
    let check = object_in c.args.field in
    let taken : c.args.taken ≡ Ok (Some js) = c.in_ok-items.was ∙ ap Ok c.in-Some.is in
    let passed = c.in_ok-check_objects-in-Some.ensures ∙ ap (λ xs. checked (each_from 0 check xs)) c.as_slice.ensures.items in
    sym (ap (list_of check) taken ∙ kept_ok check (keeps_object c.args.field) js passed)
