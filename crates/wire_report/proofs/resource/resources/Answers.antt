use Rattle.std.proofs.Common.{◌≡◌, ◌∙◌, sym, ap, Ok, Some}
use Rattle.wire_fields.specs.wire_spec.Table.{report_resource, each_from}
use Rattle.wire_fields.specs.Checks.{checked}
use Rattle.wire_report.specs.InOrder.{list_of}
use Rattle.wire_report.proofs.KeptLaws.{kept_ok}
use Rattle.wire_report.proofs.OrderLaws.{keeps_resource}
use Rattle.wire_report.proofs.resource.resources.Goals as goal

pub returns-in_ok-check_resources-in-Some : goal.returns-in_ok-check_resources-in-Some
returns-in_ok-check_resources-in-Some c =
    let js = c.in-Some.items in
    let taken : c.args.taken ≡ Ok (Some js) = c.in_ok-items.was ∙ ap Ok c.in-Some.is in
    let passed = c.in_ok-check_resources-in-Some.ensures ∙ ap (λ xs. checked (each_from 0 report_resource xs)) c.as_slice.ensures.items in
    sym (ap (list_of report_resource) taken ∙ kept_ok report_resource keeps_resource js passed)
