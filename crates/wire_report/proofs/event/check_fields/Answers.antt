use Rattle.std.proofs.Common.{◌≡◌, ◌∙◌, sym, ap, Err, arith}
use Rattle.wire_fields.specs.fleet_rows.declared.refusal.Field.TheVariants as field
use Rattle.wire_fields.specs.wire_spec.Table.{inner, text, stamp, required, optional}
use Rattle.wire_fields.specs.Checks.{checked}
use Rattle.wire_report.proofs.KeptLaws.{skips, stops}
use Rattle.wire_report.proofs.event.check_fields.Goals as goal

pub returns-in_err-check_optional_stamp : goal.returns-in_err-check_optional_stamp
returns-in_err-check_optional_stamp c =
    let ms = c.args.json.now in
    let refused : c.from_residual-in_err-check_optional_stamp.result ≡ Err c.in_err-check_optional_stamp.field-0.0 = grind (arith, c.from_residual-in_err-check_optional_stamp.ensures) in
    let status = c.in_ok-check_required_text.ensures ∙ ap (λ p. checked (required text p ms)) c.inner.ensures in
    let timestamp = c.in_err-check_optional_stamp.ensures ∙ ap (λ p. checked (optional stamp p ms)) c.inner-2.ensures in
    refused ∙ sym (skips (required text (inner c.args.index c.args.within field.Status) ms) _ status ∙ stops (optional stamp (inner c.args.index c.args.within field.Timestamp) ms) _ timestamp)
