use Rattle.std.proofs.Common.{◌∙◌, sym, ap, subst}
use Rattle.wire_fields.specs.fleet_rows.declared.refusal.Field.TheVariants as field
use Rattle.wire_fields.specs.wire_spec.Table.{top}
use Rattle.wire_fields.proofs.of_wire_spec.CountedLaws.{optional-counted}
use Rattle.wire_report.specs.InOrder.{change_in_order, IfCounted}
use Rattle.wire_report.proofs.OrderLaws.{report_in_table}
use Rattle.wire_report.proofs.change.report.Goals as goal

pub in_order-requires : goal.in_order-requires
in_order-requires c = record {
  resources = subst (λ f. IfCounted f.resources) (sym c.fields.ensures) (optional-counted (top field.Resources) c.args.json c.requires);
  logs = subst (λ f. IfCounted f.logs) (sym c.fields.ensures) (optional-counted (top field.Logs) c.args.json c.requires);
  metrics = subst (λ f. IfCounted f.metrics) (sym c.fields.ensures) (optional-counted (top field.Metrics) c.args.json c.requires);
}

pub returns-in-Ok-clause-value : goal.returns-in-Ok-clause-value
returns-in-Ok-clause-value c = sym (ap change_in_order c.fields.ensures ∙ report_in_table c.args.json) ∙ sym c.in-Ok.ensures

pub returns-in-Err-clause-value : goal.returns-in-Err-clause-value
returns-in-Err-clause-value c = sym (ap change_in_order c.fields.ensures ∙ report_in_table c.args.json) ∙ sym c.in-Err.ensures
