use Rattle.std.proofs.Common.{◌∙◌, sym, ap, subst}
use Rattle.wire_fields.specs.fleet_rows.declared.refusal.Field.TheVariants as field
use Rattle.wire_fields.specs.wire_spec.Table.{top}
use Rattle.wire_fields.specs.Answers.{Gives}
use Rattle.wire_fields.proofs.of_wire_spec.CountedLaws.{required-counted, IfCounted}
use Rattle.wire_catalog.specs.InOrder.{change_in_order}
use Rattle.wire_catalog.proofs.OrderLaws.{catalog_in_table}
use Rattle.wire_catalog.proofs.change.catalog.Goals as goal

pub in_order-requires : goal.in_order-requires
in_order-requires c = record {
  edges = subst (λ f. IfCounted f.edges) (sym c.fields.ensures) (required-counted (top field.Edges) c.args.json c.requires);
  resources = subst (λ f. IfCounted f.resources) (sym c.fields.ensures) (required-counted (top field.Resources) c.args.json c.requires);
}

pub returns : goal.returns
returns c = subst (Gives c.in_order.result) (ap change_in_order c.fields.ensures ∙ catalog_in_table c.args.json) c.in_order.ensures
