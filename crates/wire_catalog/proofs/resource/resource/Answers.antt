use Rattle.std.proofs.Common.{◌∙◌, sym, ap, subst}
use Rattle.wire_fields.specs.json_tree.Tree.{json_of}
use Rattle.wire_fields.specs.text_spec.Json.{object, members_of}
use Rattle.wire_fields.specs.fleet_rows.declared.refusal.Field.TheVariants as field
use Rattle.wire_fields.specs.wire_spec.Table.{outer, members}
use Rattle.wire_fields.specs.Answers.{Gives}
use Rattle.wire_fields.specs.wire_spec.Counted.{IsCounted}
use Rattle.wire_fields.proofs.of_wire_spec.CountedLaws.{counted-members, optional-counted, IfCountedSome}
use Rattle.wire_catalog.specs.InOrder.{resource_in_order}
use Rattle.wire_catalog.proofs.OrderLaws.{resource_in_table}
use Rattle.wire_catalog.proofs.resource.resource.Goals as goal

pub in_order-requires : goal.in_order-requires
in_order-requires c =
    let counted : IsCounted (object (members_of c.in_ok-json.json)) = counted-members c.outer.result (json_of c.args.json) c.in_ok-json.json c.in_ok-json.ensures c.requires in
    subst (λ f. IfCountedSome f.tags) (sym c.fields.ensures) (optional-counted (outer c.args.index field.Tags) c.in_ok-json.json counted)

pub returns : goal.returns
returns c =
    let table = ap (resource_in_order c.args.index) c.fields.ensures ∙ resource_in_table c.args.index (json_of c.args.json) c.in_ok-json.json (c.in_ok-json.ensures ∙ ap (λ p. members p (json_of c.args.json)) c.outer.ensures) in
    subst (Gives c.in_order.result) table c.in_order.ensures
