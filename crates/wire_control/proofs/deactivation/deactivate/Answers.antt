use Rattle.std.proofs.Common.{◌∙◌, [], ◌∷◌, refl}
use Rattle.wire_fields.specs.fleet_rows.declared.refusal.Field.TheVariants as field
use Rattle.wire_fields.specs.wire_spec.Refusals.{field_key}
use Rattle.wire_fields.specs.wire_spec.Table.{top, nonempty_text, stamp}
use Rattle.wire_fields.proofs.FieldLaws.{required_is, left_is}
use Rattle.wire_control.specs.InOrder.{deactivate_in_order}
use Rattle.wire_control.proofs.deactivation.deactivate.Goals as goal

-- the stamp is as it stands in the whole object, though the name has left
pub returns : goal.returns
returns c =
    let ms = c.args.json in
    let after = left_is (top field.Certname) [] ms c.top.ensures refl c.required_nonempty_text-certname.ensures.others in
    let certname = required_is nonempty_text (top field.Certname) [] ms c.top.ensures refl c.required_nonempty_text-certname.ensures.value refl in
    let moment = required_is stamp (top field.ProducerTimestamp) (field_key field.Certname ∷ []) ms c.top-2.ensures after c.required_stamp-stamp.ensures.value refl in
    c.in_order.ensures ∙ (λ i. deactivate_in_order (certname i) (moment i))
