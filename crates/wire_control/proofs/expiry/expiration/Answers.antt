use Rattle.std.proofs.Common.{◌∙◌, [], ◌∷◌, refl}
use Rattle.wire_fields.specs.fleet_rows.declared.refusal.Field.TheVariants as field
use Rattle.wire_fields.specs.wire_spec.Refusals.{field_key}
use Rattle.wire_fields.specs.wire_spec.Table.{top, nonempty_text, members, stamp}
use Rattle.wire_fields.proofs.FieldLaws.{required_is, left_is}
use Rattle.wire_control.specs.InOrder.{expiration_in_order}
use Rattle.wire_control.proofs.expiry.expiration.Goals as goal

-- each field is as it stands in the whole object, though those before it have left
pub returns : goal.returns
returns c =
    let ms = c.args.json in
    let first = field_key field.Certname ∷ [] in
    let second = field_key field.ProducerTimestamp ∷ first in
    let after_first = left_is (top field.Certname) [] ms c.top.ensures refl c.required_nonempty_text-certname.ensures.others in
    let after_second = left_is (top field.ProducerTimestamp) first ms c.top-2.ensures after_first c.required_stamp-stamp.ensures.others in
    let certname = required_is nonempty_text (top field.Certname) [] ms c.top.ensures refl c.required_nonempty_text-certname.ensures.value refl in
    let moment = required_is stamp (top field.ProducerTimestamp) first ms c.top-2.ensures after_first c.required_stamp-stamp.ensures.value refl in
    let expire = required_is members (top field.Expire) second ms c.top-3.ensures after_second c.required_members-expire.ensures.value refl in
    c.in_order.ensures ∙ (λ i. expiration_in_order (certname i) (moment i) (expire i))
