use Rattle.std.proofs.Common.{◌∙◌, [], ◌∷◌, refl}
use Rattle.wire_fields.specs.fleet_rows.declared.refusal.Field.TheVariants as field
use Rattle.wire_fields.specs.wire_spec.Refusals.{field_key}
use Rattle.wire_fields.specs.wire_spec.Table.{top, text, nonempty_text, members, stamp}
use Rattle.wire_fields.proofs.FieldLaws.{required_is, optional_is, left_is}
use Rattle.wire_facts.specs.InOrder.{facts_in_order}
use Rattle.wire_facts.proofs.facts_change.facts.Goals as goal

-- each field is as it stands in the whole object, though those before it have left
pub returns : goal.returns
returns c =
    let ms = c.args.json in
    let first = field_key field.Certname ∷ [] in
    let second = field_key field.Environment ∷ first in
    let third = field_key field.Values ∷ second in
    let fourth = field_key field.ProducerTimestamp ∷ third in
    let after_first = left_is (top field.Certname) [] ms c.top.ensures refl c.required_nonempty_text-certname.ensures.others in
    let after_second = left_is (top field.Environment) first ms c.top-2.ensures after_first c.optional_text-environment.ensures.others in
    let after_third = left_is (top field.Values) second ms c.top-3.ensures after_second c.required_members-values.ensures.others in
    let after_fourth = left_is (top field.ProducerTimestamp) third ms c.top-4.ensures after_third c.required_stamp-stamp.ensures.others in
    let certname = required_is nonempty_text (top field.Certname) [] ms c.top.ensures refl c.required_nonempty_text-certname.ensures.value refl in
    let environment = optional_is text (top field.Environment) first ms c.top-2.ensures after_first c.optional_text-environment.ensures.value refl in
    let values = required_is members (top field.Values) second ms c.top-3.ensures after_second c.required_members-values.ensures.value refl in
    let moment = required_is stamp (top field.ProducerTimestamp) third ms c.top-4.ensures after_third c.required_stamp-stamp.ensures.value refl in
    let producer = optional_is text (top field.Producer) fourth ms c.top-5.ensures after_fourth c.optional_text-producer.ensures.value refl in
    c.in_order.ensures ∙ (λ i. facts_in_order (certname i) (environment i) (values i) (moment i) (producer i))
