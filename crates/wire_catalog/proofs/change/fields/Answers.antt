use Rattle.std.proofs.Common.{[], ◌∷◌, refl}
use Rattle.wire_fields.specs.fleet_rows.declared.refusal.Field.TheVariants as field
use Rattle.wire_fields.specs.wire_spec.Refusals.{field_key}
use Rattle.wire_fields.specs.wire_spec.Table.{top, items, nonempty_text, stamp, text}
use Rattle.wire_fields.proofs.FieldLaws.{optional_is, required_is, left_is}
use Rattle.wire_catalog.proofs.change.fields.Goals as goal

-- each field is as it stands in the whole object, though those before it have left
pub returns : goal.returns
returns c =
    let ms = c.args.json in
    let first = field_key field.Certname ∷ [] in
    let second = field_key field.Version ∷ first in
    let third = field_key field.Environment ∷ second in
    let fourth = field_key field.TransactionUuid ∷ third in
    let fifth = field_key field.CatalogUuid ∷ fourth in
    let sixth = field_key field.CodeId ∷ fifth in
    let seventh = field_key field.JobId ∷ sixth in
    let eighth = field_key field.ProducerTimestamp ∷ seventh in
    let ninth = field_key field.Producer ∷ eighth in
    let tenth = field_key field.Edges ∷ ninth in
    let after_first = left_is (top field.Certname) [] ms c.top.ensures refl c.required_nonempty_text-certname.ensures.others in
    let after_second = left_is (top field.Version) first ms c.top-2.ensures after_first c.required_text-version.ensures.others in
    let after_third = left_is (top field.Environment) second ms c.top-3.ensures after_second c.optional_text-environment.ensures.others in
    let after_fourth = left_is (top field.TransactionUuid) third ms c.top-4.ensures after_third c.optional_text-transaction_uuid.ensures.others in
    let after_fifth = left_is (top field.CatalogUuid) fourth ms c.top-5.ensures after_fourth c.optional_text-catalog_uuid.ensures.others in
    let after_sixth = left_is (top field.CodeId) fifth ms c.top-6.ensures after_fifth c.optional_text-code_id.ensures.others in
    let after_seventh = left_is (top field.JobId) sixth ms c.top-7.ensures after_sixth c.optional_text-job_id.ensures.others in
    let after_eighth = left_is (top field.ProducerTimestamp) seventh ms c.top-8.ensures after_seventh c.required_stamp-stamp.ensures.others in
    let after_ninth = left_is (top field.Producer) eighth ms c.top-9.ensures after_eighth c.optional_text-producer.ensures.others in
    let after_tenth = left_is (top field.Edges) ninth ms c.top-10.ensures after_ninth c.required_items-edges.ensures.others in
    let certname_is = required_is nonempty_text (top field.Certname) [] ms c.top.ensures refl c.required_nonempty_text-certname.ensures.value refl in
    let version_is = required_is text (top field.Version) first ms c.top-2.ensures after_first c.required_text-version.ensures.value refl in
    let environment_is = optional_is text (top field.Environment) second ms c.top-3.ensures after_second c.optional_text-environment.ensures.value refl in
    let transaction_uuid_is = optional_is text (top field.TransactionUuid) third ms c.top-4.ensures after_third c.optional_text-transaction_uuid.ensures.value refl in
    let catalog_uuid_is = optional_is text (top field.CatalogUuid) fourth ms c.top-5.ensures after_fourth c.optional_text-catalog_uuid.ensures.value refl in
    let code_id_is = optional_is text (top field.CodeId) fifth ms c.top-6.ensures after_fifth c.optional_text-code_id.ensures.value refl in
    let job_id_is = optional_is text (top field.JobId) sixth ms c.top-7.ensures after_sixth c.optional_text-job_id.ensures.value refl in
    let stamp_is = required_is stamp (top field.ProducerTimestamp) seventh ms c.top-8.ensures after_seventh c.required_stamp-stamp.ensures.value refl in
    let producer_is = optional_is text (top field.Producer) eighth ms c.top-9.ensures after_eighth c.optional_text-producer.ensures.value refl in
    let edges_is = required_is items (top field.Edges) ninth ms c.top-10.ensures after_ninth c.required_items-edges.ensures.value refl in
    let resources_is = required_is items (top field.Resources) tenth ms c.top-11.ensures after_tenth c.required_items-resources.ensures.value refl in
    λ i. record { certname = certname_is i; version = version_is i; environment = environment_is i; transaction_uuid = transaction_uuid_is i; catalog_uuid = catalog_uuid_is i; code_id = code_id_is i; job_id = job_id_is i; stamp = stamp_is i; producer = producer_is i; edges = edges_is i; resources = resources_is i }
