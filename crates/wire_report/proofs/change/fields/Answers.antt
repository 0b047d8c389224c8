use Rattle.std.proofs.Common.{[], ◌∷◌, refl}
use Rattle.wire_fields.specs.fleet_rows.declared.refusal.Field.TheVariants as field
use Rattle.wire_fields.specs.wire_spec.Refusals.{field_key}
use Rattle.wire_fields.specs.wire_spec.Table.{top, bool, items, nonempty_text, stamp, text, whole_number}
use Rattle.wire_fields.proofs.FieldLaws.{optional_is, required_is, left_is}
use Rattle.wire_report.proofs.change.fields.Goals as goal

-- each field is as it stands in the whole object, though those before it have left
pub returns : goal.returns
returns c =
    let ms = c.args.json in
    let first = field_key field.Certname ∷ [] in
    let second = field_key field.Environment ∷ first in
    let third = field_key field.PuppetVersion ∷ second in
    let fourth = field_key field.ReportFormat ∷ third in
    let fifth = field_key field.ConfigurationVersion ∷ fourth in
    let sixth = field_key field.StartTime ∷ fifth in
    let seventh = field_key field.EndTime ∷ sixth in
    let eighth = field_key field.ProducerTimestamp ∷ seventh in
    let ninth = field_key field.Producer ∷ eighth in
    let tenth = field_key field.Noop ∷ ninth in
    let eleventh = field_key field.Status ∷ tenth in
    let twelfth = field_key field.TransactionUuid ∷ eleventh in
    let thirteenth = field_key field.Resources ∷ twelfth in
    let fourteenth = field_key field.Logs ∷ thirteenth in
    let after_first = left_is (top field.Certname) [] ms c.top.ensures refl c.required_nonempty_text-certname.ensures.others in
    let after_second = left_is (top field.Environment) first ms c.top-2.ensures after_first c.optional_text-environment.ensures.others in
    let after_third = left_is (top field.PuppetVersion) second ms c.top-3.ensures after_second c.optional_text-puppet_version.ensures.others in
    let after_fourth = left_is (top field.ReportFormat) third ms c.top-4.ensures after_third c.optional_whole_number-report_format.ensures.others in
    let after_fifth = left_is (top field.ConfigurationVersion) fourth ms c.top-5.ensures after_fourth c.optional_text-configuration_version.ensures.others in
    let after_sixth = left_is (top field.StartTime) fifth ms c.top-6.ensures after_fifth c.optional_stamp-start_time.ensures.others in
    let after_seventh = left_is (top field.EndTime) sixth ms c.top-7.ensures after_sixth c.optional_stamp-end_time.ensures.others in
    let after_eighth = left_is (top field.ProducerTimestamp) seventh ms c.top-8.ensures after_seventh c.required_stamp-stamp.ensures.others in
    let after_ninth = left_is (top field.Producer) eighth ms c.top-9.ensures after_eighth c.optional_text-producer.ensures.others in
    let after_tenth = left_is (top field.Noop) ninth ms c.top-10.ensures after_ninth c.optional_bool-noop.ensures.others in
    let after_eleventh = left_is (top field.Status) tenth ms c.top-11.ensures after_tenth c.optional_text-status.ensures.others in
    let after_twelfth = left_is (top field.TransactionUuid) eleventh ms c.top-12.ensures after_eleventh c.optional_text-transaction_uuid.ensures.others in
    let after_thirteenth = left_is (top field.Resources) twelfth ms c.top-13.ensures after_twelfth c.optional_items-resources.ensures.others in
    let after_fourteenth = left_is (top field.Logs) thirteenth ms c.top-14.ensures after_thirteenth c.optional_items-logs.ensures.others in
    let certname_is = required_is nonempty_text (top field.Certname) [] ms c.top.ensures refl c.required_nonempty_text-certname.ensures.value refl in
    let environment_is = optional_is text (top field.Environment) first ms c.top-2.ensures after_first c.optional_text-environment.ensures.value refl in
    let puppet_version_is = optional_is text (top field.PuppetVersion) second ms c.top-3.ensures after_second c.optional_text-puppet_version.ensures.value refl in
    let report_format_is = optional_is whole_number (top field.ReportFormat) third ms c.top-4.ensures after_third c.optional_whole_number-report_format.ensures.value refl in
    let configuration_version_is = optional_is text (top field.ConfigurationVersion) fourth ms c.top-5.ensures after_fourth c.optional_text-configuration_version.ensures.value refl in
    let start_time_is = optional_is stamp (top field.StartTime) fifth ms c.top-6.ensures after_fifth c.optional_stamp-start_time.ensures.value refl in
    let end_time_is = optional_is stamp (top field.EndTime) sixth ms c.top-7.ensures after_sixth c.optional_stamp-end_time.ensures.value refl in
    let stamp_is = required_is stamp (top field.ProducerTimestamp) seventh ms c.top-8.ensures after_seventh c.required_stamp-stamp.ensures.value refl in
    let producer_is = optional_is text (top field.Producer) eighth ms c.top-9.ensures after_eighth c.optional_text-producer.ensures.value refl in
    let noop_is = optional_is bool (top field.Noop) ninth ms c.top-10.ensures after_ninth c.optional_bool-noop.ensures.value refl in
    let status_is = optional_is text (top field.Status) tenth ms c.top-11.ensures after_tenth c.optional_text-status.ensures.value refl in
    let transaction_uuid_is = optional_is text (top field.TransactionUuid) eleventh ms c.top-12.ensures after_eleventh c.optional_text-transaction_uuid.ensures.value refl in
    let resources_is = optional_is items (top field.Resources) twelfth ms c.top-13.ensures after_twelfth c.optional_items-resources.ensures.value refl in
    let logs_is = optional_is items (top field.Logs) thirteenth ms c.top-14.ensures after_thirteenth c.optional_items-logs.ensures.value refl in
    let metrics_is = optional_is items (top field.Metrics) fourteenth ms c.top-15.ensures after_fourteenth c.optional_items-metrics.ensures.value refl in
    λ i. record { certname = certname_is i; environment = environment_is i; puppet_version = puppet_version_is i; report_format = report_format_is i; configuration_version = configuration_version_is i; start_time = start_time_is i; end_time = end_time_is i; stamp = stamp_is i; producer = producer_is i; noop = noop_is i; status = status_is i; transaction_uuid = transaction_uuid_is i; resources = resources_is i; logs = logs_is i; metrics = metrics_is i }
