-- The fields of "store report" 8, as taken out of their objects, and combined in the order in which they are checked.
use Rattle.std.specs.Prelude.{ℕ, List, [], Option, Ok, IfOk, IfSome, unwrap_or}
use Rattle.wire_fields.specs.text_spec.Json.{Json, array, items_of}
use Rattle.wire_fields.specs.fleet_rows.declared.change.Change.{Change}
use Rattle.wire_fields.specs.fleet_rows.declared.change.Change.TheVariants as change
use Rattle.wire_fields.specs.fleet_rows.declared.change.ReportChange.{ReportChange}
use Rattle.wire_fields.specs.fleet_rows.declared.refusal.Field.TheVariants as field
use Rattle.wire_fields.specs.wire_spec.Table.{Pairs, Checked, ◌>>=◌, top, outer, inner, text, nonempty_text, bool, whole_number, stamp, items, required, optional, each_from, event, report_resource, object_in}
use Rattle.wire_fields.specs.wire_spec.Counted.{IsCounted}
use Rattle.wire_report.specs.declared.change.ReportFields.{ReportFields}

-- ---- lists that are kept as received

-- a list with each element checked; an absent list is empty
abbrev pub list_of : (ℕ → Json → Checked Json) → Checked (Option (List Json)) → Checked (List Json)
list_of check taken = taken >>= (λ list. each_from 0 check (unwrap_or list []))

-- 32-bit indices reach each element of the list, if there is one, and of each list in it
abbrev pub IfCounted : Checked (Option (List Json)) → Type 0
IfCounted taken = IfOk taken (λ list. IfSome list (λ js. IsCounted (array (items_of js))))

abbrev pub event_fields : ℕ → ℕ → Pairs → Checked (Unit {0})
event_fields i k ms = do
  status ← required text (inner i k field.Status) ms
  timestamp ← optional stamp (inner i k field.Timestamp) ms
  property ← optional text (inner i k field.Property) ms
  message ← optional text (inner i k field.Message) ms
  Ok tt

abbrev pub resource_fields : ℕ → Pairs → Checked (Unit {0})
resource_fields i ms = do
  rtype ← required text (outer i field.ResourceType) ms
  title ← required text (outer i field.ResourceTitle) ms
  events ← list_of (event i) (optional items (outer i field.Events) ms)
  Ok tt

-- ---- a report

abbrev pub fields_of : Pairs → ReportFields
fields_of ms = record {
  certname = required nonempty_text (top field.Certname) ms;
  environment = optional text (top field.Environment) ms;
  puppet_version = optional text (top field.PuppetVersion) ms;
  report_format = optional whole_number (top field.ReportFormat) ms;
  configuration_version = optional text (top field.ConfigurationVersion) ms;
  start_time = optional stamp (top field.StartTime) ms;
  end_time = optional stamp (top field.EndTime) ms;
  stamp = required stamp (top field.ProducerTimestamp) ms;
  producer = optional text (top field.Producer) ms;
  noop = optional bool (top field.Noop) ms;
  status = optional text (top field.Status) ms;
  transaction_uuid = optional text (top field.TransactionUuid) ms;
  resources = optional items (top field.Resources) ms;
  logs = optional items (top field.Logs) ms;
  metrics = optional items (top field.Metrics) ms;
}

abbrev pub report_in_order : ReportFields → Checked ReportChange
report_in_order f = do
  certname ← f.certname
  environment ← f.environment
  puppet_version ← f.puppet_version
  report_format ← f.report_format
  configuration_version ← f.configuration_version
  start_time ← f.start_time
  end_time ← f.end_time
  moment ← f.stamp
  producer ← f.producer
  noop ← f.noop
  status ← f.status
  transaction_uuid ← f.transaction_uuid
  resources ← list_of report_resource f.resources
  logs ← list_of (object_in field.Logs) f.logs
  metrics ← list_of (object_in field.Metrics) f.metrics
  Ok (record {
    certname = certname;
    environment = environment;
    puppet_version = puppet_version;
    report_format = report_format;
    configuration_version = configuration_version;
    start_time = start_time;
    end_time = end_time;
    stamp = moment;
    producer = producer;
    noop = noop;
    status = status;
    transaction_uuid = transaction_uuid;
    resources = resources;
    logs = logs;
    metrics = metrics;
  })

abbrev pub change_in_order : ReportFields → Checked Change
change_in_order f = report_in_order f >>= (λ c. Ok (change.Report c))
