-- The payloads of facts, reports, deactivations and expirations are taken as the changes that they were made of.
use Rattle.std.proofs.Common.{◌≡◌, ◌∙◌, [], refl, ap, Ok, unwrap_or}
use Rattle.dump_spec.specs.fleet_rows.declared.change.DeactivateChange.{DeactivateChange}
use Rattle.dump_spec.specs.fleet_rows.declared.change.ExpirationChange.{ExpirationChange}
use Rattle.dump_spec.specs.fleet_rows.declared.change.FactsChange.{FactsChange}
use Rattle.dump_spec.specs.fleet_rows.declared.change.ReportChange.{ReportChange}
use Rattle.dump_spec.specs.fleet_rows.declared.refusal.Field.TheVariants as field
use Rattle.dump_spec.specs.history_spec.Lawful.{IsFactsChange, IsReportChange, IsDeactivateChange, IsExpirationChange}
use Rattle.dump_spec.specs.wire_spec.Table as table
use Rattle.dump_spec.specs.wire_spec.Table.{◌>>=◌, top, each_from, report_resource, object_in}
use Rattle.dump_spec.specs.Payloads.{there, facts_fields, report_fields, deactivate_fields, expiration_fields}
use Rattle.dump_laws.proofs.FoundFields.{required_is, optional_is}
use Rattle.dump_laws.proofs.TakenValues.{nonempty, text_if, bool_if, stamp_is, stamp_if, members_is, whole_if, if_some, some_is, items_if}

pub facts_are : (c : FactsChange) → IsFactsChange c → table.facts_change (there (facts_fields c)) ≡ Ok c
facts_are c h =
    let fs = facts_fields c in
    let certname = required_is fs refl table.nonempty_text (top field.Certname) ∙ nonempty (top field.Certname) c.certname h.certname.0 in
    let environment = optional_is fs refl table.text (top field.Environment) ∙ text_if (top field.Environment) c.environment in
    let values = required_is fs refl table.members (top field.Values) ∙ members_is (top field.Values) c.values in
    let moment = required_is fs refl table.stamp (top field.ProducerTimestamp) ∙ stamp_is (top field.ProducerTimestamp) c.stamp h.stamp in
    let producer = optional_is fs refl table.text (top field.Producer) ∙ text_if (top field.Producer) c.producer in
    λ i. certname i >>= (λ a. environment i >>= (λ b. values i >>= (λ d. moment i >>= (λ e. producer i >>= (λ f.
    Ok (record { certname = a; environment = b; values = d; stamp = e; producer = f }))))))

pub deactivation_is : (c : DeactivateChange) → IsDeactivateChange c → table.deactivate_change (there (deactivate_fields c)) ≡ Ok c
deactivation_is c h =
    let fs = deactivate_fields c in
    let certname = required_is fs refl table.nonempty_text (top field.Certname) ∙ nonempty (top field.Certname) c.certname h.certname.0 in
    let moment = required_is fs refl table.stamp (top field.ProducerTimestamp) ∙ stamp_is (top field.ProducerTimestamp) c.stamp h.stamp in
    λ i. certname i >>= (λ a. moment i >>= (λ b. Ok (record { certname = a; stamp = b })))

pub expiration_is : (c : ExpirationChange) → IsExpirationChange c → table.expiration_change (there (expiration_fields c)) ≡ Ok c
expiration_is c h =
    let fs = expiration_fields c in
    let certname = required_is fs refl table.nonempty_text (top field.Certname) ∙ nonempty (top field.Certname) c.certname h.certname.0 in
    let moment = required_is fs refl table.stamp (top field.ProducerTimestamp) ∙ stamp_is (top field.ProducerTimestamp) c.stamp h.stamp in
    let expire = required_is fs refl table.members (top field.Expire) in
    λ i. certname i >>= (λ a. moment i >>= (λ b. expire i >>= (λ d. table.required table.bool (top field.ExpireFacts) d >>= (λ e.
    Ok (record { certname = a; stamp = b; expire = e })))))

pub report_is : (r : ReportChange) → IsReportChange r → table.report_change (there (report_fields r)) ≡ Ok r
report_is r h =
    let fs = report_fields r in
    let certname = required_is fs refl table.nonempty_text (top field.Certname) ∙ nonempty (top field.Certname) r.certname h.certname.0 in
    let environment = optional_is fs refl table.text (top field.Environment) ∙ text_if (top field.Environment) r.environment in
    let puppet_version = optional_is fs refl table.text (top field.PuppetVersion) ∙ text_if (top field.PuppetVersion) r.puppet_version in
    let report_format = optional_is fs refl table.whole_number (top field.ReportFormat) ∙ whole_if (top field.ReportFormat) r.report_format h.report_format in
    let configuration_version = optional_is fs refl table.text (top field.ConfigurationVersion) ∙ text_if (top field.ConfigurationVersion) r.configuration_version in
    let start_time = optional_is fs refl table.stamp (top field.StartTime) ∙ stamp_if (top field.StartTime) r.start_time h.start_time in
    let end_time = optional_is fs refl table.stamp (top field.EndTime) ∙ stamp_if (top field.EndTime) r.end_time h.end_time in
    let moment = required_is fs refl table.stamp (top field.ProducerTimestamp) ∙ stamp_is (top field.ProducerTimestamp) r.stamp h.stamp in
    let producer = optional_is fs refl table.text (top field.Producer) ∙ text_if (top field.Producer) r.producer in
    let noop = optional_is fs refl table.bool (top field.Noop) ∙ bool_if (top field.Noop) r.noop in
    let status = optional_is fs refl table.text (top field.Status) ∙ text_if (top field.Status) r.status in
    let transaction_uuid = optional_is fs refl table.text (top field.TransactionUuid) ∙ text_if (top field.TransactionUuid) r.transaction_uuid in
    let resource_list = optional_is fs refl table.items (top field.Resources) ∙ items_if (top field.Resources) r.resources in
    let resources = ap (each_from 0 report_resource) (some_is r.resources) ∙ h.are_resources in
    let log_list = optional_is fs refl table.items (top field.Logs) ∙ items_if (top field.Logs) r.logs in
    let logs = ap (each_from 0 (object_in field.Logs)) (some_is r.logs) ∙ h.are_logs in
    let metric_list = optional_is fs refl table.items (top field.Metrics) ∙ items_if (top field.Metrics) r.metrics in
    let metrics = ap (each_from 0 (object_in field.Metrics)) (some_is r.metrics) ∙ h.are_metrics in
    (λ i. certname i >>= (λ a. environment i >>= (λ b. puppet_version i >>= (λ c. report_format i >>= (λ d. configuration_version i >>= (λ e.
    start_time i >>= (λ f. end_time i >>= (λ g. moment i >>= (λ k. producer i >>= (λ l. noop i >>= (λ m. status i >>= (λ n. transaction_uuid i >>= (λ o.
    resource_list i >>= (λ p. each_from 0 report_resource (unwrap_or p []) >>= (λ q.
    log_list i >>= (λ s. each_from 0 (object_in field.Logs) (unwrap_or s []) >>= (λ t.
    metric_list i >>= (λ u. each_from 0 (object_in field.Metrics) (unwrap_or u []) >>= (λ v.
    Ok (record {
      certname = a;
      environment = b;
      puppet_version = c;
      report_format = d;
      configuration_version = e;
      start_time = f;
      end_time = g;
      stamp = k;
      producer = l;
      noop = m;
      status = n;
      transaction_uuid = o;
      resources = q;
      logs = t;
      metrics = v;
    }))))))))))))))))))))
    ∙ (λ i. resources i >>= (λ q. each_from 0 (object_in field.Logs) (unwrap_or (if_some r.logs) []) >>= (λ t. each_from 0 (object_in field.Metrics) (unwrap_or (if_some r.metrics) []) >>= (λ v.
    Ok (record r { resources = q; logs = t; metrics = v })))))
    ∙ (λ i. logs i >>= (λ t. metrics i >>= (λ v. Ok (record r { logs = t; metrics = v }))))
