-- What the hash of a factset, a report and a resource is made from.
use Rattle.std.proofs.Common.{◌≡◌, ℤ, [], ◌∷◌, refl, ap, Option, Some, None, codes}
use Rattle.table_machine.specs.text_spec.Json.{Json, string, array, object, items_of, members_of}
use Rattle.table_machine.specs.fleet_rows.Printed.{full_text}
use Rattle.table_machine.specs.fleet_rows.declared.change.ReportChange.{ReportChange}
use Rattle.table_machine.specs.fleet_rows.declared.row.Entity.TheVariants as entity
use Rattle.table_machine.specs.history_spec.Report.{text_or_null, bool_or_null, number_or_null, stamp_or_null, report_object}
use Rattle.table_machine.specs.table_spec.Cells.{moment_or_null, hash, report_cells}
use Rattle.table_laws.specs.Named.{value_of_cell, value_under, object_without}
use Rattle.table_laws.specs.HashLaws.{FactsetsAreHashed, ReportsAreHashed, ResourcesAreHashed}
use Rattle.table_laws.proofs.EachRow.{factset_rows_have, resource_rows_have, report_rows_have}

pub factsets_are_hashed : FactsetsAreHashed
factsets_are_hashed ttls history row h =
    factset_rows_have (λ r. value_under entity.Factsets (codes "hash") r ≡ string (hash (object_without (codes "hash" ∷ []) entity.Factsets r))) ttls history row (λ c. refl) h

-- a moment's cell has the value by which the moment stands in a report's text
moment_value : (o : Option ℤ) → stamp_or_null o ≡ value_of_cell (moment_or_null o)
moment_value None = refl
moment_value (Some m) = refl

-- the columns of a report but for its hash and the moment at which it was received, with these values for its end and its start
abbrev report_with : ReportChange → Json → Json → Json
report_with r end start = object (members_of (
    (codes "certname", string r.certname)
    ∷ (codes "configuration_version", text_or_null r.configuration_version)
    ∷ (codes "end_time", end)
    ∷ (codes "environment", text_or_null r.environment)
    ∷ (codes "logs", array (items_of r.logs))
    ∷ (codes "metrics", array (items_of r.metrics))
    ∷ (codes "noop", bool_or_null r.noop)
    ∷ (codes "producer", text_or_null r.producer)
    ∷ (codes "producer_timestamp", string (full_text r.stamp))
    ∷ (codes "puppet_version", text_or_null r.puppet_version)
    ∷ (codes "report_format", number_or_null r.report_format)
    ∷ (codes "resources", array (items_of r.resources))
    ∷ (codes "start_time", start)
    ∷ (codes "status", text_or_null r.status)
    ∷ (codes "transaction_uuid", text_or_null r.transaction_uuid)
    ∷ []))

pub report_object_is : (received : Option ℤ) (r : ReportChange) → report_object r ≡ object_without (codes "hash" ∷ codes "receive_time" ∷ []) entity.Reports (report_cells received r)
report_object_is received r = λ i. report_with r (moment_value r.end_time i) (moment_value r.start_time i)

pub reports_are_hashed : ReportsAreHashed
reports_are_hashed ttls history row h =
    report_rows_have (λ r. value_under entity.Reports (codes "hash") r ≡ string (hash (object_without (codes "hash" ∷ codes "receive_time" ∷ []) entity.Reports r))) ttls history row
    (λ received c. ap (λ j. string (hash j)) (report_object_is received c)) h

pub resources_are_hashed : ResourcesAreHashed
resources_are_hashed ttls history row h =
    resource_rows_have (λ r. value_under entity.Resources (codes "resource") r ≡ string (hash (object_without (codes "certname" ∷ codes "environment" ∷ codes "resource" ∷ []) entity.Resources r))) ttls history row (λ c r. refl) h
