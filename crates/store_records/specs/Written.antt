-- The groups of fields of catalogs and reports that are written together.
use Rattle.std.specs.Prelude.{ℕ, List, ◌++◌}
use Rattle.wire_catalog.specs.fleet_rows.declared.catalog.CatalogChange.{CatalogChange}
use Rattle.wire_catalog.specs.fleet_rows.declared.change.ReportChange.{ReportChange}
use Rattle.record_fields.specs.record_spec.Parts.{bytes_text, bool_text, optional, long_text, moment_text}

abbrev pub catalog_head : CatalogChange → List ℕ
catalog_head c = bytes_text c.certname ++ (bytes_text c.version ++ optional bytes_text c.environment)

abbrev pub catalog_marks : CatalogChange → List ℕ
catalog_marks c = optional bytes_text c.transaction_uuid ++ (optional bytes_text c.catalog_uuid ++ (optional bytes_text c.code_id ++ optional bytes_text c.job_id))

abbrev pub report_head : ReportChange → List ℕ
report_head r =
    bytes_text r.certname
    ++ (optional bytes_text r.environment ++ (optional bytes_text r.puppet_version ++ (optional long_text r.report_format ++ optional bytes_text r.configuration_version)))

abbrev pub report_times : ReportChange → List ℕ
report_times r = optional moment_text r.start_time ++ (optional moment_text r.end_time ++ moment_text r.stamp)

abbrev pub report_run : ReportChange → List ℕ
report_run r = optional bytes_text r.producer ++ (optional bool_text r.noop ++ (optional bytes_text r.status ++ optional bytes_text r.transaction_uuid))
