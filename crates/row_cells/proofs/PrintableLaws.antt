-- What the calls ask of moments holds of each change that meets its rules.
use Rattle.std.proofs.Common.{ℤ, Option, Some, None}
use Rattle.table_spec.specs.stamp_time.Range.{IsPrintable}
use Rattle.table_spec.proofs.of_stamp_time.RangeLaws.{stamp_in_range, stamp_is_printable}
use Rattle.table_spec.specs.history_spec.Lawful.{HasStamp, IfMoment, IsChange}
use Rattle.table_spec.specs.fleet_rows.declared.catalog.CatalogChange.{CatalogChange}
use Rattle.table_spec.specs.fleet_rows.declared.change.Change.TheVariants.{Facts, Catalog, Report}
use Rattle.table_spec.specs.fleet_rows.declared.change.FactsChange.{FactsChange}
use Rattle.table_spec.specs.fleet_rows.declared.change.ReportChange.{ReportChange}
use Rattle.row_cells.specs.Texts.{IfPrintable, HasPrintableMoments}

printable : (m : ℤ) → HasStamp m → IsPrintable m
printable m h = stamp_is_printable m (stamp_in_range h.0 m h.1)

if_printable : (o : Option ℤ) → IfMoment o → IfPrintable o
if_printable None h = tt
if_printable (Some m) h = printable m h

pub facts_printable : (c : FactsChange) → IsChange (Facts c) → IsPrintable c.stamp
facts_printable c h = printable c.stamp h.stamp

pub catalog_printable : (c : CatalogChange) → IsChange (Catalog c) → IsPrintable c.stamp
catalog_printable c h = printable c.stamp h.stamp

pub report_printable : (r : ReportChange) → IsChange (Report r) → HasPrintableMoments r
report_printable r h = (printable r.stamp h.stamp, if_printable r.start_time h.start_time, if_printable r.end_time h.end_time)
