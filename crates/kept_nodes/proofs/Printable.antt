-- The moments of a change that meets its rules can be printed.
use Rattle.checkpoint_spec.specs.stamp_time.Range.{IsPrintable}
use Rattle.checkpoint_spec.specs.history_spec.Lawful.{IsChange}
use Rattle.checkpoint_spec.specs.fleet_rows.declared.catalog.CatalogChange.{CatalogChange}
use Rattle.checkpoint_spec.specs.fleet_rows.declared.change.Change.TheVariants as change
use Rattle.checkpoint_spec.specs.fleet_rows.declared.change.FactsChange.{FactsChange}
use Rattle.checkpoint_spec.specs.fleet_rows.declared.change.ReportChange.{ReportChange}
use Rattle.row_cells.proofs.PrintableLaws as laws
use Rattle.row_cells.specs.Texts.{HasPrintableMoments}

pub facts_moment : (c : FactsChange) → IsChange (change.Facts c) → IsPrintable c.stamp
facts_moment c h = laws.facts_printable c h

pub catalog_moment : (c : CatalogChange) → IsChange (change.Catalog c) → IsPrintable c.stamp
catalog_moment c h = laws.catalog_printable c h

pub report_moments : (r : ReportChange) → IsChange (change.Report r) → HasPrintableMoments r
report_moments r h = laws.report_printable r h
