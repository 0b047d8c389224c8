-- The cells of a row, however it is held.
use Rattle.std.specs.Prelude.{◌≡◌, List, [], ◌∷◌, Some, slice_get}
use Rattle.same_text.specs.json_tree.Tree.{json_of}
use Rattle.same_text.specs.text_spec.Json.{null, boolean}
use Rattle.fleet_tables.specs.fleet_rows.Cell.{CellValue, cells_of, plain, stamp}
use Rattle.kept_nodes.specs.Kept.{IsReport}
use Rattle.kept_nodes.specs.declared.kept.Report.{Report as KeptReport}
use Rattle.paging_text.specs.means_spec.table_spec.history_spec.Report.{bool_or_null}
use Rattle.paging_text.specs.means_spec.table_spec.Cells.{fact_cells, hash, moment_or_null, report_cells, resource_cells, resource_object, text_cell, text_cell_or_null}
use Rattle.row_views.specs.declared.row.Kept.{Kept}
use Rattle.row_views.specs.declared.row.Kept.TheVariants as kept
use Rattle.row_views.specs.declared.view.FactRow.{FactRow}
use Rattle.row_views.specs.declared.view.ResourceRow.{ResourceRow}
use Rattle.row_views.specs.declared.view.Held.{Held}
use Rattle.row_views.specs.declared.view.Held.TheVariants.{Fact, Resource, Report, Lent, Made}

abbrev pub fact_values : FactRow → List CellValue
fact_values f = fact_cells (record { certname = f.certname.now; environment = f.environment.now; name = f.name.now; value = json_of f.value.now })

-- what is seen of a resource by reference
abbrev pub resource_values : ResourceRow → List CellValue
resource_values r =
    text_cell r.change.now.certname
    ∷ text_cell_or_null r.change.now.environment
    ∷ plain (boolean r.resource.now.exported)
    ∷ text_cell_or_null r.resource.now.file
    ∷ plain null
    ∷ plain null
    ∷ plain null
    ∷ plain null
    ∷ text_cell r.resource.now.title
    ∷ text_cell r.resource.now.rtype
    ∷ []

-- what is seen of a report by reference
abbrev pub report_values : KeptReport → List CellValue
report_values r =
    text_cell r.change.certname
    ∷ text_cell_or_null r.change.configuration_version
    ∷ moment_or_null r.change.end_time
    ∷ text_cell_or_null r.change.environment
    ∷ plain null
    ∷ plain null
    ∷ plain null
    ∷ plain (bool_or_null r.change.noop)
    ∷ text_cell_or_null r.change.producer
    ∷ stamp r.change.stamp
    ∷ text_cell_or_null r.change.puppet_version
    ∷ moment_or_null r.received
    ∷ plain null
    ∷ plain null
    ∷ moment_or_null r.change.start_time
    ∷ text_cell_or_null r.change.status
    ∷ text_cell_or_null r.change.transaction_uuid
    ∷ []

abbrev pub held_cells : Held → List CellValue
held_cells (Fact f) = fact_values f
held_cells (Resource r) = resource_values r
held_cells (Report r) = report_values r.now
held_cells (Lent cells) = cells_of cells.now
held_cells (Made cells) = cells

-- ---- whole rows

abbrev pub kept_cells : Kept → List CellValue
kept_cells (kept.Fact f) = fact_values f
kept_cells (kept.Resource r) = resource_cells r.row.change.now r.row.resource.now
kept_cells (kept.Report r) = report_cells r.now.received r.now.change
kept_cells (kept.Made cells) = cells

-- what is needed to make the row: the hash of a resource, or a report that is kept right
abbrev pub IsKept : Kept → Type 0
IsKept (kept.Fact f) = Unit {0}
IsKept (kept.Resource r) = slice_get r.hashes.now r.at ≡ Some (hash (resource_object r.row.resource.now))
IsKept (kept.Report r) = IsReport r.now
IsKept (kept.Made cells) = Unit {0}
