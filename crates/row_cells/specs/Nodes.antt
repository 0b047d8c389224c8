-- The newest commands of a node, from which its row is made.
use Rattle.std.specs.Prelude.{◌≡◌, ℕ, ℤ, List, [], ◌∷◌, Option, Some, None, option_map}
use Rattle.std.specs.Borrow.{Bor}
use Rattle.table_spec.specs.fleet_rows.declared.catalog.CatalogChange.{CatalogChange}
use Rattle.table_spec.specs.fleet_rows.declared.change.Change.{Change}
use Rattle.table_spec.specs.fleet_rows.declared.change.Change.TheVariants.{Facts, Catalog, Report}
use Rattle.table_spec.specs.fleet_rows.declared.change.FactsChange.{FactsChange}
use Rattle.table_spec.specs.text_spec.Json.{null}
use Rattle.table_spec.specs.fleet_rows.Cell.{CellValue, stamp, plain}
use Rattle.table_spec.specs.history_spec.Report.{text_or_null, bool_or_null, report_object}
use Rattle.table_spec.specs.Cells.{hash, moment_or_null, text_cell}
use Rattle.table_spec.specs.Rows.{Cells, environment_cell, timestamp_cell}
use Rattle.row_cells.specs.declared.node.ReportHead.{ReportHead}

-- the borrowed facts, as a change
abbrev pub facts_of : Option (Bor FactsChange) → Option Change
facts_of o = option_map (λ b. Facts b.now) o

abbrev pub catalog_of : Option (Bor CatalogChange) → Option Change
catalog_of o = option_map (λ b. Catalog b.now) o

-- ---- the head of a report

-- the head is that of this report; no head stands for no report
abbrev pub IsHeadOf : Option ReportHead → Option Change → Type 0
IsHeadOf None None = Unit {0}
IsHeadOf (Some head) (Some (Report r)) =
    (head.digest.now ≡ hash (report_object r)) × (head.noop ≡ r.noop) × (head.status.now ≡ r.status) × (head.environment.now ≡ r.environment) × (head.stamp ≡ r.stamp)
IsHeadOf _ _ = ⊥

-- its cells in the row of a node
abbrev pub head_cells : Option ReportHead → List CellValue
head_cells None = plain null ∷ plain null ∷ plain null ∷ plain null ∷ plain null ∷ []
head_cells (Some head) =
    text_cell head.digest.now ∷ plain (bool_or_null head.noop) ∷ plain (text_or_null head.status.now) ∷ plain (text_or_null head.environment.now) ∷ stamp head.stamp ∷ []

-- the row of a node with this head of a report
abbrev pub cells_with_head : List ℕ → Option ℤ → Option ℤ → Option Change → Option Change → Option ReportHead → Cells
cells_with_head node deactivated expired facts catalog report =
    environment_cell catalog
    ∷ timestamp_cell catalog
    ∷ text_cell node
    ∷ moment_or_null deactivated
    ∷ moment_or_null expired
    ∷ environment_cell facts
    ∷ timestamp_cell facts
    ∷ head_cells report
