-- Statements on the order of rows.
use Rattle.std.specs.Prelude.{ℕ, ℤ, pos, List, [], ◌∷◌, codes}
use Rattle.std.proofs.Common.{inl, inr}
use Rattle.std.specs.List.Sorted.{IsStrictlySortedBy}
use Rattle.std.specs.declared.cmp.Ordering.{Ordering}
use Rattle.std.specs.declared.cmp.Ordering.TheVariants.{Equal}
use Rattle.std.specs.Ordering.{int_cmp, ordering_then}
use Rattle.table_machine.specs.text_spec.Json.{Json, string}
use Rattle.table_machine.specs.text_spec.Compact.{text_cmp, canonical}
use Rattle.table_machine.specs.fleet_rows.Cell.{CellValue, cell_cmp}
use Rattle.table_machine.specs.fleet_rows.declared.row.Entity.{Entity}
use Rattle.table_machine.specs.fleet_rows.declared.row.Entity.TheVariants.{Nodes, Factsets, Facts, Catalogs, Resources, Edges, Reports, FactContents, Inventory, Events, EventCounts}
use Rattle.table_machine.specs.fleet_rows.declared.settings.Ttls.{Ttls}
use Rattle.table_machine.specs.history_spec.Trace.{Trace, IsTrace}
use Rattle.table_machine.specs.table_spec.Rows.{Cells, rows}
use Rattle.table_laws.specs.Named.{cell_under, value_under, object_without}

-- the text of a JSON string; empty for any other value
abbrev pub text_of_value : Json → List ℕ
text_of_value (string s) = s
text_of_value _ = []

abbrev pub text_under : Entity → List ℕ → Cells → List ℕ
text_under entity name row = text_of_value (value_under entity name row)

-- the moment in a cell; the epoch if there is none
abbrev pub moment_of_cell : CellValue → ℤ
moment_of_cell (inl m) = m
moment_of_cell (inr j) = pos 0

abbrev pub moment_under : Entity → List ℕ → Cells → ℤ
moment_under entity name row = moment_of_cell (cell_under entity name row)

-- rows are compared by the texts in these columns, one column after the other
abbrev pub by_texts : Entity → List (List ℕ) → Cells → Cells → Ordering
by_texts entity [] r q = Equal
by_texts entity (name ∷ names) r q = ordering_then (text_cmp (text_under entity name r) (text_under entity name q)) (by_texts entity names r q)

-- reports are compared by producer timestamp, then by the canonical text that is hashed
abbrev pub within_node : Cells → Cells → Ordering
within_node r q =
    ordering_then (int_cmp (moment_under Reports (codes "producer_timestamp") r) (moment_under Reports (codes "producer_timestamp") q))
    (text_cmp (canonical (object_without (codes "hash" ∷ codes "receive_time" ∷ []) Reports r))
    (canonical (object_without (codes "hash" ∷ codes "receive_time" ∷ []) Reports q)))

-- rows are compared by the value of the path, which is a list
abbrev pub by_path : Cells → Cells → Ordering
by_path r q = cell_cmp (cell_under FactContents (codes "path") r) (cell_under FactContents (codes "path") q)

-- rows are compared by their entity's key. The key of an event also has its position in the report, which no column shows
abbrev pub row_cmp : Entity → Cells → Cells → Ordering
row_cmp Nodes r q = by_texts Nodes (codes "certname" ∷ []) r q
row_cmp Factsets r q = by_texts Factsets (codes "certname" ∷ []) r q
row_cmp Facts r q = by_texts Facts (codes "certname" ∷ codes "name" ∷ []) r q
row_cmp Catalogs r q = by_texts Catalogs (codes "certname" ∷ []) r q
row_cmp Resources r q = by_texts Resources (codes "certname" ∷ codes "type" ∷ codes "title" ∷ []) r q
row_cmp Edges r q =
    by_texts Edges
    (codes "certname" ∷ codes "source_type" ∷ codes "source_title" ∷ codes "target_type" ∷ codes "target_title" ∷ codes "relationship" ∷ []) r q
row_cmp Reports r q = ordering_then (by_texts Reports (codes "certname" ∷ []) r q) (within_node r q)
row_cmp FactContents r q = ordering_then (by_texts FactContents (codes "certname" ∷ []) r q) (by_path r q)
row_cmp Inventory r q = by_texts Inventory (codes "certname" ∷ []) r q
row_cmp Events r q = by_texts Events (codes "certname" ∷ []) r q
row_cmp EventCounts r q = by_texts EventCounts (codes "certname" ∷ []) r q

-- each row is below the rows after it, so no two rows have the same key
abbrev pub RowsAreStrictlySorted : Type 0
RowsAreStrictlySorted =
    (entity : Entity) (ttls : Ttls) (history : Trace) → IsTrace history → IsStrictlySortedBy (row_cmp entity) (rows entity ttls history)
