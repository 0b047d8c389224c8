-- Statements on the printed text of rows.
use Rattle.std.specs.Prelude.{◌≡◌, ℕ, ℤ, List, map}
use Rattle.table_machine.specs.text_spec.Json.{string, array, items_of}
use Rattle.table_machine.specs.text_spec.JsonText.{SpellsWithin}
use Rattle.table_machine.specs.text_spec.Stamp.{IsPrintedStamp}
use Rattle.table_machine.specs.fleet_rows.Cell.{stamp}
use Rattle.table_machine.specs.fleet_rows.declared.row.Entity.{Entity}
use Rattle.table_machine.specs.fleet_rows.declared.row.Entity.TheVariants.{Factsets, Reports, Inventory}
use Rattle.table_machine.specs.fleet_rows.declared.settings.Ttls.{Ttls}
use Rattle.table_machine.specs.history_spec.Trace.{Trace, IsTrace}
use Rattle.table_machine.specs.table_spec.Rows.{Cells, rows, active_rows}
use Rattle.table_machine.specs.table_spec.RowsText.{cell_json, row_object, rows_text}

-- a moment is printed as its stamp with three fraction digits
abbrev pub MomentsArePrinted : Type 0
MomentsArePrinted = (m : ℤ) (text : List ℕ) → IsPrintedStamp 3 text m → cell_json (stamp m) ≡ string text

-- the deepest nesting of an entity's printed rows. A fact's value and a resource's parameters are as deep in their row as in
-- their payload. The facts of a factset or an inventory and the lists of a report are one level deeper: 128, one more than is
-- read of a payload
abbrev pub printed_levels : Entity → ℕ
printed_levels Factsets = 128
printed_levels Reports = 128
printed_levels Inventory = 128
printed_levels _ = 127

-- the printed rows are a JSON text (RFC 8259) that spells the list of their objects
abbrev pub SpellsTheRows : Entity → List Cells → Type 0
SpellsTheRows entity rows = SpellsWithin (printed_levels entity) (rows_text entity rows) (array (items_of (map (row_object entity) rows)))

-- this holds for the rows of each entity, and for the rows of its active nodes
abbrev pub PrintedRowsAreJson : Type 0
PrintedRowsAreJson =
    (entity : Entity) (ttls : Ttls) (history : Trace) → IsTrace history
    → SpellsTheRows entity (rows entity ttls history) × SpellsTheRows entity (active_rows entity ttls history)
