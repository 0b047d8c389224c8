-- Statements on the rows to which a dump leads.
use Rattle.std.specs.Prelude.{◌≡◌, ℕ, ℤ, List, [], ◌∷◌, if◌then◌else◌, map, codes}
use Rattle.std.specs.Str.{bytes_eq}
use Rattle.dump_spec.specs.fleet_rows.declared.row.Entity.{Entity}
use Rattle.dump_spec.specs.fleet_rows.declared.settings.Ttls.{Ttls}
use Rattle.dump_spec.specs.history_spec.Lawful.{HasStamp}
use Rattle.dump_spec.specs.history_spec.Trace.{Trace, IsTrace}
use Rattle.dump_spec.specs.table_machine.Table.{table_of}
use Rattle.dump_spec.specs.table_spec.Columns.{columns}
use Rattle.dump_spec.specs.table_spec.Rows.{Cells, rows}
use Rattle.dump_spec.specs.Dumps.{dump_items}
use Rattle.dump_laws.specs.Again.{dump_history}

-- the cells without the one in the column of this name
abbrev pub without_column : List ℕ → List (List ℕ) → Cells → Cells
without_column name [] cells = cells
without_column name (n ∷ names) [] = []
without_column name (n ∷ names) (cell ∷ cells) = if bytes_eq name n then cells else cell ∷ without_column name names cells

-- a row without the moment at which a report was received
abbrev pub untold : Entity → Cells → Cells
untold entity row = without_column (codes "receive_time") (columns entity) row

-- the history of a dump is a trace
abbrev pub DumpsAreTraces : Type 0
DumpsAreTraces =
    (ttls : Ttls) (history : Trace) (received : ℤ) → IsTrace history → HasStamp received → IsTrace (dump_history received (table_of ttls history))

-- its rows are those of the history of which the table was dumped, but for the moments of receipt
abbrev pub TheRowsComeBack : Type 0
TheRowsComeBack =
    (entity : Entity) (ttls : Ttls) (history : Trace) (received : ℤ) → IsTrace history → HasStamp received
    → map (untold entity) (rows entity ttls (dump_history received (table_of ttls history))) ≡ map (untold entity) (rows entity ttls history)

-- and a dump of its table is the same dump
abbrev pub DumpsComeBack : Type 0
DumpsComeBack =
    (ttls : Ttls) (history : Trace) (received moment : ℤ) → IsTrace history
    → dump_items moment (table_of ttls (dump_history received (table_of ttls history))) ≡ dump_items moment (table_of ttls history)
