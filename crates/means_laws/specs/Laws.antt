-- Statements of the laws on the meaning of queries.
use Rattle.std.specs.Prelude.{◌≡◌, ◌<◌, ◌≤◌, ◌^◌, ℕ, ℤ, unsigned_abs, List, [], Bool, None, IsTrue}
use Rattle.std.specs.List.{AllByRecursion}
use Rattle.table_laws.specs.text_spec.Number.{IsNumber, IsScaled}
use Rattle.table_laws.specs.fleet_rows.declared.row.Entity.{Entity}
use Rattle.table_laws.specs.fleet_rows.declared.settings.Ttls.{Ttls}
use Rattle.table_laws.specs.history_spec.Trace.{Trace, IsTrace}
use Rattle.paging_text.specs.query_spec.declared.parts.Paging.{Paging}
use Rattle.paging_text.specs.query_spec.Answer.{entity_name, is_queryable}
use Rattle.paging_text.specs.query_spec.Parts.{name, unpaged}
use Rattle.paging_text.specs.query_spec.Query.{Level, level, no_clause}
use Rattle.table_laws.specs.table_spec.Columns.{columns}
use Rattle.table_laws.specs.table_spec.Rows.{Cells, rows, active_rows}
use Rattle.table_laws.specs.table_spec.RowsText.{rows_text}
use Rattle.paging_text.specs.means_spec.Groups.{scaled_text}
use Rattle.paging_text.specs.means_spec.World.{World, world_of}
use Rattle.paging_text.specs.means_spec.OutRows.{OutRows, means, page, lines_text}
use Rattle.paging_text.specs.Shown.{IsPrintableRow}
use Rattle.means_laws.specs.Bare.{bare}

-- queries that differ only in their places have the same answer
abbrev pub PlacesSayNothing : Type 0
PlacesSayNothing = (w : World) (q : Level) → means w (bare q) ≡ means w q

-- the query of an entity without a filter
abbrev pub whole : Entity → Level
whole e = level (name (entity_name e) []) None no_clause [] unpaged

-- for each entity that a query may name, the query without a filter selects the rows of active nodes, with all columns
abbrev pub ActiveRowsAreSelected : Type 0
ActiveRowsAreSelected =
    (e : Entity) (ttls : Ttls) (history : Trace) (matches : List ℕ → List ℕ → Bool) → IsTrue (is_queryable e)
    → means (world_of ttls history matches) (whole e) ≡ record { names = columns e; rows = active_rows e ttls history }

-- an answer with all columns of an entity is printed as the entity's table is
abbrev pub RowsArePrintedAsOfTables : Type 0
RowsArePrintedAsOfTables =
    (e : Entity) (rows : List Cells) → lines_text (record { names = columns e; rows = rows }) ≡ rows_text e rows

-- the text of a sum is a number with the sum's value
abbrev pub SumsPrintTheirValue : Type 0
SumsPrintTheirValue = (m : ℤ) → unsigned_abs m < 10 ^ 37 → IsScaled (scaled_text m) m

-- the text of any sum in 128 bits is a number
abbrev pub SumsPrintNumbers : Type 0
SumsPrintNumbers = (m : ℤ) → unsigned_abs m ≤ 2 ^ 127 → IsNumber (scaled_text m)

-- each moment in the tables of a history has a stamp, or is up to 3,650 days after one that has
abbrev pub TablesCanBePrinted : Type 0
TablesCanBePrinted =
    (e : Entity) (ttls : Ttls) (history : Trace) → IsTrace history → AllByRecursion IsPrintableRow (rows e ttls history)

-- the same holds for each moment in the rows that a query selects
abbrev pub RowsCanBePrinted : Type 0
RowsCanBePrinted =
    (ttls : Ttls) (history : Trace) (matches : List ℕ → List ℕ → Bool) → IsTrace history
    → (q : Level) → AllByRecursion IsPrintableRow (means (world_of ttls history matches) q).rows

-- the same holds for the rows that a paging leaves
abbrev pub PagesCanBePrinted : Type 0
PagesCanBePrinted = (p : Paging) (r : OutRows) → AllByRecursion IsPrintableRow r.rows → AllByRecursion IsPrintableRow (page p r).rows
