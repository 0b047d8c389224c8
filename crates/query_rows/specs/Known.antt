-- The rows of a level and of facts, with the keys by which they are looked up.
use Rattle.std.specs.Prelude.{List, Some, length}
use Rattle.fleet_tables.specs.fleet_rows.declared.row.Entity.TheVariants.{Facts}
use Rattle.query_plan.specs.means_spec.Cells.{node_in}
use Rattle.query_plan.specs.table_spec.Rows.{Cells}
use Rattle.query_rows.specs.Indexed.{IsIndexOf, IsRising}
use Rattle.query_rows.specs.Marked.{key_text}
use Rattle.query_rows.specs.declared.index.Index.{Index}
use Rattle.query_rows.specs.declared.known.Lookup.{Lookup}
use Rattle.query_rows.specs.declared.known.Lookup.TheVariants.{Nowhere, ByCells, ByNode}

-- the index, if there is one, contains all rows
abbrev pub IsLookupIn : List Cells → Lookup → Type 0
IsLookupIn rows Nowhere = Unit {0}
IsLookupIn rows (ByCells x) = IsIndexOf key_text rows x
IsLookupIn rows (ByNode e x) = IsIndexOf (node_in e) rows x

-- each row of facts is stored under its node, and the indices under a node are increasing
pub record AreByNode (rows : List Cells) (x : Index) : Type 0 where
  pub there : IsIndexOf (node_in (Some Facts)) rows x
  pub rising : IsRising x (length rows)
