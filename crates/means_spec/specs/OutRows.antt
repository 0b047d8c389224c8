-- Rows with the names of their columns, and their printed text.
use Rattle.std.specs.Prelude.{ℕ, List, map, zip}
use Rattle.table_spec.specs.text_spec.Json.{Json, object, array, items_of, members_of}
use Rattle.table_spec.specs.text_spec.Compact.{compact}
use Rattle.query_spec.specs.declared.parts.Paging.{Paging}
use Rattle.query_spec.specs.Check.{entity_named}
use Rattle.query_spec.specs.Query.{Level, level}
use Rattle.table_spec.specs.Rows.{Cells}
use Rattle.table_spec.specs.RowsText.{cell_json}
use Rattle.means_spec.specs.World.{World}
use Rattle.means_spec.specs.Shown.{output_names}
use Rattle.means_spec.specs.Paging.{paged}
use Rattle.means_spec.specs.Means.{selected}

pub record OutRows : Type 0 where
  pub names : List (List ℕ)
  pub rows : List Cells

-- the names of the columns, in the order in which they are shown
abbrev pub names_of : Level → List (List ℕ)
names_of (level n s k g p) = output_names (entity_named n.text) s

-- the answer to a query
abbrev pub means : World → Level → OutRows
means w q = record { names = names_of q; rows = selected w q }

-- the rows after a paging that follows the query's own
abbrev pub page : Paging → OutRows → OutRows
page p r = record { names = r.names; rows = paged r.names p r.rows }

-- a list of objects in compact text; a moment is a stamp with three fraction digits
abbrev pub line_object : List (List ℕ) → Cells → Json
line_object names row = object (members_of (zip names (map cell_json row)))

abbrev pub lines_text : OutRows → List ℕ
lines_text r = compact (array (items_of (map (line_object r.names) r.rows)))
