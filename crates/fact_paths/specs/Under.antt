-- The rows of the leaves of one fact, as the walk over its value appends them.
use Rattle.std.specs.Prelude.{List, ◌++◌, map}
use Rattle.fleet_rows.specs.Cell.{cell_of}
use Rattle.fleet_rows.specs.declared.row.Row.{Row}
use Rattle.fleet_rows.specs.text_spec.Json.{Json}
use Rattle.fact_paths.specs.declared.walk.Fact.{Fact}
use Rattle.fact_paths.specs.Leaves.{Step, Leaf}
use Rattle.fact_paths.specs.Rows.{content_cells, content_row}

-- the row of the leaf with this path and value
abbrev pub row_at : Fact → List Step → Json → Row
row_at fact path value = content_row (content_cells (cell_of fact.certname.now) (cell_of fact.environment.now) fact.name.now (path, value))

-- the rows of leaves of a value to which a path leads
abbrev pub rows_under : Fact → List Step → List Leaf → List Row
rows_under fact path = map (λ (l : Leaf). row_at fact (path ++ l.0) l.1)
