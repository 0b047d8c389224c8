-- The order of rows, the first row to return and the number of rows.
use Rattle.std.specs.Prelude.{ℕ, List, [], ◌∷◌, if◌then◌else◌, Option, Some, None, take, drop}
use Rattle.std.specs.declared.cmp.Ordering.{Ordering}
use Rattle.std.specs.declared.cmp.Ordering.TheVariants as ordering
use Rattle.std.specs.Ordering.{ordering_then, ordering_reverse}
use Rattle.table_spec.specs.fleet_rows.Cell.{cell_cmp}
use Rattle.query_spec.specs.declared.parts.Order.{Order}
use Rattle.query_spec.specs.declared.parts.Paging.{Paging}
use Rattle.table_spec.specs.Rows.{Cells}
use Rattle.table_spec.specs.Sorted.{sorted_by}
use Rattle.means_spec.specs.Cells.{cell_under}

-- two rows compared by one order, in columns of these names
abbrev pub order_cmp : List (List ℕ) → Order → Cells → Cells → Ordering
order_cmp names o a b =
    let found = cell_cmp (cell_under names o.column.text a) (cell_under names o.column.text b) in
    if o.descends then ordering_reverse found else found

-- two rows compared by these orders, the most significant first
abbrev pub orders_cmp : List (List ℕ) → List Order → Cells → Cells → Ordering
orders_cmp names [] a b = ordering.Equal
orders_cmp names (o ∷ os) a b = ordering_then (order_cmp names o a b) (orders_cmp names os a b)

abbrev pub from_offset : Option ℕ → List Cells → List Cells
from_offset None rows = rows
from_offset (Some n) rows = drop n rows

abbrev pub to_limit : Option ℕ → List Cells → List Cells
to_limit None rows = rows
to_limit (Some n) rows = take n rows

-- sorts the rows, then drops those before the offset, then those after the limit. Equal rows keep their order
abbrev pub paged : List (List ℕ) → Paging → List Cells → List Cells
paged names p rows = to_limit p.limit (from_offset p.offset (sorted_by (orders_cmp names p.order) rows))
