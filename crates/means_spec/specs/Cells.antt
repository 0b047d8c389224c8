-- The values that a filter tests in a row, and how cells are compared.
use Rattle.std.specs.Prelude.{ℕ, ℤ, List, [], ◌∷◌, Bool, true, false, not, ◌&&◌, if◌then◌else◌, Option, Some, None, unwrap_or, codes}
use Rattle.std.specs.declared.cmp.Ordering.{Ordering}
use Rattle.std.specs.List.{find, list_any}
use Rattle.std.specs.Option.{option_map, option_map_or}
use Rattle.std.specs.Ordering.{int_cmp, int_eq, is_some_and, is_lt, is_gt, is_eq}
use Rattle.std.specs.Str.{bytes_eq}
use Rattle.std.proofs.Common.{inl, inr}
use Rattle.table_spec.specs.text_spec.Json.{Json, null, boolean, number, string, array, object, items_list, members_list, find_member}
use Rattle.table_spec.specs.text_spec.Number.{compare}
use Rattle.table_spec.specs.text_spec.Order.{same}
use Rattle.table_spec.specs.text_spec.StampReader.{stamp_of}
use Rattle.table_spec.specs.fleet_rows.Cell.{CellValue, plain}
use Rattle.table_spec.specs.fleet_rows.declared.row.Entity.{Entity}
use Rattle.table_spec.specs.fleet_rows.declared.row.Entity.TheVariants as entity
use Rattle.query_spec.specs.declared.parts.Field.{Field}
use Rattle.query_spec.specs.declared.parts.Field.TheVariants as field
use Rattle.query_spec.specs.declared.parts.Op.{Op}
use Rattle.query_spec.specs.declared.parts.Op.TheVariants.{Equal, Less, AtMost, More, AtLeast}
use Rattle.query_spec.specs.declared.parts.Scalar.{Scalar}
use Rattle.query_spec.specs.declared.parts.Scalar.TheVariants as scalar
use Rattle.table_spec.specs.Columns.{columns}
pub use Rattle.table_spec.specs.Named.{cell_under, text_equals}
use Rattle.table_spec.specs.Named.{cell_equals}
use Rattle.table_spec.specs.Rows.{Cells}
use Rattle.means_spec.specs.World.{World}

-- ---- cells by the names of their columns

-- the columns of the entity, if there is one
abbrev pub names_in : Option Entity → List (List ℕ)
names_in None = []
names_in (Some e) = columns e

abbrev pub cell_in : Option Entity → List ℕ → Cells → CellValue
cell_in e s row = cell_under (names_in e) s row

abbrev pub text_in : CellValue → Option (List ℕ)
text_in (inr (string s)) = Some s
text_in _ = None

-- the certname of the row's node
abbrev pub node_in : Option Entity → Cells → List ℕ
node_in e row = unwrap_or (text_in (cell_in e (codes "certname") row)) []

abbrev pub is_null_cell : CellValue → Bool
is_null_cell (inr null) = true
is_null_cell _ = false

-- ---- what a field names

-- the value of a resource's parameter, or null
abbrev pub member_in : List ℕ → CellValue → CellValue
member_in s (inr (object ms)) = plain (unwrap_or (find_member s (members_list ms)) null)
member_in s _ = plain null

abbrev pub has_text : List ℕ → CellValue → Bool
has_text s x = option_map_or (bytes_eq s) (text_in x) false

-- whether the row of facts has this node and this name
abbrev pub is_fact : List ℕ → List ℕ → Cells → Bool
is_fact node s row = has_text node (cell_in (Some entity.Facts) (codes "certname") row) && has_text s (cell_in (Some entity.Facts) (codes "name") row)

-- the value of a node's fact, or null
abbrev pub fact_of : World → List ℕ → List ℕ → CellValue
fact_of w node s =
    unwrap_or (option_map (cell_in (Some entity.Facts) (codes "value")) (find (is_fact node s) (w.rows entity.Facts))) (plain null)

-- the cell that a field names; `tag` and `node_state` name none
abbrev pub field_cell : World → Option Entity → Field → Cells → CellValue
field_cell w e (field.Column n) row = cell_in e n.text row
field_cell w e (field.Parameter n) row = member_in n.text (cell_in e (codes "parameters") row)
field_cell w e (field.Fact n) row = fact_of w (node_in e row) n.text
field_cell w e (field.Tag p) row = plain null
field_cell w e (field.NodeState p) row = plain null

-- ---- comparison with a literal; each comparison with a null cell is false

abbrev pub scalar_value : Scalar → Json
scalar_value (scalar.Text s) = string s
scalar_value (scalar.Num s) = number s
scalar_value (scalar.Bool b) = boolean b

-- the moment of which the text is a stamp
abbrev pub moment_of : Scalar → Option ℤ
moment_of (scalar.Text s) = stamp_of s
moment_of _ = None

-- the same value or the same moment. For a text this is `text_equals`
abbrev pub equals : CellValue → Scalar → Bool
equals x l = cell_equals (scalar_value l) (moment_of l) x

-- numbers are ordered as numbers, moments as moments; nothing else is ordered
abbrev pub order_of : CellValue → Scalar → Option Ordering
order_of (inl m) l = option_map (int_cmp m) (moment_of l)
order_of (inr (number s)) (scalar.Num t) = compare s t
order_of _ _ = None

abbrev pub meets : Op → Ordering → Bool
meets Equal o = is_eq o
meets Less o = is_lt o
meets AtMost o = not (is_gt o)
meets More o = is_gt o
meets AtLeast o = not (is_lt o)

abbrev pub compares : Op → CellValue → Scalar → Bool
compares Equal x l = equals x l
compares o x l = is_some_and (meets o) (order_of x l)

-- some tag is this text
abbrev pub has_tag : Scalar → CellValue → Bool
has_tag (scalar.Text s) (inr (array js)) = list_any (same (string s)) (items_list js)
has_tag _ _ = false

-- `active` and `inactive` hold for rows of such nodes, and `any` for each row
abbrev pub has_state : Bool → Scalar → Bool
has_state inactive (scalar.Text s) = if bytes_eq s (codes "active") then not inactive else (if bytes_eq s (codes "inactive") then inactive else true)
has_state inactive _ = false

-- whether the comparison of a field holds
abbrev pub field_compares : World → Option Entity → Op → Field → Scalar → Cells → Bool
field_compares w e o (field.Tag p) l row = has_tag l (cell_in e (codes "tags") row)
field_compares w e o (field.NodeState p) l row = has_state (w.is_inactive (node_in e row)) l
field_compares w e o f l row = compares o (field_cell w e f row) l

-- ---- comparison of cells

-- the same value or the same moment
abbrev pub same_cell : CellValue → CellValue → Bool
same_cell (inl m) (inl n) = int_eq m n
same_cell (inr i) (inr j) = same i j
same_cell _ _ = false

abbrev pub same_cells : Cells → Cells → Bool
same_cells [] [] = true
same_cells (x ∷ xs) (y ∷ ys) = same_cell x y && same_cells xs ys
same_cells _ _ = false

-- a tuple with a null cell equals no tuple
abbrev pub equal_cells : Cells → Cells → Bool
equal_cells xs ys = not (list_any is_null_cell xs) && same_cells xs ys
