-- The rows that begin groups, found by their marks.
use Rattle.std.specs.Prelude.{◌≡◌, ℕ, List, [], ◌∷◌, ◌++◌, if◌then◌else◌, map}
use Rattle.std.specs.declared.cmp.Ordering.{Ordering}
use Rattle.std.specs.List.{list_any}
use Rattle.query_plan.specs.means_spec.Groups.{Group, cells_cmp, in_one_group, first_rows, group_of}
use Rattle.query_plan.specs.table_spec.Rows.{Cells}
use Rattle.query_rows.specs.Marked.{row_marked, rows_marked, IsMark, HaveMarks, AreParted}
use Rattle.query_rows.specs.declared.marks.Marked.{Marked}
use Rattle.query_rows.specs.declared.parts.Part.{Part}

-- groups are compared by the cells that they are grouped by
abbrev pub by_key : (Cells → Cells) → Group → Group → Ordering
by_key key x y = cells_cmp (key x.first) (key y.first)

-- the rows that begin a group, and the same rows sorted into parts by their marks
abbrev pub AreBegun : (Cells → ℕ) → List Marked → List Part → Type 0
AreBegun b begun parts = HaveMarks b begun × AreParted b parts (rows_marked begun)

module _ (key : Cells → Cells) where
  -- the row, if no group that began contains it
  abbrev pub begun_by : List Cells → Cells → List Cells
  begun_by begun r = if list_any (in_one_group key r) begun then [] else r ∷ []

  -- the row is added if it begins a group
  abbrev pub Begins : Marked → List Marked → List Part → List Marked → List Part → Type 0
  Begins m begun parts new_begun new_parts =
      (b : Cells → ℕ) → IsMark key b → m.mark ≡ b (row_marked m) → AreBegun b begun parts
      → (rows_marked new_begun ≡ rows_marked begun ++ begun_by (rows_marked begun) (row_marked m)) × AreBegun b new_begun new_parts

  -- these are the rows that begin the groups
  abbrev pub AreFirst : List Marked → List Marked → Type 0
  AreFirst rows firsts =
      (b : Cells → ℕ) → IsMark key b → HaveMarks b rows → (rows_marked firsts ≡ first_rows key [] (rows_marked rows)) × HaveMarks b firsts

  -- these are the groups of these first rows, if the parts contain all rows
  abbrev pub AreGroupsOf : List Part → List Marked → List Group → Type 0
  AreGroupsOf parts firsts groups =
      (b : Cells → ℕ) (rows : List Cells) → IsMark key b → HaveMarks b firsts → AreParted b parts rows → groups ≡ map (group_of key rows) (rows_marked firsts)
