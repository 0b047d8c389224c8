-- The moments in the rows of a query can be printed where those of the tables can.
use Rattle.std.proofs.Common.{ℕ, zero, suc, ℤ, List, [], ◌∷◌, ◌++◌, map, take, drop, length, sym, subst, refl, Bool, true, false, not, Option, Some, None, inl, inr, if◌then◌else◌}
use Rattle.std.specs.List.{AllByRecursion, filter, list_any}
use Rattle.std.specs.Str.{bytes_eq}
use Rattle.std.specs.Ordering.{is_lt, is_gt}
use Rattle.table_laws.proofs.of_plain_laws.Members.{Among, All-Among, All-from_Among, Among-from_filter, Among-from_map}
use Rattle.table_laws.specs.fleet_rows.Cell.{CellValue, cell_cmp}
use Rattle.table_laws.specs.fleet_rows.declared.row.Entity.{Entity}
use Rattle.paging_text.specs.query_spec.declared.parts.Function.{Function}
use Rattle.paging_text.specs.query_spec.declared.parts.Function.TheVariants.{Count, Sum, Min, Max}
use Rattle.paging_text.specs.query_spec.declared.parts.Name.{Name}
use Rattle.paging_text.specs.query_spec.declared.parts.Paging.{Paging}
use Rattle.paging_text.specs.query_spec.declared.parts.Selected.{Selected}
use Rattle.paging_text.specs.query_spec.declared.parts.Selected.TheVariants as selected
use Rattle.paging_text.specs.query_spec.Check.{entity_named, makes_groups, shown_list}
use Rattle.paging_text.specs.query_spec.Query.{Level, level}
use Rattle.table_laws.specs.table_spec.Rows.{Cells, rows}
use Rattle.table_laws.specs.table_spec.Sorted.{sorted_by}
use Rattle.table_laws.proofs.SortedLists.{among-from_sorted_by}
use Rattle.paging_text.specs.means_spec.World.{World, world_of, rows_in}
use Rattle.paging_text.specs.means_spec.Cells.{names_in, cell_under, cell_in, is_null_cell}
use Rattle.paging_text.specs.means_spec.Shown.{distinct, output_names, column_cell, shown_cells}
use Rattle.paging_text.specs.means_spec.Paging.{orders_cmp, from_offset, to_limit, paged}
use Rattle.paging_text.specs.means_spec.Groups.{Group, key_of, cells_cmp, in_one_group, first_rows, group_of, grouped, groups, told, scaled_numbers, sum_of, least, greatest, least_of, greatest_of, function_of, group_cell, group_rows}
use Rattle.paging_text.specs.means_spec.Means as means
use Rattle.paging_text.specs.means_spec.Means.{answered}
use Rattle.paging_text.specs.Shown.{IsPrintableCell, IsPrintableRow}
use Rattle.means_laws.specs.Laws.{RowsCanBePrinted, PagesCanBePrinted}
use Rattle.means_laws.proofs.PrintableTables.{tables_can_be_printed}

abbrev AllPrintable : List Cells → Type 0
AllPrintable rows = (row : Cells) → Among row rows → IsPrintableRow row

-- ---- one cell of a row, or of two

either : (b : Bool) (x y : CellValue) → IsPrintableCell x → IsPrintableCell y → IsPrintableCell (if b then x else y)
either true x y h k = h
either false x y h k = k

under : (names : List (List ℕ)) (s : List ℕ) (row : Cells) → IsPrintableRow row → IsPrintableCell (cell_under names s row)
under [] s row h = tt
under (n ∷ ns) s [] h = tt
under (n ∷ ns) s (x ∷ xs) h = either (bytes_eq s n) x (cell_under ns s xs) h.0 (under ns s xs h.1)

-- ---- fewer rows, in another order

among_take : (n : ℕ) (rows : List Cells) (row : Cells) → Among row (take n rows) → Among row rows
among_take zero rows row a = absurd a
among_take (suc n) [] row a = absurd a
among_take (suc n) (r ∷ rs) row (inl same) = inl same
among_take (suc n) (r ∷ rs) row (inr a) = inr (among_take n rs row a)

among_drop : (n : ℕ) (rows : List Cells) (row : Cells) → Among row (drop n rows) → Among row rows
among_drop zero rows row a = a
among_drop (suc n) [] row a = absurd a
among_drop (suc n) (r ∷ rs) row a = inr (among_drop n rs row a)

among_limit : (limit : Option ℕ) (rows : List Cells) (row : Cells) → Among row (to_limit limit rows) → Among row rows
among_limit None rows row a = a
among_limit (Some n) rows row a = among_take n rows row a

among_offset : (offset : Option ℕ) (rows : List Cells) (row : Cells) → Among row (from_offset offset rows) → Among row rows
among_offset None rows row a = a
among_offset (Some n) rows row a = among_drop n rows row a

among_paged : (names : List (List ℕ)) (p : Paging) (rows : List Cells) (row : Cells) → Among row (paged names p rows) → Among row rows
among_paged names p rows row a =
    let sorted = sorted_by (orders_cmp names p.order) rows in
    among-from_sorted_by (orders_cmp names p.order) row rows (among_offset p.offset sorted row (among_limit p.limit (from_offset p.offset sorted) row a))

-- ---- what is shown of a row

column_printable : (e : Option Entity) (row : Cells) → IsPrintableRow row → (s : Selected) → IsPrintableCell (column_cell e row s)
column_printable e row h (selected.Column n) = under (names_in e) n.text row h
column_printable e row h selected.Rows = tt
column_printable e row h (selected.Function f n) = tt

each_cell : (f : Selected → CellValue) → ((s : Selected) → IsPrintableCell (f s)) → (ss : List Selected) → IsPrintableRow (map f ss)
each_cell f each [] = tt
each_cell f each (s ∷ ss) = (each s, each_cell f each ss)

shown_printable : (e : Option Entity) (ss : Option (List Selected)) (row : Cells) → IsPrintableRow row → IsPrintableRow (shown_cells e ss row)
shown_printable e None row h = h
shown_printable e (Some ss) row h = each_cell (column_cell e row) (column_printable e row h) (distinct ss)

-- ---- what is shown of a group

all_cells : (e : Option Entity) (s : List ℕ) (rows : List Cells) → AllPrintable rows → AllByRecursion IsPrintableCell (map (cell_in e s) rows)
all_cells e s [] each = tt
all_cells e s (r ∷ rs) each = (under (names_in e) s r (each r (inl refl)), all_cells e s rs (λ row a. each row (inr a)))

sum_printable : (ms : List ℤ) → IsPrintableCell (sum_of ms)
sum_printable [] = tt
sum_printable (m ∷ ms) = tt

least_printable : (x : CellValue) (xs : List CellValue) → IsPrintableCell x → AllByRecursion IsPrintableCell xs → IsPrintableCell (least x xs)
least_printable x [] h k = h
least_printable x (y ∷ ys) h k = either (is_lt (cell_cmp y x)) (least y ys) (least x ys) (least_printable y ys k.0 k.1) (least_printable x ys h k.1)

greatest_printable : (x : CellValue) (xs : List CellValue) → IsPrintableCell x → AllByRecursion IsPrintableCell xs → IsPrintableCell (greatest x xs)
greatest_printable x [] h k = h
greatest_printable x (y ∷ ys) h k = either (is_gt (cell_cmp y x)) (greatest y ys) (greatest x ys) (greatest_printable y ys k.0 k.1) (greatest_printable x ys h k.1)

least_of_printable : (xs : List CellValue) → AllByRecursion IsPrintableCell xs → IsPrintableCell (least_of xs)
least_of_printable [] h = tt
least_of_printable (x ∷ xs) h = least_printable x xs h.0 h.1

greatest_of_printable : (xs : List CellValue) → AllByRecursion IsPrintableCell xs → IsPrintableCell (greatest_of xs)
greatest_of_printable [] h = tt
greatest_of_printable (x ∷ xs) h = greatest_printable x xs h.0 h.1

told_printable : (xs : List CellValue) → AllByRecursion IsPrintableCell xs → AllByRecursion IsPrintableCell (told xs)
told_printable xs h =
    All-from_Among IsPrintableCell (told xs)
    (λ x a. All-Among IsPrintableCell xs x h (Among-from_filter (λ y. not (is_null_cell y)) xs x a).0)

function_printable : (f : Function) (xs : List CellValue) → AllByRecursion IsPrintableCell xs → IsPrintableCell (function_of f xs)
function_printable Count xs h = tt
function_printable Sum xs h = sum_printable (scaled_numbers xs)
function_printable Min xs h = least_of_printable (told xs) (told_printable xs h)
function_printable Max xs h = greatest_of_printable (told xs) (told_printable xs h)

-- its first row and its rows can be printed
abbrev IsPrintableGroup : Group → Type 0
IsPrintableGroup x = IsPrintableRow x.first × AllPrintable x.rows

group_cell_printable : (e : Option Entity) (x : Group) → IsPrintableGroup x → (s : Selected) → IsPrintableCell (group_cell e x s)
group_cell_printable e x h (selected.Column n) = under (names_in e) n.text x.first h.0
group_cell_printable e x h selected.Rows = tt
group_cell_printable e x h (selected.Function f n) = function_printable f (map (cell_in e n.text) x.rows) (all_cells e n.text x.rows h.1)

module _ (key : Cells → Cells) where
  first_step : (b : Bool) (row r : Cells) (xs ys rs : List Cells) → Among row (if b then xs else r ∷ ys) → (Among row xs → Among row rs) → (Among row ys → Among row rs) → Among row (r ∷ rs)
  first_step true row r xs ys rs a h k = inr (h a)
  first_step false row r xs ys rs (inl same) h k = inl same
  first_step false row r xs ys rs (inr a) h k = inr (k a)

  among_first : (begun rows : List Cells) (row : Cells) → Among row (first_rows key begun rows) → Among row rows
  among_first begun [] row a = absurd a
  among_first begun (r ∷ rs) row a =
      first_step (list_any (in_one_group key r) begun) row r (first_rows key begun rs) (first_rows key (begun ++ r ∷ []) rs) rs a
      (among_first begun rs row) (among_first (begun ++ r ∷ []) rs row)

  group_printable : (rows : List Cells) → AllPrintable rows → (x : Group) → Among x (grouped key rows) → IsPrintableGroup x
  group_printable rows each x a =
      let found = Among-from_map (group_of key rows) (sorted_by (λ r s. cells_cmp (key r) (key s)) (first_rows key [] rows)) x a in
      let first = among_first [] rows found.0 (among-from_sorted_by (λ r s. cells_cmp (key r) (key s)) found.0 (first_rows key [] rows) found.1) in
      subst IsPrintableGroup (sym found.2) (each found.0 first, λ row b. each row (Among-from_filter (in_one_group key found.0) rows row b).0)

groups_printable : (e : Option Entity) (g : List Name) (rows : List Cells) → AllPrintable rows → (x : Group) → Among x (groups e g rows) → IsPrintableGroup x
groups_printable e [] rows each x (inl same) = subst IsPrintableGroup (sym same) (tt, each)
groups_printable e [] rows each x (inr a) = absurd a
groups_printable e (n ∷ ns) rows each x a = group_printable (key_of e (n ∷ ns)) rows each x a

group_rows_printable : (e : Option Entity) (ss : List Selected) (g : List Name) (rows : List Cells) → AllPrintable rows → AllPrintable (group_rows e ss g rows)
group_rows_printable e ss g rows each row a =
    let found = Among-from_map (λ x. map (group_cell e x) (distinct ss)) (groups e g rows) row a in
    subst IsPrintableRow (sym found.2) (each_cell (group_cell e found.0) (group_cell_printable e found.0 (groups_printable e g rows each found.0 found.1)) (distinct ss))

-- ---- whole answers

either_rows : (b : Bool) (xs ys : List Cells) → AllPrintable xs → AllPrintable ys → AllPrintable (if b then xs else ys)
either_rows true xs ys h k = h
either_rows false xs ys h k = k

answered_printable : (e : Option Entity) (ss : Option (List Selected)) (g : List Name) (p : Paging) (rows : List Cells) → AllPrintable rows → AllPrintable (answered e ss g p rows)
answered_printable e ss g p rows each =
    let in_groups = group_rows e (shown_list ss) g rows in
    let alone = paged (names_in e) p rows in
    either_rows (makes_groups (shown_list ss) g) (paged (output_names e ss) p in_groups) (map (shown_cells e ss) alone)
    (λ row a. group_rows_printable e (shown_list ss) g rows each row (among_paged (output_names e ss) p in_groups row a))
    (λ row a. let found = Among-from_map (shown_cells e ss) alone row a in
    subst IsPrintableRow (sym found.2) (shown_printable e ss found.0 (each found.0 (among_paged (names_in e) p rows found.0 found.1))))

module _ (w : World) (each : (e : Entity) → AllByRecursion IsPrintableRow (w.rows e)) where
  entity_printable : (o : Option Entity) → AllPrintable (rows_in w o)
  entity_printable None row a = absurd a
  entity_printable (Some e) row a = All-Among IsPrintableRow (w.rows e) row (each e) a

  selected_printable : (q : Level) → AllByRecursion IsPrintableRow (means.selected w q)
  selected_printable (level n s k g p) =
      let e = entity_named n.text in
      let chosen = filter (λ row. means.passes w k e row) (rows_in w e) in
      All-from_Among IsPrintableRow (answered e s g p chosen)
      (answered_printable e s g p chosen (λ row a. entity_printable e row (Among-from_filter (λ r. means.passes w k e r) (rows_in w e) row a).0))

pub rows_can_be_printed : RowsCanBePrinted
rows_can_be_printed ttls history matches trace q =
    selected_printable (world_of ttls history matches) (λ e. tables_can_be_printed e ttls history trace) q

pub pages_can_be_printed : PagesCanBePrinted
pages_can_be_printed p r h =
    All-from_Among IsPrintableRow (paged r.names p r.rows) (λ row a. All-Among IsPrintableRow r.rows row h (among_paged r.names p r.rows row a))
