-- An answer that reads only columns that are seen by reference is made from narrow rows as from whole ones.
use Rattle.std.proofs.Common.{◌≡◌, ◌∙◌, ℕ, zero, suc, ℤ, pos, List, [], ◌∷◌, ◌++◌, Bool, true, false, ◌||◌, length, map, take, drop, refl, sym, ap, subst, Option, Some, None, if◌then◌else◌}
use Rattle.std.specs.Prelude.{filter}
use Rattle.std.specs.declared.cmp.Ordering.{Ordering}
use Rattle.std.specs.declared.cmp.Ordering.TheVariants as ordering
use Rattle.std.specs.Ordering.{is_gt, ordering_then, ordering_reverse}
use Rattle.std.specs.List.{list_any}
use Rattle.std.proofs.lemmas.List.{length-map, map-append}
use Rattle.fleet_tables.proofs.of_plain_laws.Booleans.{or_falses}
use Rattle.fleet_tables.specs.fleet_rows.Cell.{CellValue, cell_cmp}
use Rattle.fleet_tables.specs.fleet_rows.declared.row.Entity.{Entity}
use Rattle.query_plan.specs.means_spec.Cells.{cell_in, cell_under, names_in, same_cells}
use Rattle.query_plan.specs.means_spec.Groups.{Group, cells_cmp, count_cell, first_rows, function_of, group_cell, group_of, group_rows, grouped, groups, in_one_group, key_of, scaled_numbers}
use Rattle.query_plan.specs.means_spec.Means.{answered}
use Rattle.query_plan.specs.means_spec.Paging.{from_offset, order_cmp, orders_cmp, paged, to_limit}
use Rattle.query_plan.specs.means_spec.Shown.{column_cell, distinct, distinct_behind, output_names, shown_cells}
use Rattle.query_plan.specs.means_spec.Sums.{is_too_large, large_sum, large_sums, level_sum, sum_too_large}
use Rattle.query_plan.specs.query_spec.Check.{Place, at_fault, first, has_output, makes_groups}
use Rattle.query_plan.specs.query_spec.Parts.{output_name}
use Rattle.query_plan.specs.query_spec.declared.parts.Function.TheVariants as function
use Rattle.query_plan.specs.query_spec.declared.parts.Name.{Name}
use Rattle.query_plan.specs.query_spec.declared.parts.Order.{Order}
use Rattle.query_plan.specs.query_spec.declared.parts.Paging.{Paging}
use Rattle.query_plan.specs.query_spec.declared.parts.Selected.{Selected}
use Rattle.query_plan.specs.query_spec.declared.parts.Selected.TheVariants as selected
use Rattle.query_plan.specs.table_spec.Columns.{columns}
use Rattle.query_plan.specs.table_spec.Rows.{Cells}
use Rattle.query_plan.specs.table_spec.Sorted.{insert_by, sorted_by}
use Rattle.query_reading.specs.Narrow.{is_made}
use Rattle.query_reading.proofs.NarrowLaws.{cell_alike, none_first, none_rest}
use Rattle.level_answers.specs.row_views.Narrow.{narrowed, referred}
use Rattle.level_answers.specs.Levels.{IsAnswered}
use Rattle.query_engine.specs.Narrow.{IsNarrowFor, answer_makes, lines_as, name_makes, order_makes, selected_makes}
use Rattle.level_answers.specs.declared.answer.Answered.{Answered}
use Rattle.level_answers.specs.declared.answer.Answered.TheVariants as answer

-- ---- rows that are mapped

module _ (n : Cells → Cells) where
  if_more : (t : Bool) (x : Cells) (xs ys xs' ys' : List Cells) → xs' ≡ map n xs → ys' ≡ map n ys → (if t then xs' else n x ∷ ys') ≡ map n (if t then xs else x ∷ ys)
  if_more true x xs ys xs' ys' a b = a
  if_more false x xs ys xs' ys' a b = ap (λ l. n x ∷ l) b

  if_kept : (t : Bool) (x : Cells) (xs xs' : List Cells) → xs' ≡ map n xs → (if t then n x ∷ xs' else xs') ≡ map n (if t then x ∷ xs else xs)
  if_kept true x xs xs' a = ap (λ l. n x ∷ l) a
  if_kept false x xs xs' a = a

  if_behind : (t : Bool) (x y : Cells) (ys rest rest' : List Cells) → rest' ≡ map n rest → (if t then n y ∷ rest' else n x ∷ n y ∷ map n ys) ≡ map n (if t then y ∷ rest else x ∷ y ∷ ys)
  if_behind true x y ys rest rest' a = ap (λ l. n y ∷ l) a
  if_behind false x y ys rest rest' a = refl

  take_map : (k : ℕ) (xs : List Cells) → take k (map n xs) ≡ map n (take k xs)
  take_map zero xs = refl
  take_map (suc k) [] = refl
  take_map (suc k) (x ∷ xs) = ap (λ l. n x ∷ l) (take_map k xs)

  drop_map : (k : ℕ) (xs : List Cells) → drop k (map n xs) ≡ map n (drop k xs)
  drop_map zero xs = refl
  drop_map (suc k) [] = refl
  drop_map (suc k) (x ∷ xs) = drop_map k xs

  offset_map : (o : Option ℕ) (xs : List Cells) → from_offset o (map n xs) ≡ map n (from_offset o xs)
  offset_map None xs = refl
  offset_map (Some k) xs = drop_map k xs

  limit_map : (o : Option ℕ) (xs : List Cells) → to_limit o (map n xs) ≡ map n (to_limit o xs)
  limit_map None xs = refl
  limit_map (Some k) xs = take_map k xs

  -- sorted by what the map keeps
  module _ (c : Cells → Cells → Ordering) (same : (a b : Cells) → c (n a) (n b) ≡ c a b) where
    insert_map : (x : Cells) (ys : List Cells) → insert_by c (n x) (map n ys) ≡ map n (insert_by c x ys)
    insert_map x [] = refl
    insert_map x (y ∷ ys) =
        ap (λ o. if is_gt o then n y ∷ insert_by c (n x) (map n ys) else n x ∷ n y ∷ map n ys) (same x y)
        ∙ if_behind (is_gt (c x y)) x y ys (insert_by c x ys) (insert_by c (n x) (map n ys)) (insert_map x ys)

    sorted_map : (xs : List Cells) → sorted_by c (map n xs) ≡ map n (sorted_by c xs)
    sorted_map [] = refl
    sorted_map (x ∷ xs) = ap (insert_by c (n x)) (sorted_map xs) ∙ insert_map x (sorted_by c xs)

  abbrev group_map : Group → Group
  group_map x = record { first = n x.first; rows = map n x.rows }

  -- grouped by what the map keeps
  module _ (key : Cells → Cells) (same : (row : Cells) → key (n row) ≡ key row) where
    any_map : (r : Cells) (begun : List Cells) → list_any (in_one_group key (n r)) (map n begun) ≡ list_any (in_one_group key r) begun
    any_map r [] = refl
    any_map r (b ∷ bs) = λ i. same_cells (same r i) (same b i) || any_map r bs i

    first_map : (begun rows : List Cells) → first_rows key (map n begun) (map n rows) ≡ map n (first_rows key begun rows)
    first_map begun [] = refl
    first_map begun (r ∷ rs) =
        let earlier = first_rows key (map n begun) (map n rs) in
        let later = first_rows key (map n begun ++ n r ∷ []) (map n rs) in
        ap (λ t. if t then earlier else n r ∷ later) (any_map r begun)
        ∙ if_more (list_any (in_one_group key r) begun) r (first_rows key begun rs) (first_rows key (begun ++ r ∷ []) rs) earlier later (first_map begun rs)
        (ap (λ l. first_rows key l (map n rs)) (sym (map-append n begun (r ∷ []))) ∙ first_map (begun ++ r ∷ []) rs)

    filter_map : (f : Cells) (rows : List Cells) → filter (in_one_group key (n f)) (map n rows) ≡ map n (filter (in_one_group key f) rows)
    filter_map f [] = refl
    filter_map f (r ∷ rs) =
        let rest = filter (in_one_group key (n f)) (map n rs) in
        (λ i. if same_cells (same f i) (same r i) then n r ∷ rest else rest)
        ∙ if_kept (in_one_group key f r) r (filter (in_one_group key f) rs) rest (filter_map f rs)

    each_group : (rows firsts : List Cells) → map (group_of key (map n rows)) (map n firsts) ≡ map group_map (map (group_of key rows) firsts)
    each_group rows [] = refl
    each_group rows (f ∷ fs) = λ i. (record { first = n f; rows = filter_map f rows i }) ∷ each_group rows fs i

    grouped_map : (rows : List Cells) → grouped key (map n rows) ≡ map group_map (grouped key rows)
    grouped_map rows =
        let c = λ (a b : Cells). cells_cmp (key a) (key b) in
        ap (λ l. map (group_of key (map n rows)) (sorted_by c l)) (first_map [] rows)
        ∙ ap (map (group_of key (map n rows))) (sorted_map c (λ a b. λ i. cells_cmp (same a i) (same b i)) (first_rows key [] rows))
        ∙ each_group rows (sorted_by c (first_rows key [] rows))

-- ---- narrow rows

narrowed_none : (flags : List Bool) → narrowed flags [] ≡ []
narrowed_none [] = refl
narrowed_none (b ∷ bs) = refl

module _ (e : Entity) where
  abbrev E : Option Entity
  E = Some e

  abbrev n : Cells → Cells
  n = narrowed (referred e)

  keys_alike : (g : List Name) → list_any (name_makes e) g ≡ false → (row : Cells) → key_of E g (n row) ≡ key_of E g row
  keys_alike [] h row = refl
  keys_alike (m ∷ g) h row =
      let head = cell_alike e row m.text (none_first (name_makes e m) (list_any (name_makes e) g) h) in
      let rest = keys_alike g (none_rest (name_makes e m) (list_any (name_makes e) g) h) row in
      λ i. head i ∷ rest i

  groups_alike : (g : List Name) → list_any (name_makes e) g ≡ false → (rows : List Cells) → groups E g (map n rows) ≡ map (group_map n) (groups E g rows)
  groups_alike [] h rows = λ i. (record { first = sym (narrowed_none (referred e)) i; rows = map n rows }) ∷ []
  groups_alike (m ∷ g) h rows = grouped_map n (key_of E (m ∷ g)) (keys_alike (m ∷ g) h) rows

  cells_alike : (s : List ℕ) → is_made e s ≡ false → (rows : List Cells) → map (cell_in E s) (map n rows) ≡ map (cell_in E s) rows
  cells_alike s h [] = refl
  cells_alike s h (r ∷ rs) = let head = cell_alike e r s h in let rest = cells_alike s h rs in λ i. head i ∷ rest i

  -- ---- what is shown of a group

  output_alike : (x : Group) (s : Selected) → selected_makes e s ≡ false → group_cell E (group_map n x) s ≡ group_cell E x s
  output_alike x (selected.Column m) h = cell_alike e x.first m.text h
  output_alike x selected.Rows h = ap count_cell (length-map x.rows n)
  output_alike x (selected.Function f m) h = ap (function_of f) (cells_alike m.text h x.rows)

  outputs_alike : (x : Group) (os : List Selected) → list_any (selected_makes e) os ≡ false → map (group_cell E (group_map n x)) os ≡ map (group_cell E x) os
  outputs_alike x [] h = refl
  outputs_alike x (s ∷ os) h =
      let head = output_alike x s (none_first (selected_makes e s) (list_any (selected_makes e) os) h) in
      let rest = outputs_alike x os (none_rest (selected_makes e s) (list_any (selected_makes e) os) h) in
      λ i. head i ∷ rest i

  lines_alike : (os : List Selected) → list_any (selected_makes e) os ≡ false → (xs : List Group) → map (λ x. map (group_cell E x) os) (map (group_map n) xs) ≡ map (λ x. map (group_cell E x) os) xs
  lines_alike os h [] = refl
  lines_alike os h (x ∷ xs) = let head = outputs_alike x os h in let rest = lines_alike os h xs in λ i. head i ∷ rest i

  none_if : (t : Bool) (s : Selected) (xs ys : List Selected) → selected_makes e s ≡ false → list_any (selected_makes e) xs ≡ false → list_any (selected_makes e) ys ≡ false
      → list_any (selected_makes e) (if t then xs else s ∷ ys) ≡ false
  none_if true s xs ys a b c = b
  none_if false s xs ys a b c = or_falses (selected_makes e s) (list_any (selected_makes e) ys) a c

  distinct_none : (earlier ss : List Selected) → list_any (selected_makes e) ss ≡ false → list_any (selected_makes e) (distinct_behind earlier ss) ≡ false
  distinct_none earlier [] h = refl
  distinct_none earlier (s ∷ ss) h =
      let head = none_first (selected_makes e s) (list_any (selected_makes e) ss) h in
      let rest = none_rest (selected_makes e s) (list_any (selected_makes e) ss) h in
      none_if (has_output earlier (output_name s)) s (distinct_behind earlier ss) (distinct_behind (earlier ++ s ∷ []) ss) head (distinct_none earlier ss rest) (distinct_none (earlier ++ s ∷ []) ss rest)

  group_rows_alike : (ss : List Selected) (g : List Name) → list_any (selected_makes e) ss ≡ false → list_any (name_makes e) g ≡ false → (rows : List Cells)
      → group_rows E ss g (map n rows) ≡ group_rows E ss g rows
  group_rows_alike ss g h k rows =
      ap (map (λ x. map (group_cell E x) (distinct ss))) (groups_alike g k rows) ∙ lines_alike (distinct ss) (distinct_none [] ss h) (groups E g rows)

  -- ---- sums

  sum_alike : (m : Name) → name_makes e m ≡ false → (xs : List Group) → list_any (sum_too_large E m) (map (group_map n) xs) ≡ list_any (sum_too_large E m) xs
  sum_alike m h [] = refl
  sum_alike m h (x ∷ xs) =
      let head = ap (λ l. is_too_large (pos 0) (scaled_numbers l)) (cells_alike m.text h x.rows) in
      let rest = sum_alike m h xs in
      λ i. head i || rest i

  large_sum_alike : (xs : List Group) (s : Selected) → selected_makes e s ≡ false → large_sum E (map (group_map n) xs) s ≡ large_sum E xs s
  large_sum_alike xs (selected.Column m) h = refl
  large_sum_alike xs selected.Rows h = refl
  large_sum_alike xs (selected.Function function.Count m) h = refl
  large_sum_alike xs (selected.Function function.Sum m) h = ap (λ t. at_fault t m.place) (sum_alike m h xs)
  large_sum_alike xs (selected.Function function.Min m) h = refl
  large_sum_alike xs (selected.Function function.Max m) h = refl

  large_sums_alike : (xs : List Group) (ss : List Selected) → list_any (selected_makes e) ss ≡ false → large_sums E (map (group_map n) xs) ss ≡ large_sums E xs ss
  large_sums_alike xs [] h = refl
  large_sums_alike xs (s ∷ ss) h =
      let head = large_sum_alike xs s (none_first (selected_makes e s) (list_any (selected_makes e) ss) h) in
      let rest = large_sums_alike xs ss (none_rest (selected_makes e s) (list_any (selected_makes e) ss) h) in
      λ i. first (head i) (rest i)

  level_sum_alike : (ss : List Selected) (g : List Name) → list_any (selected_makes e) ss ≡ false → list_any (name_makes e) g ≡ false → (rows : List Cells)
      → level_sum E ss g (map n rows) ≡ level_sum E ss g rows
  level_sum_alike ss g h k rows =
      ap (λ (o : Option Place). if makes_groups ss g then o else None)
      (ap (λ xs. large_sums E xs ss) (groups_alike g k rows) ∙ large_sums_alike (groups E g rows) ss h)

  -- ---- rows that aren't grouped

  order_alike : (o : Order) → order_makes e o ≡ false → (a b : Cells) → order_cmp (names_in E) o (n a) (n b) ≡ order_cmp (names_in E) o a b
  order_alike o h a b =
      let left = cell_alike e a o.column.text h in
      let right = cell_alike e b o.column.text h in
      λ i. if o.descends then ordering_reverse (cell_cmp (left i) (right i)) else cell_cmp (left i) (right i)

  orders_alike : (os : List Order) → list_any (order_makes e) os ≡ false → (a b : Cells) → orders_cmp (names_in E) os (n a) (n b) ≡ orders_cmp (names_in E) os a b
  orders_alike [] h a b = refl
  orders_alike (o ∷ os) h a b =
      let head = order_alike o (none_first (order_makes e o) (list_any (order_makes e) os) h) a b in
      let rest = orders_alike os (none_rest (order_makes e o) (list_any (order_makes e) os) h) a b in
      λ i. ordering_then (head i) (rest i)

  paged_alike : (p : Paging) → list_any (order_makes e) p.order ≡ false → (rows : List Cells) → paged (names_in E) p (map n rows) ≡ map n (paged (names_in E) p rows)
  paged_alike p h rows =
      let c = orders_cmp (names_in E) p.order in
      ap (λ l. to_limit p.limit (from_offset p.offset l)) (sorted_map n c (orders_alike p.order h) rows)
      ∙ ap (to_limit p.limit) (offset_map n p.offset (sorted_by c rows))
      ∙ limit_map n p.limit (from_offset p.offset (sorted_by c rows))

  column_alike : (row : Cells) (s : Selected) → selected_makes e s ≡ false → column_cell E (n row) s ≡ column_cell E row s
  column_alike row (selected.Column m) h = cell_alike e row m.text h
  column_alike row selected.Rows h = refl
  column_alike row (selected.Function f m) h = refl

  shown_alike : (row : Cells) (os : List Selected) → list_any (selected_makes e) os ≡ false → map (column_cell E (n row)) os ≡ map (column_cell E row) os
  shown_alike row [] h = refl
  shown_alike row (s ∷ os) h =
      let head = column_alike row s (none_first (selected_makes e s) (list_any (selected_makes e) os) h) in
      let rest = shown_alike row os (none_rest (selected_makes e s) (list_any (selected_makes e) os) h) in
      λ i. head i ∷ rest i

  shown_rows_alike : (ss : List Selected) → list_any (selected_makes e) ss ≡ false → (rows : List Cells) → map (shown_cells E (Some ss)) (map n rows) ≡ map (shown_cells E (Some ss)) rows
  shown_rows_alike ss h [] = refl
  shown_rows_alike ss h (r ∷ rs) =
      let head = shown_alike r (distinct ss) (distinct_none [] ss h) in
      let rest = shown_rows_alike ss h rs in
      λ i. head i ∷ rest i

  -- ---- answers

  answered_alike : (ss : List Selected) (g : List Name) (p : Paging) → list_any (selected_makes e) ss ≡ false → list_any (name_makes e) g ≡ false → list_any (order_makes e) p.order ≡ false
      → (rows : List Cells) → answered E (Some ss) g p (map n rows) ≡ answered E (Some ss) g p rows
  answered_alike ss g p h k o rows =
      let in_groups = ap (paged (output_names E (Some ss)) p) (group_rows_alike ss g h k rows) in
      let alone = ap (map (shown_cells E (Some ss))) (paged_alike p o rows) ∙ shown_rows_alike ss h (paged (names_in E) p rows) in
      λ i. if makes_groups ss g then in_groups i else alone i

  narrow_answer : (ss : List Selected) (g : List Name) (p : Paging) → list_any (selected_makes e) ss ≡ false → list_any (name_makes e) g ≡ false → list_any (order_makes e) p.order ≡ false
      → (rows : List Cells) (x : Answered) → IsAnswered E (Some ss) g p (map n rows) x → IsAnswered E (Some ss) g p rows x
  narrow_answer ss g p h k o rows (answer.Rows lines) is = (sym (level_sum_alike ss g h k rows) ∙ is.0, is.1 ∙ answered_alike ss g p h k o rows)
  narrow_answer ss g p h k o rows (answer.TooLarge place) is = sym (level_sum_alike ss g h k rows) ∙ is

  -- the answer from narrow rows is the answer, where it reads no column that would have to be made
  pub answer_alike : (ss : List Selected) (g : List Name) (p : Paging) → answer_makes e ss g p.order ≡ false
      → (rows : List Cells) (x : Answered) → IsAnswered E (Some ss) g p (map n rows) x → IsAnswered E (Some ss) g p rows x
  answer_alike ss g p none rows x is =
      let names = list_any (name_makes e) g in
      let orders = list_any (order_makes e) p.order in
      let rest = none_rest (list_any (selected_makes e) ss) (names || orders) none in
      narrow_answer ss g p (none_first (list_any (selected_makes e) ss) (names || orders) none) (none_first names orders rest) (none_rest names orders rest) rows x is

-- the same of the rows from which an answer is made
pub from_lines : (e : Option Entity) (ss : Option (List Selected)) (g : List Name) (p : Paging) (narrow : Option Entity) → IsNarrowFor e ss g p narrow
    → (rows : List Cells) (x : Answered) → IsAnswered e ss g p (lines_as narrow rows) x → IsAnswered e ss g p rows x
from_lines e ss g p None is rows x h = h
from_lines (Some e) (Some ss) g p (Some narrow) is rows x h =
    answer_alike e ss g p is.1 rows x (subst (λ (m : Entity). IsAnswered (Some e) (Some ss) g p (map (narrowed (referred m)) rows) x) is.0 h)
from_lines None ss g p (Some narrow) is rows x h = absurd is
from_lines (Some e) None g p (Some narrow) is rows x h = absurd is
