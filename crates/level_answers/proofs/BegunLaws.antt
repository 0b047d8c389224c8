-- Rows that begin groups, and the groups of them.
use Rattle.std.proofs.Common.{◌≡◌, ◌∙◌, ℕ, ◌==◌, List, [], ◌∷◌, ◌++◌, Bool, true, false, if◌then◌else◌, sym, ap, subst, map, append_assoc, append-nil}
use Rattle.std.specs.Prelude.{filter}
use Rattle.std.specs.List.{list_any}
use Rattle.std.proofs.lemmas.List.{map-append}
use Rattle.query_plan.specs.means_spec.Groups.{Group, cells_cmp, in_one_group, first_rows, group_of, grouped}
use Rattle.query_plan.specs.table_spec.Rows.{Cells}
use Rattle.query_plan.specs.table_spec.Sorted.{sorted_by}
use Rattle.level_answers.specs.Begun.{AreBegun, AreFirst, AreGroupsOf, begun_by, by_key}
use Rattle.query_rows.specs.Marked.{part_at, row_marked, rows_marked, IsMark, HaveMarks, AreMarked, AreParted}
use Rattle.query_rows.specs.declared.marks.Marked.{Marked}
use Rattle.query_rows.specs.declared.parts.Part.{Part}
use Rattle.query_rows.proofs.MarkLaws.{marks-push}
use Rattle.query_rows.proofs.PartLaws.{part_any, part_rows, parted-push}
use Rattle.level_answers.proofs.SortedRefs.{map_sorted}

module _ (key : Cells → Cells) where
  -- ---- one row

  module _ (b : Cells → ℕ) (mark : IsMark key b) (m : Marked) (is : m.mark ≡ b (row_marked m)) (begun : List Marked) (parts : List Part) (h : AreBegun b begun parts) (part : List Cells) (there : part ≡ part_at parts m.mark) where
    known : list_any (in_one_group key (row_marked m)) part ≡ list_any (in_one_group key (row_marked m)) (rows_marked begun)
    known = part_any key b mark (row_marked m) m.mark is (rows_marked begun) part (there ∙ h.1 m.mark)

    -- the row is in a group that began
    pub begins_none : list_any (in_one_group key (row_marked m)) part ≡ true → (rows_marked begun ≡ rows_marked begun ++ begun_by key (rows_marked begun) (row_marked m)) × AreBegun b begun parts
    begins_none e = (
      sym (append-nil (rows_marked begun)) ∙ ap (λ t. rows_marked begun ++ (if t then [] else row_marked m ∷ [])) (sym (sym known ∙ e)),
      h,
    )

    -- it begins one
    pub begins_one : list_any (in_one_group key (row_marked m)) part ≡ false → (new : Marked) (new_begun : List Marked) (new_parts : List Part) → row_marked new ≡ row_marked m → new.mark ≡ m.mark → new_begun ≡ begun ++ new ∷ []
        → ((q : ℕ) → part_at new_parts q ≡ part_at parts q ++ (if m.mark == q then row_marked m ∷ [] else []))
        → (rows_marked new_begun ≡ rows_marked begun ++ begun_by key (rows_marked begun) (row_marked m)) × AreBegun b new_begun new_parts
    begins_one e new new_begun new_parts row number pushed put =
        let rows : rows_marked new_begun ≡ rows_marked begun ++ row_marked m ∷ [] = ap rows_marked pushed ∙ map-append row_marked begun (new ∷ []) ∙ ap (λ r. rows_marked begun ++ r ∷ []) row in (
          rows ∙ ap (λ t. rows_marked begun ++ (if t then [] else row_marked m ∷ [])) (sym (sym known ∙ e)),
          (
            subst (HaveMarks b) (sym pushed) (marks-push b begun new h.0 (number ∙ is ∙ ap b (sym row))),
            subst (AreParted b new_parts) (sym rows) (parted-push b (row_marked m) m.mark is parts new_parts (rows_marked begun) put h.1),
          ),
        )

  -- ---- all rows

  on_step : (t : Bool) (so new rest whole : List Cells) (r : Cells) → new ≡ so ++ (if t then [] else r ∷ []) → so ++ (if t then first_rows key so rest else r ∷ first_rows key (so ++ r ∷ []) rest) ≡ whole → new ++ first_rows key new rest ≡ whole
  on_step true so new rest whole r n h = ap (λ l. l ++ first_rows key l rest) (n ∙ append-nil so) ∙ h
  on_step false so new rest whole r n h = ap (λ l. l ++ first_rows key l rest) n ∙ append_assoc so (r ∷ []) (first_rows key (so ++ r ∷ []) rest) ∙ h

  pub first_on : (so new rest whole : List Cells) (r : Cells) → new ≡ so ++ begun_by key so r → so ++ first_rows key so (r ∷ rest) ≡ whole → new ++ first_rows key new rest ≡ whole
  first_on so new rest whole r n h = on_step (list_any (in_one_group key r) so) so new rest whole r n h

  -- ---- the groups

  -- the group of a row, whose rows are found under its mark
  pub group_is : (b : Cells → ℕ) → IsMark key b → (first : Cells) (m : ℕ) → m ≡ b first → (rows part found : List Cells) → part ≡ filter (λ x. b x == m) rows → found ≡ filter (in_one_group key first) part → record { first = first; rows = found } ≡ group_of key rows first
  group_is b mark first m is rows part found parted e =
      ap (λ l. record { first = first; rows = l }) (e ∙ part_rows key b mark first m is rows part parted)

  -- groups are sorted as the rows that begin them
  pub sorted_groups : (rows firsts : List Cells) (groups sorted : List Group) → firsts ≡ first_rows key [] rows → groups ≡ map (group_of key rows) firsts → sorted ≡ sorted_by (by_key key) groups → sorted ≡ grouped key rows
  sorted_groups rows firsts groups sorted f g s =
      s
      ∙ ap (sorted_by (by_key key)) g
      ∙ sym (map_sorted_groups firsts)
      ∙ ap (λ l. map (group_of key rows) (sorted_by (λ a b. cells_cmp (key a) (key b)) l)) f
    where
      map_sorted_groups : (xs : List Cells) → map (group_of key rows) (sorted_by (λ a b. cells_cmp (key a) (key b)) xs) ≡ sorted_by (by_key key) (map (group_of key rows) xs)
      map_sorted_groups xs = map_sorted (group_of key rows) (by_key key) xs

-- behind the last row
pub all_begun : (key : Cells → Cells) (begun whole rows : List Cells) → rows ≡ [] → begun ++ first_rows key begun rows ≡ whole → begun ≡ whole
all_begun key begun whole rows e h = sym (append-nil begun) ∙ sym (ap (λ l. begun ++ first_rows key begun l) e) ∙ h

-- behind the last group
pub all_found : (f : Cells → Group) (found whole : List Group) (rows : List Cells) → rows ≡ [] → found ++ map f rows ≡ whole → found ≡ whole
all_found f found whole rows e h = sym (append-nil found) ∙ sym (ap (λ l. found ++ map f l) e) ∙ h

-- the groups of all rows, by whatever marks they have
pub found_groups : (key : Cells → Cells) (rows : List Cells) (all ms firsts fs : List Marked) (parts ps : List Part) (groups sorted : List Group)
    → rows_marked all ≡ rows → AreMarked key all → ms ≡ all → AreFirst key ms firsts → ((b : Cells → ℕ) → HaveMarks b ms → AreParted b parts (rows_marked ms)) → fs ≡ firsts → ps ≡ parts
    → AreGroupsOf key ps fs groups → sorted ≡ sorted_by (by_key key) groups → sorted ≡ grouped key rows
found_groups key rows all ms firsts fs parts ps groups sorted are_rows marked same first parted same_firsts same_parts of_groups is =
    let b = marked.mark in
    let have : HaveMarks b ms = subst (HaveMarks b) (sym same) marked.have in
    let begun = first b marked.is_mark have in
    let at_rows : rows_marked ms ≡ rows = ap rows_marked same ∙ are_rows in
    let here : AreParted b ps rows = subst (λ l. AreParted b l rows) (sym same_parts) (subst (AreParted b parts) at_rows (parted b have)) in
    let firsts_are : rows_marked fs ≡ first_rows key [] rows = ap rows_marked same_firsts ∙ begun.0 ∙ ap (first_rows key []) at_rows in
    sorted_groups key rows (rows_marked fs) groups sorted firsts_are (of_groups b rows marked.is_mark (subst (HaveMarks b) (sym same_firsts) begun.1) here) is
