-- Rows of one group have one text, and so one number.
use Rattle.std.proofs.Common.{◌≡◌, ◌∙◌, ℕ, zero, suc, ◌+◌, ◌<◌, List, [], ◌∷◌, ◌++◌, true, Some, refl, sym, ap, subst, inl, inr, drop, get_or, length}
use Rattle.std.proofs.lemmas.List.{drop_more, map-append}
use Rattle.std.specs.Cmp.{signed_Decides}
use Rattle.std.specs.Prelude.{slice_get, unwrap_or}
use Rattle.fleet_tables.proofs.of_plain_laws.Booleans.{both_true}
use Rattle.fleet_tables.specs.fleet_rows.Cell.{CellValue}
use Rattle.query_plan.specs.means_spec.Cells.{same_cell, same_cells}
use Rattle.query_plan.specs.means_spec.Groups.{in_one_group}
use Rattle.same_text.proofs.AlikeLaws.{one_text}
use Rattle.query_plan.specs.table_spec.Rows.{Cells}
use Rattle.query_rows.specs.Marked.{cell_text, key_text, number_of, row_marked, rows_marked, HaveMarks, HaveNumbers, AreMarked, Numbers}
use Rattle.query_rows.specs.declared.marks.Marked.{Marked}

-- ---- texts

one_cell_text : (x y : CellValue) → same_cell x y ≡ true → cell_text x ≡ cell_text y
one_cell_text (inl m) (inl n) h = ap (λ k. cell_text (inl k)) ((signed_Decides m n).0 h)
one_cell_text (inl m) (inr j) h = cc
one_cell_text (inr j) (inl n) h = cc
one_cell_text (inr i) (inr j) h = one_text i j h

pub one_key_text : (xs ys : Cells) → same_cells xs ys ≡ true → key_text xs ≡ key_text ys
one_key_text [] [] h = refl
one_key_text [] (y ∷ ys) h = cc
one_key_text (x ∷ xs) [] h = cc
one_key_text (x ∷ xs) (y ∷ ys) h =
    let parts = both_true (same_cell x y) (same_cells xs ys) h in
    λ i. one_cell_text x y parts.0 i ++ 44 ∷ one_key_text xs ys parts.1 i

-- ---- marks

module _ (key : Cells → Cells) where
  pub numbers-kept : (old new : Numbers) → ((cs : List ℕ) (v : ℕ) → number_of old cs ≡ Some v → number_of new cs ≡ Some v) → (ms : List Marked) → HaveNumbers key old ms → HaveNumbers key new ms
  numbers-kept old new kept [] h = tt
  numbers-kept old new kept (m ∷ ms) h = (kept (key_text (key (row_marked m))) m.mark h.0, numbers-kept old new kept ms h.1)

  numbers-push : (texts : Numbers) (ms : List Marked) (m : Marked) → HaveNumbers key texts ms → number_of texts (key_text (key (row_marked m))) ≡ Some m.mark → HaveNumbers key texts (ms ++ m ∷ [])
  numbers-push texts [] m h one = (one, tt)
  numbers-push texts (x ∷ ms) m h one = (h.0, numbers-push texts ms m h.1 one)

  -- one row more
  pub numbers_on : (old new : Numbers) (ms more : List Marked) (m : Marked) → more ≡ ms ++ m ∷ [] → ((cs : List ℕ) (v : ℕ) → number_of old cs ≡ Some v → number_of new cs ≡ Some v)
      → number_of new (key_text (key (row_marked m))) ≡ Some m.mark → HaveNumbers key old ms → HaveNumbers key new more
  numbers_on old new ms more m is kept one h = subst (HaveNumbers key new) (sym is) (numbers-push new ms m (numbers-kept old new kept ms h) one)

  number_at : (texts : Numbers) (ms : List Marked) (at : ℕ) (m : Marked) → HaveNumbers key texts ms → slice_get ms at ≡ Some m → number_of texts (key_text (key (row_marked m))) ≡ Some m.mark
  number_at texts [] at m h e = cc
  number_at texts (x ∷ ms) zero m h e =
      let same : x ≡ m = cc in
      subst (λ (y : Marked). number_of texts (key_text (key (row_marked y))) ≡ Some y.mark) same h.0
  number_at texts (x ∷ ms) (suc at) m h e = number_at texts ms at m h.1 e

  -- a row has the mark of a row of its group
  pub number_like : (texts : Numbers) (ms : List Marked) (at : ℕ) (m : Marked) (row : Cells) → HaveNumbers key texts ms → slice_get ms at ≡ Some m → in_one_group key row (row_marked m) ≡ true
      → number_of texts (key_text (key row)) ≡ Some m.mark
  number_like texts ms at m row h there e = ap (number_of texts) (one_key_text (key row) (key (row_marked m)) e) ∙ number_at texts ms at m h there

  marks-have : (texts : Numbers) (ms : List Marked) → HaveNumbers key texts ms → HaveMarks (λ x. unwrap_or (number_of texts (key_text (key x))) 0) ms
  marks-have texts [] h = tt
  marks-have texts (m ∷ ms) h = (sym (ap (λ o. unwrap_or o 0) h.0), marks-have texts ms h.1)

  pub are_marked : (texts : Numbers) (ms : List Marked) → HaveNumbers key texts ms → AreMarked key ms
  are_marked texts ms h = record {
    mark = λ x. unwrap_or (number_of texts (key_text (key x))) 0;
    is_mark = λ x y e. ap (λ text. unwrap_or (number_of texts text) 0) (one_key_text (key x) (key y) e);
    have = marks-have texts ms h;
  }

pub marked_on : (old more : List Marked) (m : Marked) → more ≡ old ++ m ∷ [] → rows_marked more ≡ rows_marked old ++ row_marked m ∷ []
marked_on old more m e = ap rows_marked e ∙ map-append row_marked old (m ∷ [])

module _ (b : Cells → ℕ) where
  pub marks-push : (ms : List Marked) (m : Marked) → HaveMarks b ms → m.mark ≡ b (row_marked m) → HaveMarks b (ms ++ m ∷ [])
  marks-push [] m h one = (one, tt)
  marks-push (x ∷ ms) m h one = (h.0, marks-push ms m h.1 one)

  -- the one at a place, and those behind it
  pub marks_at : (ms : List Marked) (i : ℕ) (m : Marked) → i < length ms → m ≡ get_or ms i m → HaveMarks b (drop i ms) → (m.mark ≡ b (row_marked m)) × HaveMarks b (drop (i + 1) ms)
  marks_at ms i m lt at h =
      let parts = subst (HaveMarks b) (drop_more ms i m lt) h in
      (subst (λ (x : Marked). x.mark ≡ b (row_marked x)) (sym at) parts.0, parts.1)

pub left_behind : (ms : List Marked) (i : ℕ) (m : Marked) → i < length ms → m ≡ get_or ms i m → rows_marked (drop i ms) ≡ row_marked m ∷ rows_marked (drop (i + 1) ms)
left_behind ms i m lt at = ap rows_marked (drop_more ms i m lt) ∙ ap (λ x. row_marked x ∷ rows_marked (drop (i + 1) ms)) (sym at)
