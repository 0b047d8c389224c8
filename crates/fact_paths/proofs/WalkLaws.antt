-- The rows of leaves, as the walk over a value meets them.
use Rattle.std.proofs.Common.{◌≡◌, ◌∙◌, ℕ, zero, suc, ◌+◌, ◌-◌, ◌<◌, ◌≤◌, max, List, [], ◌∷◌, ◌++◌, length, map, drop, take, get_or, Bool, true, false, refl, sym, ap, arith, nat_eq, if◌then◌else◌}
use Rattle.std.specs.Borrow.{Bor}
use Rattle.std.specs.Ordering.{is_gt}
use Rattle.std.proofs.Math.Dec.{eqb-suc-zero}
use Rattle.std.proofs.Math.Seq.{take-append_seam}
use Rattle.std.proofs.lemmas.List.{append_assoc, append-nil, drop_more, length-append}
use Rattle.fleet_rows.specs.Cell.{CellValue}
use Rattle.fleet_rows.specs.declared.row.Row.{Row}
use Rattle.fleet_rows.specs.json_tree.Arranged.{pair_by, placed}
use Rattle.fleet_rows.specs.json_tree.InOrder.{in_key_order}
use Rattle.fleet_rows.specs.json_tree.Tree.{json_of, jsons}
use Rattle.fleet_rows.specs.json_tree.declared.tree.Json.{Json as Tree}
use Rattle.fleet_rows.specs.text_spec.Compact.{text_cmp, insert_member, arranged, arranged_items, arranged_members}
use Rattle.fleet_rows.specs.text_spec.Json.{Json, null, boolean, number, string, array, object, Items, no_items, item, items_of, Members, no_members, member, members_of, levels, items_levels, members_levels}
use Rattle.fact_paths.specs.declared.step.StepRef.{StepRef}
use Rattle.fact_paths.specs.declared.step.StepRef.TheVariants as ref
use Rattle.fact_paths.specs.declared.walk.Fact.{Fact}
use Rattle.fact_paths.specs.Leaves.{Step, key, index, Leaf, is_leaf, under, leaves_within, item_leaves, member_leaves, leaves}
use Rattle.fact_paths.specs.Rows.{content_cells, content_row}
use Rattle.fact_paths.specs.Steps.{step_of, steps_of}
use Rattle.fact_paths.specs.Under.{row_at, rows_under}

-- ---- a leaf, and the values that have more

pub leaf_itself : (j : Json) → is_leaf j ≡ true → leaves j ≡ ([], j) ∷ []
leaf_itself null h = refl
leaf_itself (boolean b) h = refl
leaf_itself (number s) h = refl
leaf_itself (string s) h = refl
leaf_itself (array no_items) h = refl
leaf_itself (array (item j js)) h = cc
leaf_itself (object no_members) h = refl
leaf_itself (object (member k j ms)) h = cc

pub leaf_of_members : (ms : List (List ℕ × Json)) → nat_eq (length ms) 0 ≡ is_leaf (object (members_of ms))
leaf_of_members [] = refl
leaf_of_members (m ∷ ms) = eqb-suc-zero (length ms)

pub leaves_of_items : (js : Items) → is_leaf (array js) ≡ false → leaves (array js) ≡ item_leaves 0 (arranged_items js)
leaves_of_items no_items h = cc
leaves_of_items (item j js) h = refl

inserted_step : (b : Bool) (k l : List ℕ) (j i : Json) (ms more : Members) →
    leaves_within (object (if b then member l i more else member k j (member l i ms))) ≡ member_leaves (if b then member l i more else member k j (member l i ms))
inserted_step true k l j i ms more = refl
inserted_step false k l j i ms more = refl

inserted : (k : List ℕ) (j : Json) (ms : Members) → leaves_within (object (insert_member k j ms)) ≡ member_leaves (insert_member k j ms)
inserted k j no_members = refl
inserted k j (member l i ms) = inserted_step (is_gt (text_cmp k l)) k l j i ms (insert_member k j ms)

pub leaves_of_members : (ms : Members) → is_leaf (object ms) ≡ false → leaves (object ms) ≡ member_leaves (arranged_members ms)
leaves_of_members no_members h = cc
leaves_of_members (member k j ms) h = inserted k (arranged j) (arranged_members ms)

-- ---- rows

steps_pushed : (held : List StepRef) (s : StepRef) → steps_of (held ++ s ∷ []) ≡ steps_of held ++ step_of s ∷ []
steps_pushed [] s = refl
steps_pushed (x ∷ held) s = ap (λ steps. step_of x ∷ steps) (steps_pushed held s)

pushed_there : (held start pushed : List StepRef) (s : StepRef) → held ≡ start → pushed ≡ held ++ s ∷ [] → steps_of pushed ≡ steps_of start ++ step_of s ∷ []
pushed_there held start pushed s same push =
    ap steps_of push ∙ steps_pushed held s ∙ ap (λ (steps : List StepRef). steps_of steps ++ step_of s ∷ []) same

-- a step that is taken back
pub popped : (held start pushed walked left : List StepRef) (s : StepRef) (n : ℕ) → held ≡ start → pushed ≡ held ++ s ∷ [] → walked ≡ pushed → n ≡ length walked → left ≡ take (n - 1) walked → left ≡ start
popped held start pushed walked left s n same push stays long rest =
    let less : length (held ++ s ∷ []) - 1 ≡ length held = omega (arith, length-append held (s ∷ [])) in
    rest
    ∙ ap (λ m. take (m - 1) walked) long
    ∙ ap (λ (steps : List StepRef). take (length steps - 1) steps) (stays ∙ push)
    ∙ ap (λ m. take m (held ++ s ∷ [])) less
    ∙ take-append_seam held (s ∷ [])
    ∙ same

-- the rows of a value to which no step leads
pub rows_plain : (certname environment : CellValue) (name : List ℕ) (ls : List Leaf) →
    map (λ (l : Leaf). content_row (content_cells certname environment name ([] ++ l.0, l.1))) ls ≡ map content_row (map (content_cells certname environment name) ls)
rows_plain certname environment name [] = refl
rows_plain certname environment name (l ∷ ls) = ap (λ rows. content_row (content_cells certname environment name l) ∷ rows) (rows_plain certname environment name ls)

-- no item leads deeper than all of them
pub levels-item : (js : List Tree) (i : ℕ) (d : Tree) → i < length js → levels (json_of (get_or js i d)) ≤ items_levels (items_of (jsons js))
levels-item [] i d h = absurd (omega arith)
levels-item (x ∷ js) zero d h = omega arith
levels-item (x ∷ js) (suc i) d h = omega (arith, levels-item js i d (omega arith))

module _ (fact : Fact) where
  pub rows_of_leaf : (path : List Step) (j : Json) → is_leaf j ≡ true → rows_under fact path (leaves j) ≡ row_at fact path j ∷ []
  rows_of_leaf path j h =
      ap (rows_under fact path) (leaf_itself j h) ∙ ap (λ p. row_at fact p j ∷ []) (append-nil path)

  rows_further : (path : List Step) (s : Step) (ls : List Leaf) → rows_under fact path (map (under s) ls) ≡ rows_under fact (path ++ s ∷ []) ls
  rows_further path s [] = refl
  rows_further path s (l ∷ ls) =
      λ i. row_at fact (sym (append_assoc path (s ∷ []) l.0) i) l.1 ∷ rows_further path s ls i

  rows_joined : (path : List Step) (ls ks : List Leaf) → rows_under fact path (ls ++ ks) ≡ rows_under fact path ls ++ rows_under fact path ks
  rows_joined path [] ks = refl
  rows_joined path (l ∷ ls) ks = ap (λ rows. row_at fact (path ++ l.0) l.1 ∷ rows) (rows_joined path ls ks)

  one_more : (before : List Row) (path : List Step) (s : Step) (ls more : List Leaf) →
      before ++ rows_under fact path (map (under s) ls ++ more) ≡ (before ++ rows_under fact (path ++ s ∷ []) ls) ++ rows_under fact path more
  one_more before path s ls more =
      ap (λ rows. before ++ rows) (rows_joined path (map (under s) ls) more ∙ ap (λ rows. rows ++ rows_under fact path more) (rows_further path s ls))
      ∙ sym (append_assoc before (rows_under fact (path ++ s ∷ []) ls) (rows_under fact path more))

  -- the rows of an item, and those of the items behind it
  item_turn : (before : List Row) (path : List Step) (list : List Tree) (i : ℕ) (d : Tree) → i < length list →
      before ++ rows_under fact path (item_leaves i (arranged_items (items_of (jsons (drop i list)))))
      ≡ (before ++ rows_under fact (path ++ index i ∷ []) (leaves (json_of (get_or list i d)))) ++ rows_under fact path (item_leaves (i + 1) (arranged_items (items_of (jsons (drop (i + 1) list)))))
  item_turn before path list i d h =
      let next : suc i ≡ i + 1 = omega arith in
      ap (λ js. before ++ rows_under fact path (item_leaves i (arranged_items (items_of (jsons js))))) (drop_more list i d h)
      ∙ one_more before path (index i) (leaves (json_of (get_or list i d))) (item_leaves (suc i) (arranged_items (items_of (jsons (drop (i + 1) list)))))
      ∙ ap (λ n. (before ++ rows_under fact (path ++ index i ∷ []) (leaves (json_of (get_or list i d)))) ++ rows_under fact path (item_leaves n (arranged_items (items_of (jsons (drop (i + 1) list)))))) next

  -- the rows of a member, and those of the members behind it
  member_turn : (before : List Row) (path : List Step) (list : List (Bor (List ℕ × Tree))) (i : ℕ) (d : Bor (List ℕ × Tree)) → i < length list →
      before ++ rows_under fact path (member_leaves (placed (drop i list)))
      ≡ (before ++ rows_under fact (path ++ key (get_or list i d).now.0 ∷ []) (leaves (json_of (get_or list i d).now.1))) ++ rows_under fact path (member_leaves (placed (drop (i + 1) list)))
  member_turn before path list i d h =
      ap (λ bs. before ++ rows_under fact path (member_leaves (placed bs))) (drop_more list i d h)
      ∙ one_more before path (key (get_or list i d).now.0) (leaves (json_of (get_or list i d).now.1)) (member_leaves (placed (drop (i + 1) list)))

  pub item_passed : (before after : List Row) (held start pushed : List StepRef) (list : List Tree) (i : ℕ) (one d : Tree) →
      i < length list → one ≡ get_or list i d → held ≡ start → pushed ≡ held ++ ref.Index i ∷ [] →
      after ≡ before ++ rows_under fact (steps_of pushed) (leaves (json_of one)) →
      after ++ rows_under fact (steps_of start) (item_leaves (i + 1) (arranged_items (items_of (jsons (drop (i + 1) list)))))
      ≡ before ++ rows_under fact (steps_of start) (item_leaves i (arranged_items (items_of (jsons (drop i list)))))
  item_passed before after held start pushed list i one d h is same push appended =
      let there : steps_of pushed ≡ steps_of start ++ index i ∷ [] = pushed_there held start pushed (ref.Index i) same push in
      let added : after ≡ before ++ rows_under fact (steps_of start ++ index i ∷ []) (leaves (json_of (get_or list i d))) =
      appended
      ∙ ap (λ p. before ++ rows_under fact p (leaves (json_of one))) there
      ∙ ap (λ j. before ++ rows_under fact (steps_of start ++ index i ∷ []) (leaves (json_of j))) is in
      ap (λ rows. rows ++ rows_under fact (steps_of start) (item_leaves (i + 1) (arranged_items (items_of (jsons (drop (i + 1) list)))))) added
      ∙ sym (item_turn before (steps_of start) list i d h)

  pub member_passed : (before after : List Row) (held start pushed : List StepRef) (list : List (Bor (List ℕ × Tree))) (i : ℕ) (m d : Bor (List ℕ × Tree)) (s : StepRef) →
      i < length list → m ≡ get_or list i d → held ≡ start → pushed ≡ held ++ s ∷ [] → step_of s ≡ key m.now.0 →
      after ≡ before ++ rows_under fact (steps_of pushed) (leaves (json_of m.now.1)) →
      after ++ rows_under fact (steps_of start) (member_leaves (placed (drop (i + 1) list)))
      ≡ before ++ rows_under fact (steps_of start) (member_leaves (placed (drop i list)))
  member_passed before after held start pushed list i m d s h is same push step appended =
      let there : steps_of pushed ≡ steps_of start ++ key m.now.0 ∷ [] =
      pushed_there held start pushed s same push ∙ ap (λ t. steps_of start ++ t ∷ []) step in
      let one : after ≡ before ++ rows_under fact (steps_of start ++ key (get_or list i d).now.0 ∷ []) (leaves (json_of (get_or list i d).now.1)) =
      appended
      ∙ ap (λ p. before ++ rows_under fact p (leaves (json_of m.now.1))) there
      ∙ ap (λ (b : Bor (List ℕ × Tree)). before ++ rows_under fact (steps_of start ++ key b.now.0 ∷ []) (leaves (json_of b.now.1))) is in
      ap (λ rows. rows ++ rows_under fact (steps_of start) (member_leaves (placed (drop (i + 1) list)))) one
      ∙ sym (member_turn before (steps_of start) list i d h)

-- ---- sorted references

abbrev pub arranged_values : Members → Members
arranged_values no_members = no_members
arranged_values (member k j ms) = member k (arranged j) (arranged_values ms)

values_step : (b : Bool) (k l : List ℕ) (j i : Json) (ms more : Members) (put : Members) → arranged_values more ≡ put →
    arranged_values (if b then member l i more else member k j (member l i ms)) ≡ (if b then member l (arranged i) put else member k (arranged j) (member l (arranged i) (arranged_values ms)))
values_step true k l j i ms more put e = ap (member l (arranged i)) e
values_step false k l j i ms more put e = refl

values-insert : (k : List ℕ) (j : Json) (ms : Members) → arranged_values (insert_member k j ms) ≡ insert_member k (arranged j) (arranged_values ms)
values-insert k j no_members = refl
values-insert k j (member l i ms) = values_step (is_gt (text_cmp k l)) k l j i ms (insert_member k j ms) (insert_member k (arranged j) (arranged_values ms)) (values-insert k j ms)

values-in_order : (ms : List (List ℕ × Json)) → arranged_values (in_key_order ms) ≡ arranged_members (members_of ms)
values-in_order [] = refl
values-in_order (m ∷ ms) = values-insert m.0 m.1 (in_key_order ms) ∙ ap (insert_member m.0 (arranged m.1)) (values-in_order ms)

placed-values : (bs : List (Bor (List ℕ × Tree))) → placed bs ≡ arranged_values (members_of (map (pair_by (λ j. j)) bs))
placed-values [] = refl
placed-values (b ∷ bs) = ap (member b.now.0 (arranged (json_of b.now.1))) (placed-values bs)

-- references in the order of their keys are the members that the definition arranges
pub placed_in_order : (bs : List (Bor (List ℕ × Tree))) (ms : List (List ℕ × Json)) → members_of (map (pair_by (λ j. j)) bs) ≡ in_key_order ms → placed bs ≡ arranged_members (members_of ms)
placed_in_order bs ms e = placed-values bs ∙ ap arranged_values e ∙ values-in_order ms

levels_step : (b : Bool) (k l : List ℕ) (j i : Json) (ms more : Members) → members_levels more ≡ max (levels j) (members_levels ms) →
    members_levels (if b then member l i more else member k j (member l i ms)) ≡ max (levels j) (max (levels i) (members_levels ms))
levels_step true k l j i ms more e = omega (arith, e)
levels_step false k l j i ms more e = refl

levels-insert : (k : List ℕ) (j : Json) (ms : Members) → members_levels (insert_member k j ms) ≡ max (levels j) (members_levels ms)
levels-insert k j no_members = refl
levels-insert k j (member l i ms) = levels_step (is_gt (text_cmp k l)) k l j i ms (insert_member k j ms) (levels-insert k j ms)

levels-in_order : (ms : List (List ℕ × Json)) → members_levels (in_key_order ms) ≡ members_levels (members_of ms)
levels-in_order [] = refl
levels-in_order (m ∷ ms) = levels-insert m.0 m.1 (in_key_order ms) ∙ ap (max (levels m.1)) (levels-in_order ms)

levels-reference : (bs : List (Bor (List ℕ × Tree))) (i : ℕ) (d : Bor (List ℕ × Tree)) → i < length bs → levels (json_of (get_or bs i d).now.1) ≤ members_levels (members_of (map (pair_by (λ j. j)) bs))
levels-reference [] i d h = absurd (omega arith)
levels-reference (b ∷ bs) zero d h = omega arith
levels-reference (b ∷ bs) (suc i) d h = omega (arith, levels-reference bs i d (omega arith))

-- no reference among them leads deeper than the members
pub levels_in_order : (bs : List (Bor (List ℕ × Tree))) (ms : List (List ℕ × Json)) (i : ℕ) (d : Bor (List ℕ × Tree)) → members_of (map (pair_by (λ j. j)) bs) ≡ in_key_order ms → i < length bs → levels (json_of (get_or bs i d).now.1) ≤ members_levels (members_of ms)
levels_in_order bs ms i d e h =
    omega (arith, levels-reference bs i d h, ap members_levels e, levels-in_order ms)
