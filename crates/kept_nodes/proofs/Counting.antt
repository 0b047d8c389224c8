-- Running numbers of rows.
use Rattle.std.proofs.Common.{◌≡◌, ◌∙◌, ℕ, zero, suc, ◌+◌, ◌-◌, ◌<◌, ◌≤◌, List, [], ◌∷◌, ◌++◌, length, take, drop, get_or, slice_get, Some, Bool, true, false, refl, sym, ap, subst, arith, append_assoc}
use Rattle.std.specs.declared.alloc.Global.{Global}
use Rattle.std.specs.declared.boxed.Box.{Box}
use Rattle.std.proofs.lemmas.List.{take_more_set, drop-set-lt, drop_more, take_all, take-append-drop, map-set, get_or-map, length-map, set-get_or}
use Rattle.std.specs.Bool.{then_some}
use Rattle.std.specs.Box.{with_value}
use Rattle.std.proofs.Math.ListN.{set}
use Rattle.checkpoint_spec.specs.fleet_rows.declared.row.Entity.{Entity}
use Rattle.checkpoint_spec.specs.fleet_rows.declared.row.Entity.TheVariants.{Nodes, Factsets, Facts, Catalogs, Resources, Edges, Reports}
use Rattle.kept_nodes.specs.Counted.{none, plus, counts, count_of, total_from, AreCountedFrom, IsCountedBefore, IsWithin, numbers}
use Rattle.kept_nodes.specs.Places.{Boxes, nodes_in, recounted, HasRow}
use Rattle.kept_nodes.specs.declared.counts.Counts.{Counts}
use Rattle.kept_nodes.specs.declared.node.Node.{Node}
use Rattle.kept_nodes.proofs.NodePlaces.{box_there, box_at}

pub count-plus : (entity : Entity) (a b : Counts) → count_of entity (plus a b) ≡ count_of entity a + count_of entity b
count-plus Nodes a b = refl
count-plus Factsets a b = refl
count-plus Facts a b = refl
count-plus Catalogs a b = refl
count-plus Resources a b = refl
count-plus Edges a b = refl
count-plus Reports a b = refl
count-plus _ a b = refl

pub total_more : (before : Counts) (nodes : List Node) (k : ℕ) (node : Node) → slice_get nodes k ≡ Some node → total_from before (take (suc k) nodes) ≡ plus (total_from before (take k nodes)) (counts node)
total_more before [] k node e = cc
total_more before (n ∷ ns) zero node e = let same : n ≡ node = cc in ap (λ (m : Node). plus before (counts m)) same
total_more before (n ∷ ns) (suc k) node e = total_more (plus before (counts n)) ns k node e

-- what a node knows of the rows before it
pub before_is : (before : Counts) (nodes : List Node) (k : ℕ) (node : Node) → AreCountedFrom before nodes → slice_get nodes k ≡ Some node → node.before ≡ total_from before (take k nodes)
before_is before [] k node h e = cc
before_is before (n ∷ ns) zero node h e = let same : n ≡ node = cc in ap (λ (m : Node). m.before) (sym same) ∙ h.0
before_is before (n ∷ ns) (suc k) node h e = before_is (plus before (counts n)) ns k node h.1 e

pub box_before : (boxes : Boxes) (k : ℕ) (b : Box Node Global) → AreCountedFrom none (nodes_in boxes) → k < length boxes → b ≡ get_or boxes k b → b.value.before ≡ total_from none (take k (nodes_in boxes))
box_before boxes k b h within is = before_is none (nodes_in boxes) k b.value h (box_there boxes k b within is)

-- the node at which the rows reach beyond i
pub has_row : (entity : Entity) (i : ℕ) (nodes : List Node) (low high : ℕ) (node : Node) → AreCountedFrom none nodes → slice_get nodes low ≡ Some node → high ≡ suc low
    → count_of entity (total_from none (take low nodes)) ≤ i → i < count_of entity (total_from none (take high nodes)) → HasRow entity i node
has_row entity i nodes low high node h e next before behind =
    let here : count_of entity node.before ≡ count_of entity (total_from none (take low nodes)) = ap (count_of entity) (before_is none nodes low node h e) in
    let there : count_of entity (total_from none (take high nodes)) ≡ count_of entity (total_from none (take low nodes)) + count_of entity (counts node) =
    ap (λ k. count_of entity (total_from none (take k nodes))) next ∙ ap (count_of entity) (total_more none nodes low node e) ∙ count-plus entity (total_from none (take low nodes)) (counts node) in
    (omega arith, omega arith)

-- ---- two lists of nodes, one behind the other

pub total_joined : (before : Counts) (front behind : List Node) → total_from before (front ++ behind) ≡ total_from (total_from before front) behind
total_joined before [] behind = refl
total_joined before (n ∷ ns) behind = total_joined (plus before (counts n)) ns behind

pub counted_joined : (before : Counts) (front behind : List Node) → AreCountedFrom before front → AreCountedFrom (total_from before front) behind → AreCountedFrom before (front ++ behind)
counted_joined before [] behind h k = k
counted_joined before (n ∷ ns) behind h k = (h.0, counted_joined (plus before (counts n)) ns behind h.1 k)

pub counted_front : (before : Counts) (nodes : List Node) (k : ℕ) → AreCountedFrom before nodes → AreCountedFrom before (take k nodes)
counted_front before nodes zero h = tt
counted_front before [] (suc k) h = tt
counted_front before (n ∷ ns) (suc k) h = (h.0, counted_front (plus before (counts n)) ns k h.1)

-- what the last node knows, with its own rows
pub total_at_last : (nodes : List Node) (node : Node) → AreCountedFrom none nodes → slice_get nodes (length nodes - 1) ≡ Some node → total_from none nodes ≡ plus node.before (counts node)
total_at_last [] node h e = cc
total_at_last (n ∷ ns) node h e =
    let number : length (n ∷ ns) - 1 ≡ length ns = omega arith in
    let there : slice_get (n ∷ ns) (length ns) ≡ Some node = ap (λ k. slice_get (n ∷ ns) k) (sym number) ∙ e in
    ap (total_from none) (sym (take_all (suc (length ns)) (n ∷ ns) (omega arith)))
    ∙ total_more none (n ∷ ns) (length ns) node there
    ∙ ap (λ c. plus c (counts node)) (sym (before_is none (n ∷ ns) (length ns) node h there))

pub rows_up_to_last : (boxes : Boxes) (b : Box Node Global) (node shown : Node) (c : Counts) → AreCountedFrom none (nodes_in boxes) → 0 < length boxes → b ≡ get_or boxes (length boxes - 1) b
    → node ≡ b.value → c ≡ counts shown → shown ≡ b.value → plus node.before c ≡ total_from none (nodes_in boxes)
rows_up_to_last boxes b node shown c h some is value number seen =
    let within : length boxes - 1 < length boxes = omega (arith, some) in
    let there : slice_get (nodes_in boxes) (length (nodes_in boxes) - 1) ≡ Some b.value =
    ap (λ n. slice_get (nodes_in boxes) (n - 1)) (length-map boxes (λ (x : Box Node Global). x.value)) ∙ box_there boxes (length boxes - 1) b within is in
    (λ i. plus ((value i).before) ((number ∙ ap counts seen) i)) ∙ sym (total_at_last (nodes_in boxes) b.value h there)

-- ---- nodes with the same numbers

first_same : (n m : Node) (ns ms : List Node) → numbers (n ∷ ns) ≡ numbers (m ∷ ms) → (n.before ≡ m.before) × (counts n ≡ counts m) × (numbers ns ≡ numbers ms)
first_same n m ns ms e =
    let first : ◌≡◌ {A = Counts × Counts} (n.before, counts n) (m.before, counts m) = cc in
    (ap (λ (p : Counts × Counts). p.0) first, ap (λ (p : Counts × Counts). p.1) first, cc)

pub total_same : (before : Counts) (new old : List Node) → numbers new ≡ numbers old → total_from before new ≡ total_from before old
total_same before [] [] e = refl
total_same before [] (o ∷ os) e = cc
total_same before (n ∷ ns) [] e = cc
total_same before (n ∷ ns) (o ∷ os) e =
    let same = first_same n o ns os e in
    ap (λ c. total_from (plus before c) ns) same.1 ∙ total_same (plus before (counts o)) ns os same.2

pub counted_same : (before : Counts) (new old : List Node) → numbers new ≡ numbers old → AreCountedFrom before old → AreCountedFrom before new
counted_same before [] [] e h = tt
counted_same before [] (o ∷ os) e h = tt
counted_same before (n ∷ ns) [] e h = cc
counted_same before (n ∷ ns) (o ∷ os) e h =
    let same = first_same n o ns os e in
    (same.0 ∙ h.0, subst (λ c. AreCountedFrom (plus before c) ns) (sym same.1) (counted_same (plus before (counts o)) ns os same.2 h.1))

-- a node that keeps its numbers
pub numbers_kept : (boxes : Boxes) (k : ℕ) (b : Box Node Global) (new : Node) → b ≡ get_or boxes k b → k < length boxes → new.before ≡ b.value.before → counts new ≡ counts b.value
    → numbers (nodes_in (set boxes k (with_value b new))) ≡ numbers (nodes_in boxes)
numbers_kept boxes k b new is within before same =
    let pair : Node → Counts × Counts = λ node. (node.before, counts node) in
    ap numbers (map-set (λ (x : Box Node Global). x.value) boxes k (with_value b new))
    ∙ map-set pair (nodes_in boxes) k new
    ∙ ap (set (numbers (nodes_in boxes)) k) ((λ i. (before i, same i)) ∙ sym (get_or-map pair (nodes_in boxes) k b.value (pair b.value) (omega (arith, length-map boxes (λ (x : Box Node Global). x.value))) ∙ ap pair (box_at boxes k b within is)))
    ∙ set-get_or (numbers (nodes_in boxes)) k (pair b.value)

-- what is counted stays right before a place, and all of it unless numbers changed
pub counted_before : (old new : List Node) (at : ℕ) (changed : Bool) → at ≤ length new → take at new ≡ take at old → (changed ≡ false → numbers new ≡ numbers old) → IsCountedBefore (then_some changed at) old new
counted_before old new at true within front same = (within, front)
counted_before old new at false within front same = same refl

-- ---- bounds

pub within_before : (before : Counts) (nodes : List Node) → IsWithin (total_from before nodes) → IsWithin before
within_before before [] h = h
within_before before (n ∷ ns) h =
    let more : IsWithin (plus before (counts n)) = within_before (plus before (counts n)) ns h in
    (omega (arith, more.0), omega (arith, more.1), omega (arith, more.2), omega (arith, more.3), omega (arith, more.4), omega (arith, more.5), omega (arith, more.6))

pub within_front : (nodes : List Node) (k : ℕ) → IsWithin (total_from none nodes) → IsWithin (total_from none (take k nodes))
within_front nodes k h =
    within_before (total_from none (take k nodes)) (drop k nodes)
    (subst IsWithin (ap (total_from none) (sym (take-append-drop k nodes)) ∙ total_joined none (take k nodes) (drop k nodes)) h)

pub within_next : (before : Counts) (boxes : Boxes) (i : ℕ) (b : Box Node Global) → i < length boxes → b ≡ get_or boxes i b → IsWithin (total_from before (drop i (nodes_in boxes))) → IsWithin (plus before (counts b.value))
within_next before [] i b within is h = absurd (omega (arith, within))
within_next before (x ∷ xs) zero b within is h =
    subst (λ (y : Box Node Global). IsWithin (plus before (counts y.value))) (sym is) (within_before (plus before (counts x.value)) (nodes_in xs) h)
within_next before (x ∷ xs) (suc i) b within is h = within_next before xs i b (omega (arith, within)) is h

-- ---- one node more is counted

module _ (before : Counts) (nodes : List Node) (i : ℕ) (node : Node) (within : i < length nodes) (is : get_or nodes i node ≡ node) where
  abbrev counted : List Node
  counted = set nodes i (record node { before = before })

  left : drop i nodes ≡ node ∷ drop (i + 1) nodes
  left = drop_more nodes i node within ∙ ap (λ m. m ∷ drop (i + 1) nodes) is

  behind : drop (i + 1) counted ≡ drop (i + 1) nodes
  behind = drop-set-lt (i + 1) nodes i (record node { before = before }) (omega arith)

  pub recounted_more : take (i + 1) counted ++ recounted (plus before (counts node)) (drop (i + 1) counted) ≡ take i nodes ++ recounted before (drop i nodes)
  recounted_more =
      (λ j. take_more_set nodes i (record node { before = before }) within j ++ recounted (plus before (counts node)) (behind j))
      ∙ append_assoc (take i nodes) (record node { before = before } ∷ []) (recounted (plus before (counts node)) (drop (i + 1) nodes))
      ∙ ap (λ ns. take i nodes ++ recounted before ns) (sym left)

  pub total_from_more : total_from (plus before (counts node)) (drop (i + 1) counted) ≡ total_from before (drop i nodes)
  total_from_more = ap (total_from (plus before (counts node))) behind ∙ ap (total_from before) (sym left)
