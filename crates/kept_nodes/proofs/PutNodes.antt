-- A node that is put into the list, and the node that is changed there.
use Rattle.std.proofs.Common.{◌≡◌, ◌∙◌, ℕ, zero, suc, ◌<◌, ◌≤◌, List, [], ◌∷◌, length, map, take, get_or, slice_get, Option, Some, None, false, Ok, Err, refl, sym, ap, subst, arith}
use Rattle.std.specs.List.{insert, AllByRecursion}
use Rattle.std.specs.declared.alloc.Global.{Global}
use Rattle.std.specs.declared.boxed.Box.{Box}
use Rattle.std.proofs.Math.ListN.{set}
use Rattle.std.specs.Box.{with_value}
use Rattle.std.specs.Option.{option_map, is_some}
use Rattle.std.proofs.lemmas.List.{length-map, map-set, set-get_or}
use Rattle.std.proofs.lemmas.Option.{slice_get-map, get_or_from_slice_get}
use Rattle.checkpoint_spec.specs.table_machine.Table as machine
use Rattle.checkpoint_spec.specs.table_machine.Steps.{empty_node}
use Rattle.kept_nodes.specs.Kept.{IsNode}
use Rattle.kept_nodes.specs.Places.{IsPlaceOf, Boxes, nodes_in, seen_in, InOrder, IsNodeFor, reports_of}
use Rattle.kept_nodes.specs.Seen.{node_seen}
use Rattle.kept_nodes.specs.declared.node.Node.{Node}
use Rattle.kept_nodes.proofs.NodePlaces.{box_there}
use Rattle.kept_nodes.proofs.FoundNodes.{found, put_found, absent, put_absent}

-- ---- lists

pub image_at : {X Y : Type 0} (f : X → Y) (xs : List X) (k : ℕ) (y : Y) → slice_get (map f xs) k ≡ Some y → (x : X) × (slice_get xs k ≡ Some x) × (f x ≡ y)
image_at f [] k y e = cc
image_at f (x ∷ xs) zero y e = (x, refl, cc)
image_at f (x ∷ xs) (suc k) y e = image_at f xs k y e

place_inside : {X : Type 0} (xs : List X) (k : ℕ) → k < length xs → (x : X) × (slice_get xs k ≡ Some x)
place_inside [] k h = absurd (omega (arith, h))
place_inside (x ∷ xs) zero h = (x, refl)
place_inside (x ∷ xs) (suc k) h = place_inside xs k (omega (arith, h))

pub map-insert : {X Y : Type 0} (f : X → Y) (xs : List X) (k : ℕ) (x : X) → map f (insert xs k x) ≡ insert (map f xs) k (f x)
map-insert f [] zero x = refl
map-insert f [] (suc k) x = refl
map-insert f (y ∷ ys) zero x = refl
map-insert f (y ∷ ys) (suc k) x = ap (λ l. f y ∷ l) (map-insert f ys k x)

pub get-insert : {X : Type 0} (xs : List X) (k : ℕ) (x : X) → k ≤ length xs → slice_get (insert xs k x) k ≡ Some x
get-insert [] zero x h = refl
get-insert [] (suc k) x h = absurd (omega (arith, h))
get-insert (y ∷ ys) zero x h = refl
get-insert (y ∷ ys) (suc k) x h = get-insert ys k x (omega (arith, h))

pub take-insert : {X : Type 0} (xs : List X) (k : ℕ) (x : X) → k ≤ length xs → take k (insert xs k x) ≡ take k xs
take-insert xs zero x h = refl
take-insert [] (suc k) x h = absurd (omega (arith, h))
take-insert (y ∷ ys) (suc k) x h = ap (λ l. y ∷ l) (take-insert ys k x (omega (arith, h)))

pub set-insert : {X : Type 0} (xs : List X) (k : ℕ) (x z : X) → k ≤ length xs → set (insert xs k x) k z ≡ insert xs k z
set-insert [] zero x z h = refl
set-insert [] (suc k) x z h = absurd (omega (arith, h))
set-insert (y ∷ ys) zero x z h = refl
set-insert (y ∷ ys) (suc k) x z h = ap (λ l. y ∷ l) (set-insert ys k x z (omega (arith, h)))

pub all-insert : {X : Type 0} (P : X → Type 0) (xs : List X) (k : ℕ) (x : X) → AllByRecursion P xs → P x → AllByRecursion P (insert xs k x)
all-insert P [] zero x h p = (p, tt)
all-insert P [] (suc k) x h p = (p, tt)
all-insert P (y ∷ ys) zero x h p = (p, h)
all-insert P (y ∷ ys) (suc k) x h p = (h.0, all-insert P ys k x h.1 p)

pub all-set : {X : Type 0} (P : X → Type 0) (xs : List X) (k : ℕ) (x : X) → AllByRecursion P xs → P x → AllByRecursion P (set xs k x)
all-set P [] k x h p = tt
all-set P (y ∷ ys) zero x h p = (p, h.1)
all-set P (y ∷ ys) (suc k) x h p = (h.0, all-set P ys k x h.1 p)

-- ---- the node that is changed

pub node_there : (certname : List ℕ) (nodes : List Node) (k : ℕ) → InOrder nodes → IsPlaceOf certname nodes (Ok k) → IsNodeFor certname (map node_seen nodes) (map node_seen nodes) k
node_there certname nodes k s place = λ seen e.
    let node = image_at node_seen nodes k seen e in
    let named = place.1 node.0 node.1 in (
      ap (λ (n : machine.Node). n.reports) (sym node.2) ∙ ap reports_of (sym (found certname nodes k node.0 s node.1 named)),
      λ change. put_found certname change nodes k node.0 s node.1 named ∙ ap (λ (n : machine.Node). set (map node_seen nodes) k (change n)) node.2,
    )

pub node_put : (certname : List ℕ) (nodes : List Node) (k : ℕ) (new : Node) → IsPlaceOf certname nodes (Err k) → node_seen new ≡ empty_node certname
    → IsNodeFor certname (map node_seen nodes) (map node_seen (insert nodes k new)) k
node_put certname nodes k new place empty = λ seen e.
    let within : k ≤ length (map node_seen nodes) = omega (arith, place.0, length-map nodes node_seen) in
    let list : map node_seen (insert nodes k new) ≡ insert (map node_seen nodes) k (empty_node certname) = map-insert node_seen nodes k new ∙ ap (insert (map node_seen nodes) k) empty in
    let there : Some (empty_node certname) ≡ Some seen = sym (get-insert (map node_seen nodes) k (empty_node certname) within) ∙ ap (λ ns. slice_get ns k) (sym list) ∙ e in
    let same : empty_node certname ≡ seen = cc in (
      ap (λ (n : machine.Node). n.reports) (sym same) ∙ ap reports_of (sym (absent certname nodes k place.1 place.2)),
      λ change.
          put_absent certname change nodes k place.1 place.2
          ∙ sym (set-insert (map node_seen nodes) k (empty_node certname) (change (empty_node certname)) within)
          ∙ (λ i. set (sym list i) k (change (same i))),
    )

-- ---- the same of a node in its box

module _ (boxes : Boxes) (k : ℕ) (b : Box Node Global) (node : Node) (within : k < length boxes) (is : b ≡ get_or boxes k b) (value : node ≡ b.value) where
  pub seen_there : slice_get (seen_in boxes) k ≡ Some (node_seen node)
  seen_there = slice_get-map node_seen (nodes_in boxes) k ∙ ap (option_map node_seen) (box_there boxes k b within is) ∙ ap (λ (n : Node). Some (node_seen n)) (sym value)

  pub seen_at : node_seen node ≡ get_or (seen_in boxes) k (node_seen node)
  seen_at = sym (get_or_from_slice_get (seen_in boxes) k (node_seen node) (node_seen node) seen_there)

pub seen_changed : (boxes : Boxes) (k : ℕ) (b : Box Node Global) (new : Node) → seen_in (set boxes k (with_value b new)) ≡ set (seen_in boxes) k (node_seen new)
seen_changed boxes k b new =
    ap (map node_seen) (map-set (λ (x : Box Node Global). x.value) boxes k (with_value b new)) ∙ map-set node_seen (nodes_in boxes) k new

pub kept_changed : (boxes : Boxes) (k : ℕ) (b : Box Node Global) (new : Node) → AllByRecursion IsNode (nodes_in boxes) → IsNode new → AllByRecursion IsNode (nodes_in (set boxes k (with_value b new)))
kept_changed boxes k b new all h =
    subst (AllByRecursion IsNode) (sym (map-set (λ (x : Box Node Global). x.value) boxes k (with_value b new))) (all-set IsNode (nodes_in boxes) k new all h)

pub is_none : {X : Type 0} (o : Option X) → is_some o ≡ false → o ≡ None
is_none None e = refl
is_none (Some x) e = cc

-- ---- a node that is seen as it was

pub seen_kept : (boxes : Boxes) (k : ℕ) (b : Box Node Global) (node new : Node) → k < length boxes → b ≡ get_or boxes k b → node ≡ b.value → node_seen new ≡ node_seen node
    → seen_in (set boxes k (with_value b new)) ≡ seen_in boxes
seen_kept boxes k b node new within is value same =
    seen_changed boxes k b new
    ∙ ap (set (seen_in boxes) k) (same ∙ seen_at boxes k b node within is value)
    ∙ set-get_or (seen_in boxes) k (node_seen node)
