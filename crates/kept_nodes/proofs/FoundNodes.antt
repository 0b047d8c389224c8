-- Where a certname stands is where the machine finds its node, or puts it.
use Rattle.std.proofs.Common.{◌≡◌, ◌∙◌, ℕ, zero, suc, ◌<◌, List, [], ◌∷◌, length, take, drop, map, get_or, slice_get, Some, None, Result, Ok, Err, refl, sym, ap, subst, arith, inl, inr}
use Rattle.std.specs.List.{insert, AllByRecursion}
use Rattle.std.specs.Ordering.{match_ordering}
use Rattle.std.specs.declared.alloc.Global.{Global}
use Rattle.std.specs.declared.boxed.Box.{Box}
use Rattle.std.specs.declared.cmp.Ordering.TheVariants.{Less, Equal, Greater}
use Rattle.std.proofs.Math.ListN.{set}
use Rattle.std.proofs.lemmas.Cmp.{tied_itself}
use Rattle.std.proofs.lemmas.List.{length-map}
use Rattle.checkpoint_spec.specs.text_spec.Compact.{text_cmp}
use Rattle.checkpoint_spec.proofs.of_history_laws.Members.{Among, All-Among}
use Rattle.checkpoint_spec.proofs.of_history_laws.SortedTexts.{text_cmp_total, turned_less}
use Rattle.checkpoint_spec.specs.table_machine.Table as machine
use Rattle.checkpoint_spec.specs.table_machine.Steps.{empty_node, find_node, with_node}
use Rattle.kept_nodes.specs.Kept.{IsNode}
use Rattle.kept_nodes.specs.Places.{IsPlaceOf, Boxes, nodes_in, InOrder}
use Rattle.kept_nodes.specs.Seen.{node_seen}
use Rattle.kept_nodes.specs.declared.node.Node.{Node}
use Rattle.kept_nodes.proofs.NodePlaces.{AreBelow, AreAbove, above_first, behind_first, box_there}
use Rattle.checkpoint_spec.proofs.ListLaws.{turned_greater}

pub at_place : {X : Type 0} (xs : List X) (k : ℕ) (x : X) → slice_get xs k ≡ Some x → Among x xs
at_place [] k x e = cc
at_place (y ∷ ys) zero x e = let same : x ≡ y = cc in inl same
at_place (y ∷ ys) (suc k) x e = inr (at_place ys k x e)

module _ (certname : List ℕ) where
  itself : (n : Node) → n.certname ≡ certname → text_cmp certname n.certname ≡ Equal
  itself n e = ap (text_cmp certname) e ∙ tied_itself text_cmp_total certname

  further : (n m : Node) → m.certname ≡ certname → text_cmp n.certname m.certname ≡ Less → text_cmp certname n.certname ≡ Greater
  further n m e h = subst (λ name. text_cmp name n.certname ≡ Greater) e (turned_greater n.certname m.certname h)

  -- ---- a node that is there

  pub found : (nodes : List Node) (k : ℕ) (node : Node) → InOrder nodes → slice_get nodes k ≡ Some node → node.certname ≡ certname → find_node certname (map node_seen nodes) ≡ Some (node_seen node)
  found [] k node s e named = cc
  found (n ∷ ns) zero node s e named =
      let same : n ≡ node = cc in
      ap (λ p. match_ordering p None (Some (node_seen n)) (find_node certname (map node_seen ns))) (itself n (ap (λ (m : Node). m.certname) same ∙ named))
      ∙ ap (λ (m : Node). Some (node_seen m)) same
  found (n ∷ ns) (suc k) node s e named =
      ap (λ p. match_ordering p None (Some (node_seen n)) (find_node certname (map node_seen ns))) (further n node named (above_first n node ns s (at_place ns k node e)))
      ∙ found ns k node (behind_first n ns s) e named

  pub put_found : (change : machine.Node → machine.Node) (nodes : List Node) (k : ℕ) (node : Node) → InOrder nodes → slice_get nodes k ≡ Some node → node.certname ≡ certname
      → with_node certname change (map node_seen nodes) ≡ set (map node_seen nodes) k (change (node_seen node))
  put_found change [] k node s e named = cc
  put_found change (n ∷ ns) zero node s e named =
      let same : n ≡ node = cc in
      ap (λ p. match_ordering p (change (empty_node certname) ∷ node_seen n ∷ map node_seen ns) (change (node_seen n) ∷ map node_seen ns) (node_seen n ∷ with_node certname change (map node_seen ns))) (itself n (ap (λ (m : Node). m.certname) same ∙ named))
      ∙ ap (λ (m : Node). change (node_seen m) ∷ map node_seen ns) same
  put_found change (n ∷ ns) (suc k) node s e named =
      ap (λ p. match_ordering p (change (empty_node certname) ∷ node_seen n ∷ map node_seen ns) (change (node_seen n) ∷ map node_seen ns) (node_seen n ∷ with_node certname change (map node_seen ns))) (further n node named (above_first n node ns s (at_place ns k node e)))
      ∙ ap (λ l. node_seen n ∷ l) (put_found change ns k node (behind_first n ns s) e named)

  -- ---- a node that isn't

  pub absent : (nodes : List Node) (k : ℕ) → AreBelow certname (take k nodes) → AreAbove certname (drop k nodes) → find_node certname (map node_seen nodes) ≡ None
  absent [] k below above = refl
  absent (n ∷ ns) zero below above =
      ap (λ p. match_ordering p None (Some (node_seen n)) (find_node certname (map node_seen ns))) (turned_less n.certname certname above.0)
  absent (n ∷ ns) (suc k) below above =
      ap (λ p. match_ordering p None (Some (node_seen n)) (find_node certname (map node_seen ns))) (turned_greater n.certname certname below.0)
      ∙ absent ns k below.1 above

  pub put_absent : (change : machine.Node → machine.Node) (nodes : List Node) (k : ℕ) → AreBelow certname (take k nodes) → AreAbove certname (drop k nodes)
      → with_node certname change (map node_seen nodes) ≡ insert (map node_seen nodes) k (change (empty_node certname))
  put_absent change [] zero below above = refl
  put_absent change [] (suc k) below above = refl
  put_absent change (n ∷ ns) zero below above =
      ap (λ p. match_ordering p (change (empty_node certname) ∷ node_seen n ∷ map node_seen ns) (change (node_seen n) ∷ map node_seen ns) (node_seen n ∷ with_node certname change (map node_seen ns))) (turned_less n.certname certname above.0)
  put_absent change (n ∷ ns) (suc k) below above =
      ap (λ p. match_ordering p (change (empty_node certname) ∷ node_seen n ∷ map node_seen ns) (change (node_seen n) ∷ map node_seen ns) (node_seen n ∷ with_node certname change (map node_seen ns))) (turned_greater n.certname certname below.0)
      ∙ ap (λ l. node_seen n ∷ l) (put_absent change ns k below.1 above)

-- ---- nodes in boxes, as they are searched

pub box_kept : (boxes : Boxes) (k : ℕ) (b : Box Node Global) (node : Node) → AllByRecursion IsNode (nodes_in boxes) → k < length boxes → b ≡ get_or boxes k b → node ≡ b.value → IsNode node
box_kept boxes k b node all within is value =
    subst IsNode (sym value) (All-Among IsNode (nodes_in boxes) b.value all (at_place (nodes_in boxes) k b.value (box_there boxes k b within is)))

module _ (boxes : Boxes) (s : InOrder (nodes_in boxes)) (seen : List machine.Node) (view : map node_seen (nodes_in boxes) ≡ seen)
    (slice : Boxes) (same : slice ≡ boxes) (name certname : List ℕ) (named : name ≡ certname) where
  pub moved : (at : Result ℕ ℕ) → IsPlaceOf name (nodes_in slice) at → IsPlaceOf certname (nodes_in boxes) at
  moved at place = subst (λ (p : List ℕ × Boxes). IsPlaceOf p.0 (nodes_in p.1) at) (λ i. (named i, same i)) place

  pub place_within : (k : ℕ) → IsPlaceOf name (nodes_in slice) (Ok k) → k < length boxes
  place_within k place = omega (arith, (moved (Ok k) place).0, length-map boxes (λ (x : Box Node Global). x.value))

  pub place_found : (k : ℕ) (b : Box Node Global) (node : Node) → b ≡ get_or boxes k b → node ≡ b.value → IsPlaceOf name (nodes_in slice) (Ok k) → find_node certname seen ≡ Some (node_seen node)
  place_found k b node is value place =
      let there = box_there boxes k b (place_within k place) is in
      ap (find_node certname) (sym view)
      ∙ found certname (nodes_in boxes) k b.value s there ((moved (Ok k) place).1 b.value there)
      ∙ ap (λ (n : Node). Some (node_seen n)) (sym value)

  pub place_absent : (k : ℕ) → IsPlaceOf name (nodes_in slice) (Err k) → find_node certname seen ≡ None
  place_absent k place =
      let at = moved (Err k) place in ap (find_node certname) (sym view) ∙ absent certname (nodes_in boxes) k at.1 at.2
