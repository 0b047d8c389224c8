-- Nodes stand by their certnames, so that a comparison with one node tells where a certname stands to all on one side of it.
use Rattle.std.proofs.Common.{◌≡◌, ◌∙◌, ℕ, zero, suc, ◌+◌, ◌<◌, List, [], ◌∷◌, length, take, drop, map, get_or, slice_get, Some, refl, sym, ap, arith, add-one, inl, inr}
use Rattle.std.specs.List.{AllByRecursion}
use Rattle.std.specs.declared.alloc.Global.{Global}
use Rattle.std.specs.declared.boxed.Box.{Box}
use Rattle.std.specs.declared.cmp.Ordering.TheVariants.{Less, Equal, Greater}
use Rattle.std.proofs.lemmas.List.{get_or-map, length-map}
use Rattle.std.specs.Option.{option_map}
use Rattle.std.proofs.lemmas.Option.{get_or_from_slice_get, slice_get-map, slice_get_read}
use Rattle.checkpoint_spec.specs.text_spec.Compact.{text_cmp}
use Rattle.checkpoint_spec.proofs.of_history_laws.Members.{Among, All-from_Among, Among-map}
use Rattle.checkpoint_spec.proofs.of_history_laws.SortedTexts.{text_cmp_total, text_tied, turned_less}
use Rattle.checkpoint_spec.proofs.of_history_laws.StrictlySorted.{sorted-below, sorted-rest}
use Rattle.checkpoint_spec.specs.table_machine.Table.{node_cmp}
use Rattle.checkpoint_spec.proofs.ListLaws.{turned_greater}
use Rattle.kept_nodes.specs.Places.{Boxes, nodes_in, InOrder}
use Rattle.kept_nodes.specs.Seen.{node_seen}
use Rattle.kept_nodes.specs.declared.node.Node.{Node}

at_place : {X : Type 0} (xs : List X) (k : ℕ) (d : X) → k < length xs → Among (get_or xs k d) xs
at_place [] k d h = absurd (omega (arith, h))
at_place (x ∷ xs) zero d h = inl refl
at_place (x ∷ xs) (suc k) d h = inr (at_place xs k d (omega (arith, h)))

pub above_first : (n m : Node) (ns : List Node) → InOrder (n ∷ ns) → Among m ns → text_cmp n.certname m.certname ≡ Less
above_first n m ns s a = sorted-below node_cmp (node_seen n) (map node_seen ns) s (node_seen m) (Among-map node_seen ns m a)

pub behind_first : (n : Node) (ns : List Node) → InOrder (n ∷ ns) → InOrder ns
behind_first n ns s = sorted-rest node_cmp (node_seen n) (map node_seen ns) s

-- the node in a box
pub box_there : (boxes : Boxes) (k : ℕ) (b : Box Node Global) → k < length boxes → b ≡ get_or boxes k b → slice_get (nodes_in boxes) k ≡ Some b.value
box_there boxes k b within is =
    slice_get-map (λ (x : Box Node Global). x.value) boxes k
    ∙ ap (option_map (λ (x : Box Node Global). x.value)) (slice_get_read boxes (length boxes) k b refl within is)

pub box_at : (boxes : Boxes) (k : ℕ) (b : Box Node Global) → k < length boxes → b ≡ get_or boxes k b → get_or (nodes_in boxes) k b.value ≡ b.value
box_at boxes k b within is = get_or-map (λ (x : Box Node Global). x.value) boxes k b b.value within ∙ ap (λ (x : Box Node Global). x.value) (sym is)

module _ (certname : List ℕ) where
  abbrev pub AreBelow : List Node → Type 0
  AreBelow = AllByRecursion (λ (node : Node). text_cmp node.certname certname ≡ Less)

  abbrev pub AreAbove : List Node → Type 0
  AreAbove = AllByRecursion (λ (node : Node). text_cmp node.certname certname ≡ Greater)

  -- a node below the certname, and all before it
  below_to : (nodes : List Node) (k : ℕ) (d : Node) → InOrder nodes → k < length nodes → text_cmp (get_or nodes k d).certname certname ≡ Less → AreBelow (take (suc k) nodes)
  below_to [] k d s h e = absurd (omega (arith, h))
  below_to (n ∷ ns) zero d s h e = (e, tt)
  below_to (n ∷ ns) (suc k) d s h e =
      let within : k < length ns = omega (arith, h) in (
        text_cmp_total.trans n.certname (get_or ns k d).certname certname (above_first n (get_or ns k d) ns s (at_place ns k d within)) e,
        below_to ns k d (behind_first n ns s) within e,
      )

  all_above : (n m : Node) (ns : List Node) → InOrder (n ∷ ns) → text_cmp n.certname certname ≡ Greater → Among m ns → text_cmp m.certname certname ≡ Greater
  all_above n m ns s e a =
      turned_greater certname m.certname (text_cmp_total.trans certname n.certname m.certname (turned_less n.certname certname e) (above_first n m ns s a))

  -- a node above it, and all behind that
  above_from : (nodes : List Node) (k : ℕ) (d : Node) → InOrder nodes → k < length nodes → text_cmp (get_or nodes k d).certname certname ≡ Greater → AreAbove (drop k nodes)
  above_from [] k d s h e = absurd (omega (arith, h))
  above_from (n ∷ ns) zero d s h e = (e, All-from_Among (λ (node : Node). text_cmp node.certname certname ≡ Greater) ns (λ m a. all_above n m ns s e a))
  above_from (n ∷ ns) (suc k) d s h e = above_from ns k d (behind_first n ns s) (omega (arith, h)) e

  -- the same of nodes in boxes, at the one that was compared
  module _ (boxes : Boxes) (k : ℕ) (b : Box Node Global) (s : InOrder (nodes_in boxes)) (within : k < length boxes) (is : b ≡ get_or boxes k b) where
    value_at : get_or (nodes_in boxes) k b.value ≡ b.value
    value_at = box_at boxes k b within is

    within_nodes : k < length (nodes_in boxes)
    within_nodes = omega (arith, within, length-map boxes (λ (x : Box Node Global). x.value))

    pub box_below : text_cmp b.value.certname certname ≡ Less → AreBelow (take (k + 1) (nodes_in boxes))
    box_below e = rw add-one (below_to (nodes_in boxes) k b.value s within_nodes (ap (λ (n : Node). text_cmp n.certname certname) value_at ∙ e))

    pub box_above : text_cmp b.value.certname certname ≡ Greater → AreAbove (drop k (nodes_in boxes))
    box_above e = above_from (nodes_in boxes) k b.value s within_nodes (ap (λ (n : Node). text_cmp n.certname certname) value_at ∙ e)

    pub box_equal : text_cmp b.value.certname certname ≡ Equal → (node : Node) → slice_get (nodes_in boxes) k ≡ Some node → node.certname ≡ certname
    box_equal e node f =
        ap (λ (n : Node). n.certname) (sym (get_or_from_slice_get (nodes_in boxes) k node b.value f) ∙ value_at) ∙ text_tied b.value.certname certname e
