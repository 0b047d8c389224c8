-- Nodes in groups: the group at a place, and what stands before and behind it.
use Rattle.std.proofs.Common.{◌≡◌, ◌∙◌, ℕ, zero, suc, ◌+◌, ◌<◌, List, [], ◌∷◌, ◌++◌, length, take, drop, map, slice_get, Some, None, Bool, true, false, not, cond, ◌==◌, refl, sym, ap, subst, arith, append_assoc, append-nil, add-one, inl, inr}
use Rattle.std.specs.List.{AllByRecursion, filter, insert}
use Rattle.std.specs.Ordering.{match_ordering, is_gt}
use Rattle.std.specs.declared.cmp.Ordering.{Ordering}
use Rattle.std.specs.declared.cmp.Ordering.TheVariants.{Less, Equal, Greater}
use Rattle.std.proofs.Math.ListN.{set}
use Rattle.std.proofs.lemmas.List.{map-append}
use Rattle.std.proofs.lemmas.List.Elements.{filter-append}
use Rattle.std.proofs.lemmas.Bool.{ne_eqb}
use Rattle.checkpoint_spec.proofs.of_plain_laws.Orderings.{greater_is}
use Rattle.checkpoint_spec.specs.text_spec.Compact.{text_cmp}
use Rattle.checkpoint_spec.proofs.of_history_laws.Members.{Among, All-from_Among}
use Rattle.checkpoint_spec.proofs.of_history_laws.SortedTexts.{text_cmp_total, text_tied, turned_less}
use Rattle.checkpoint_spec.proofs.of_history_laws.StrictlySorted.{sorted-below, sorted-rest}
use Rattle.checkpoint_spec.specs.table_machine.Table.{Node, node_cmp}
use Rattle.checkpoint_spec.specs.table_machine.Steps.{empty_node, find_node, with_node}
use Rattle.fleet_tables.specs.Groups.{joined, IsFilled, AreFilledOrOne, StandInOrder, starts_above, AreBelow, AreAbove}
use Rattle.checkpoint_spec.proofs.ListLaws.{turned_greater}
use Rattle.kept_nodes.proofs.PutNodes.{all-set}

abbrev pub Groups : Type 0
Groups = List (List Node)

-- ---- parts

pub parted : (groups : Groups) (k : ℕ) (g : List Node) → slice_get groups k ≡ Some g → joined groups ≡ joined (take k groups) ++ (g ++ joined (drop (suc k) groups))
parted [] k g e = cc
parted (h ∷ hs) zero g e = let same : h ≡ g = cc in ap (λ x. x ++ joined hs) same
parted (h ∷ hs) (suc k) g e = ap (λ x. h ++ x) (parted hs k g e) ∙ sym (append_assoc h (joined (take k hs)) (g ++ joined (drop (suc k) hs)))

pub parted_set : (groups : Groups) (k : ℕ) (g : List Node) → k < length groups → joined (set groups k g) ≡ joined (take k groups) ++ (g ++ joined (drop (suc k) groups))
parted_set [] k g h = absurd (omega (arith, h))
parted_set (x ∷ xs) zero g h = refl
parted_set (x ∷ xs) (suc k) g h =
    ap (λ y. x ++ y) (parted_set xs k g (omega (arith, h))) ∙ sym (append_assoc x (joined (take k xs)) (g ++ joined (drop (suc k) xs)))

pub dropped : (groups : Groups) (k : ℕ) (g : List Node) → slice_get groups k ≡ Some g → joined (drop k groups) ≡ g ++ joined (drop (suc k) groups)
dropped [] k g e = cc
dropped (h ∷ hs) zero g e = let same : h ≡ g = cc in ap (λ x. x ++ joined hs) same
dropped (h ∷ hs) (suc k) g e = dropped hs k g e

pub taken : (groups : Groups) (k : ℕ) (g : List Node) → slice_get groups k ≡ Some g → joined (take (suc k) groups) ≡ joined (take k groups) ++ g
taken [] k g e = cc
taken (h ∷ hs) zero g e = let same : h ≡ g = cc in append-nil h ∙ same
taken (h ∷ hs) (suc k) g e = ap (λ x. h ++ x) (taken hs k g e) ∙ sym (append_assoc h (joined (take k hs)) g)

-- a group that is split
pub split_joined : (groups : Groups) (k : ℕ) (g lower upper : List Node) → slice_get groups k ≡ Some g → lower ++ upper ≡ g → joined (insert (set groups k lower) (suc k) upper) ≡ joined groups
split_joined [] k g lower upper e f = cc
split_joined (h ∷ hs) zero g lower upper e f =
    let same : h ≡ g = cc in sym (append_assoc lower upper (joined hs)) ∙ ap (λ x. x ++ joined hs) (f ∙ sym same)
split_joined (h ∷ hs) (suc k) g lower upper e f = ap (λ x. h ++ x) (split_joined hs k g lower upper e f)

-- ---- steps that take each node for itself

pub filter_joined : (p : Node → Bool) (groups : Groups) → joined (map (filter p) groups) ≡ filter p (joined groups)
filter_joined p [] = refl
filter_joined p (g ∷ gs) = ap (λ x. filter p g ++ x) (filter_joined p gs) ∙ sym (filter-append p g (joined gs))

pub map_joined : (f : Node → Node) (groups : Groups) → joined (map (map f) groups) ≡ map f (joined groups)
map_joined f [] = refl
map_joined f (g ∷ gs) = ap (λ x. map f g ++ x) (map_joined f gs) ∙ sym (map-append f g (joined gs))

pub map_filled : (f : Node → Node) (groups : Groups) → AllByRecursion IsFilled groups → AllByRecursion IsFilled (map (map f) groups)
map_filled f [] h = tt
map_filled f ([] ∷ gs) h = absurd (omega (arith, h.0))
map_filled f ((n ∷ ns) ∷ gs) h = (omega arith, map_filled f gs h.1)

-- groups of no node have no part in them
abbrev pub has_nodes : List Node → Bool
has_nodes group = not (length group == 0)

some_nodes : (n : Node) (ns : List Node) → has_nodes (n ∷ ns) ≡ true
some_nodes n ns = ap not (ne_eqb (length (n ∷ ns)) 0 (λ e. omega (arith, e)))

pub filled_joined : (groups : Groups) → joined (filter has_nodes groups) ≡ joined groups
filled_joined [] = refl
filled_joined ([] ∷ gs) = filled_joined gs
filled_joined ((n ∷ ns) ∷ gs) =
    ap (λ b. joined (cond b ((n ∷ ns) ∷ filter has_nodes gs) (filter has_nodes gs))) (some_nodes n ns) ∙ ap (λ x. (n ∷ ns) ++ x) (filled_joined gs)

pub all_filled : (groups : Groups) → AllByRecursion IsFilled (filter has_nodes groups)
all_filled [] = tt
all_filled ([] ∷ gs) = all_filled gs
all_filled ((n ∷ ns) ∷ gs) =
    subst (λ b. AllByRecursion IsFilled (cond b ((n ∷ ns) ∷ filter has_nodes gs) (filter has_nodes gs))) (sym (some_nodes n ns)) (omega arith, all_filled gs)

pub filled_or_one : (groups : Groups) → AllByRecursion IsFilled groups → AreFilledOrOne groups
filled_or_one [] h = tt
filled_or_one (g ∷ []) h = tt
filled_or_one (g ∷ i ∷ gs) h = h

all_at : (groups : Groups) (k : ℕ) (g : List Node) → AllByRecursion IsFilled groups → slice_get groups k ≡ Some g → IsFilled g
all_at [] k g h e = cc
all_at (x ∷ xs) zero g h e = let same : x ≡ g = cc in subst IsFilled same h.0
all_at (x ∷ xs) (suc k) g h e = all_at xs k g h.1 e

pub filled_at : (groups : Groups) (k : ℕ) (g : List Node) → AreFilledOrOne groups → 0 < k → slice_get groups k ≡ Some g → IsFilled g
filled_at [] k g h some e = cc
filled_at (x ∷ []) zero g h some e = absurd (omega (arith, some))
filled_at (x ∷ []) (suc k) g h some e = cc
filled_at (x ∷ y ∷ ys) k g h some e = all_at (x ∷ y ∷ ys) k g h e

-- where there is no node there is no group
pub no_groups : (groups : Groups) → AllByRecursion IsFilled groups → joined groups ≡ [] → groups ≡ []
no_groups [] h e = refl
no_groups ([] ∷ gs) h e = absurd (omega (arith, h.0))
no_groups ((n ∷ ns) ∷ gs) h e = cc

-- ---- a certname below or above groups

not_greater : (p : Ordering) (certname : List ℕ) (m n : Node) → text_cmp n.certname certname ≡ p → is_gt p ≡ false → text_cmp m.certname n.certname ≡ Less → text_cmp m.certname certname ≡ Less
not_greater Less certname m n e h below = text_cmp_total.trans m.certname n.certname certname below e
not_greater Equal certname m n e h below = ap (text_cmp m.certname) (sym (text_tied n.certname certname e)) ∙ below
not_greater Greater certname m n e h below = cc

amid : (xs : List Node) (n : Node) (ys : List Node) → Among n (xs ++ (n ∷ ys))
amid [] n ys = inl refl
amid (x ∷ xs) n ys = inr (amid xs n ys)

rest_in_order : (xs ys : List Node) → StandInOrder (xs ++ ys) → StandInOrder ys
rest_in_order [] ys s = s
rest_in_order (x ∷ xs) ys s = rest_in_order xs ys (sorted-rest node_cmp x (xs ++ ys) s)

module _ (certname : List ℕ) where
  all_below : (xs : List Node) (n : Node) (ys : List Node) → StandInOrder (xs ++ (n ∷ ys)) → is_gt (text_cmp n.certname certname) ≡ false → AreBelow certname xs
  all_below [] n ys s h = tt
  all_below (x ∷ xs) n ys s h = (
    not_greater (text_cmp n.certname certname) certname x n refl h (sorted-below node_cmp x (xs ++ (n ∷ ys)) s n (amid xs n ys)),
    all_below xs n ys (sorted-rest node_cmp x (xs ++ (n ∷ ys)) s) h,
  )

  one_above : (n m : Node) (ns : List Node) → StandInOrder (n ∷ ns) → text_cmp n.certname certname ≡ Greater → Among m ns → text_cmp m.certname certname ≡ Greater
  one_above n m ns s e a =
      turned_greater certname m.certname (text_cmp_total.trans certname n.certname m.certname (turned_less n.certname certname e) (sorted-below node_cmp n ns s m a))

  all_above : (n : Node) (ns : List Node) → StandInOrder (n ∷ ns) → text_cmp n.certname certname ≡ Greater → AreAbove certname (n ∷ ns)
  all_above n ns s e = (e, All-from_Among (λ (m : Node). text_cmp m.certname certname ≡ Greater) ns (λ m a. one_above n m ns s e a))

  -- a group that doesn't start above the certname has all groups before it below
  pub groups_below : (groups : Groups) (k : ℕ) (g : List Node) → slice_get groups k ≡ Some g → StandInOrder (joined groups) → IsFilled g → starts_above certname g ≡ false → AreBelow certname (joined (take k groups))
  groups_below groups k [] e s filled h = absurd (omega (arith, filled))
  groups_below groups k (n ∷ ns) e s filled h =
      all_below (joined (take k groups)) n (ns ++ joined (drop (suc k) groups)) (subst StandInOrder (parted groups k (n ∷ ns) e) s) h

  -- and one that does is above it with all groups behind it
  pub groups_above : (groups : Groups) (k : ℕ) (g : List Node) → slice_get groups k ≡ Some g → StandInOrder (joined groups) → starts_above certname g ≡ true → AreAbove certname (joined (drop k groups))
  groups_above groups k [] e s h = cc
  groups_above groups k (n ∷ ns) e s h =
      let behind : StandInOrder (n ∷ (ns ++ joined (drop (suc k) groups))) = rest_in_order (joined (take k groups)) ((n ∷ ns) ++ joined (drop (suc k) groups)) (subst StandInOrder (parted groups k (n ∷ ns) e) s) in
      subst (AreAbove certname) (sym (dropped groups k (n ∷ ns) e)) (all_above n (ns ++ joined (drop (suc k) groups)) behind (greater_is (text_cmp n.certname certname) h))

  -- ---- the group in which a node stands has what the machine finds and puts

  find_above : (ns : List Node) → AreAbove certname ns → find_node certname ns ≡ None
  find_above [] h = refl
  find_above (n ∷ ns) h = ap (λ p. match_ordering p None (Some n) (find_node certname ns)) (turned_less n.certname certname h.0)

  find_before : (ns rest : List Node) → AreAbove certname rest → find_node certname (ns ++ rest) ≡ find_node certname ns
  find_before [] rest h = find_above rest h
  find_before (n ∷ ns) rest h = ap (λ o. match_ordering (text_cmp certname n.certname) None (Some n) o) (find_before ns rest h)

  find_behind : (ns rest : List Node) → AreBelow certname ns → find_node certname (ns ++ rest) ≡ find_node certname rest
  find_behind [] rest h = refl
  find_behind (n ∷ ns) rest h =
      ap (λ p. match_ordering p None (Some n) (find_node certname (ns ++ rest))) (turned_greater n.certname certname h.0) ∙ find_behind ns rest h.1

  module _ (change : Node → Node) where
    abbrev new : Node
    new = change (empty_node certname)

    abbrev at_node : Ordering → Node → List Node → Node → List Node → List Node
    at_node p n ns m rest = match_ordering p (new ∷ n ∷ ns) (m ∷ ns) (n ∷ rest)

    put_above : (ns : List Node) → AreAbove certname ns → with_node certname change ns ≡ new ∷ ns
    put_above [] h = refl
    put_above (n ∷ ns) h = ap (λ p. at_node p n ns (change n) (with_node certname change ns)) (turned_less n.certname certname h.0)

    put_step : (p : Ordering) (n : Node) (ns rest : List Node) → with_node certname change (ns ++ rest) ≡ with_node certname change ns ++ rest
        → at_node p n (ns ++ rest) (change n) (with_node certname change (ns ++ rest)) ≡ at_node p n ns (change n) (with_node certname change ns) ++ rest
    put_step Less n ns rest e = refl
    put_step Equal n ns rest e = refl
    put_step Greater n ns rest e = ap (λ x. n ∷ x) e

    put_before : (ns rest : List Node) → AreAbove certname rest → with_node certname change (ns ++ rest) ≡ with_node certname change ns ++ rest
    put_before [] rest h = put_above rest h
    put_before (n ∷ ns) rest h = put_step (text_cmp certname n.certname) n ns rest (put_before ns rest h)

    put_behind : (ns rest : List Node) → AreBelow certname ns → with_node certname change (ns ++ rest) ≡ ns ++ with_node certname change rest
    put_behind [] rest h = refl
    put_behind (n ∷ ns) rest h =
        ap (λ p. at_node p n (ns ++ rest) (change n) (with_node certname change (ns ++ rest))) (turned_greater n.certname certname h.0)
        ∙ ap (λ x. n ∷ x) (put_behind ns rest h.1)

  -- ---- the same of the group at a place

  module _ (groups : Groups) (k : ℕ) (g : List Node) (there : slice_get groups k ≡ Some g)
      (below : AreBelow certname (joined (take k groups))) (above : AreAbove certname (joined (drop (k + 1) groups))) where
    above_it : AreAbove certname (joined (drop (suc k) groups))
    above_it = subst (λ i. AreAbove certname (joined (drop i groups))) (add-one k) above

    pub found_in : find_node certname (joined groups) ≡ find_node certname g
    found_in =
        ap (find_node certname) (parted groups k g there)
        ∙ find_behind (joined (take k groups)) (g ++ joined (drop (suc k) groups)) below
        ∙ find_before g (joined (drop (suc k) groups)) above_it

    pub put_parted : (change : Node → Node) → with_node certname change (joined groups) ≡ joined (take k groups) ++ (with_node certname change g ++ joined (drop (suc k) groups))
    put_parted change =
        ap (with_node certname change) (parted groups k g there)
        ∙ put_behind change (joined (take k groups)) (g ++ joined (drop (suc k) groups)) below
        ∙ ap (λ x. joined (take k groups) ++ x) (put_before change g (joined (drop (suc k) groups)) above_it)

    pub put_in : (change : Node → Node) → k < length groups → joined (set groups k (with_node certname change g)) ≡ with_node certname change (joined groups)
    put_in change within = parted_set groups k (with_node certname change g) within ∙ sym (put_parted change)

-- a group with a node that comes or is changed is filled
put_fills : (certname : List ℕ) (change : Node → Node) (p : Ordering) (n : Node) (ns rest : List Node) → 0 < length (match_ordering p (change (empty_node certname) ∷ n ∷ ns) (change n ∷ ns) (n ∷ rest))
put_fills certname change Less n ns rest = omega arith
put_fills certname change Equal n ns rest = omega arith
put_fills certname change Greater n ns rest = omega arith

pub put_filled : (certname : List ℕ) (change : Node → Node) (ns : List Node) → IsFilled (with_node certname change ns)
put_filled certname change [] = omega arith
put_filled certname change (n ∷ ns) = put_fills certname change (text_cmp certname n.certname) n ns (with_node certname change ns)

-- so all groups are filled then
pub filled_set : (groups : Groups) (k : ℕ) (g : List Node) → AreFilledOrOne groups → k < length groups → IsFilled g → AllByRecursion IsFilled (set groups k g)
filled_set [] k g h within f = absurd (omega (arith, within))
filled_set (x ∷ []) zero g h within f = (f, tt)
filled_set (x ∷ []) (suc k) g h within f = absurd (omega (arith, within))
filled_set (x ∷ y ∷ ys) k g h within f = all-set IsFilled (x ∷ y ∷ ys) k g h f
