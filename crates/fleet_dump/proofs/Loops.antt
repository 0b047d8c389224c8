-- A loop that writes the items of one element after the other.
use Rattle.std.proofs.Common.{◌≡◌, ◌∙◌, ℕ, ◌+◌, List, [], ◌∷◌, ◌++◌, length, take, drop, get_or, sym, ap, subst, append-nil, take-append-drop, take_all, arith, Option, Some}
use Rattle.std.specs.List.{flat_map}
use Rattle.std.specs.Prelude.{slice_get}
use Rattle.std.proofs.lemmas.Grind.{flat_map-append}
use Rattle.std.proofs.lemmas.List.{drop_more, take_more}
use Rattle.std.proofs.lemmas.Option.{slice_get_within, get_or_from_slice_get}
use Rattle.dump_writer.specs.dump_spec.history_spec.Thread.{Item}
use Rattle.fleet_dump.specs.Printed.{items_text, Prints, PrintsLess, PrintsFront}
use Rattle.fleet_dump.proofs.Progress.{prints_both, less_behind, front_behind}

module _ {X : Type 0} (g : X → List Item) (xs : List X) (k : ℕ) (x : X) (there : slice_get xs k ≡ Some x) where
  here : x ≡ get_or xs k x
  here = sym (get_or_from_slice_get xs k x x there)

  one_more : flat_map g (take (k + 1) xs) ≡ flat_map g (take k xs) ++ g x
  one_more =
      ap (flat_map g) (take_more xs k x (slice_get_within xs k x there) ∙ ap (λ y. take k xs ++ y ∷ []) (sym here))
      ∙ flat_map-append g (take k xs) (x ∷ []) ∙ ap (λ t. flat_map g (take k xs) ++ t) (append-nil (g x))

  parts : flat_map g xs ≡ flat_map g (take k xs) ++ (g x ++ flat_map g (drop (k + 1) xs))
  parts =
      ap (flat_map g) (sym (take-append-drop k xs)) ∙ flat_map-append g (take k xs) (drop k xs)
      ∙ ap (λ t. flat_map g (take k xs) ++ flat_map g t) (drop_more xs k x (slice_get_within xs k x there) ∙ ap (λ y. y ∷ drop (k + 1) xs) (sym here))

  module _ (old mid : List ℕ) (a b c : Option (List ℕ)) (room left : ℕ) (so_far : Prints (flat_map g (take k xs)) old mid a b room left) where
    pub prints_more : (now : List ℕ) (more : ℕ) → Prints (g x) mid now b c left more → Prints (flat_map g (take (k + 1) xs)) old now a c room more
    prints_more now more p =
        subst (λ (items : List Item). Prints items old now a c room more) (sym one_more) (prints_both (flat_map g (take k xs)) (g x) old mid a b c now room left more so_far p)

    pub less_more : PrintsLess (mid ++ items_text (g x)) b c → PrintsLess (old ++ items_text (flat_map g xs)) a c
    less_more p =
        subst (λ (items : List Item). PrintsLess (old ++ items_text items) a c) (sym parts)
        (less_behind (flat_map g (take k xs)) (g x) old mid a b c (flat_map g (drop (k + 1) xs)) room left so_far p)

    pub front_more : PrintsFront (mid ++ items_text (g x)) b c → PrintsFront (old ++ items_text (flat_map g xs)) a c
    front_more p =
        subst (λ (items : List Item). PrintsFront (old ++ items_text items) a c) (sym parts)
        (front_behind (flat_map g (take k xs)) (g x) old mid a b c (flat_map g (drop (k + 1) xs)) room left so_far p)

pub prints_all : {X : Type 0} (g : X → List Item) (xs : List X) (k : ℕ) (old now : List ℕ) (a b : Option (List ℕ)) (room left : ℕ) → k ≡ length xs
    → Prints (flat_map g (take k xs)) old now a b room left → Prints (flat_map g xs) old now a b room left
prints_all g xs k old now a b room left all p =
    subst (λ ys. Prints (flat_map g ys) old now a b room left) (take_all k xs (omega (arith, all))) p
