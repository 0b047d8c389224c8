-- What a stable sort gives is what the definition gives, which inserts one by one.
use Rattle.std.proofs.Common.{◌≡◌, ◌∙◌, ℕ, suc, ◌+◌, ◌<◌, List, [], ◌∷◌, ◌++◌, length, take, map, get_or, refl, sym, ap, subst, Bool, true, false, not, ◌&&◌, Some, Ordering, arith, if◌then◌else◌}
use Rattle.std.specs.Prelude.{All, slice_get, filter}
use Rattle.std.specs.Ordering.{is_lt, is_gt, is_eq, ordering_reverse}
use Rattle.std.specs.declared.cmp.Ordering.TheVariants.{Less, Equal, Greater}
use Rattle.std.specs.List.Sorted.{IsPermutation, IsSortedBy, IsStableBy, ties}
use Rattle.std.specs.Cmp.{IsTotalOrder, IsStrictWeakOrder, Equal-is}
use Rattle.std.proofs.lemmas.Cmp.{tied_itself, alike_right, upto, on_total}
use Rattle.std.proofs.lemmas.List.{take_more, map-append}
use Rattle.std.proofs.lemmas.List.Elements.{All-append, All-cons, All-nil}
use Rattle.std.proofs.lemmas.Option.{get_or_from_slice_get, slice_get_within}
use Rattle.std.proofs.lemmas.List.Sorted.{ranks_by, sorted_far, All-permutation}
use Rattle.table_spec.specs.text_spec.Json.{Json, Members, no_members, member, members_list}
use Rattle.table_spec.specs.text_spec.Compact.{text_cmp, insert_member}
use Rattle.table_spec.specs.history_spec.Facts.{by_name}
use Rattle.row_cells.specs.Placed.{name_cmp}
use Rattle.table_spec.specs.Sorted.{insert_by, sorted_by}

module _ {A : Type 0} (cmp : A → A → Ordering) (o : IsTotalOrder cmp) where
  abbrev lt : A → A → Bool
  lt x y = is_lt (cmp x y)

  -- nothing in the list is below x
  abbrev From : A → List A → Type 0
  From x [] = Unit {0}
  From x (y ∷ ys) = (is_gt (cmp x y) ≡ false) × From x ys

  abbrev Up : List A → Type 0
  Up [] = Unit {0}
  Up (x ∷ xs) = From x xs × Up xs

  -- ---- the definition's list

  from-less : (x y : A) (ys : List A) → is_gt (cmp x y) ≡ false → From y ys → From x ys
  from-less x y [] h f = tt
  from-less x y (z ∷ zs) h f = (upto o x y z h f.0, from-less x y zs h f.1)

  gt_back : (r : Ordering) → is_gt r ≡ true → is_gt (ordering_reverse r) ≡ false
  gt_back Less h = cc
  gt_back Equal h = cc
  gt_back Greater h = refl

  below_it : (x y : A) → is_gt (cmp x y) ≡ true → is_gt (cmp y x) ≡ false
  below_it x y h = ap is_gt (o.antisymm y x) ∙ gt_back (cmp x y) h

  from_step : (b : Bool) (z x y : A) (ys more : List A) → is_gt (cmp z x) ≡ false → From z (y ∷ ys) → From z more → From z (if b then y ∷ more else x ∷ y ∷ ys)
  from_step true z x y ys more h f g = (f.0, g)
  from_step false z x y ys more h f g = (h, f)

  from-insert : (z x : A) (ys : List A) → is_gt (cmp z x) ≡ false → From z ys → From z (insert_by cmp x ys)
  from-insert z x [] h f = (h, tt)
  from-insert z x (y ∷ ys) h f = from_step (is_gt (cmp x y)) z x y ys (insert_by cmp x ys) h f (from-insert z x ys h f.1)

  up_step : (b : Bool) (x y : A) (ys : List A) → is_gt (cmp x y) ≡ b → Up (y ∷ ys) → Up (insert_by cmp x ys) → Up (if b then y ∷ insert_by cmp x ys else x ∷ y ∷ ys)
  up_step true x y ys e u v = (from-insert y x ys (below_it x y e) u.0, v)
  up_step false x y ys e u v = ((e, from-less x y ys e u.0), u)

  up-insert : (x : A) (ys : List A) → Up ys → Up (insert_by cmp x ys)
  up-insert x [] u = (tt, tt)
  up-insert x (y ∷ ys) u = up_step (is_gt (cmp x y)) x y ys refl u (up-insert x ys u.1)

  up-sorted : (xs : List A) → Up (sorted_by cmp xs)
  up-sorted [] = tt
  up-sorted (x ∷ xs) = up-insert x (sorted_by cmp xs) (up-sorted xs)

  -- what ties with z stands in the definition's list as it stood
  abbrev kept : A → List A → List A
  kept z = filter (ties lt z)

  tied : (r : Ordering) → (not (is_lt r) && not (is_lt (ordering_reverse r))) ≡ is_eq r
  tied Less = refl
  tied Equal = refl
  tied Greater = refl

  is_tied : (z x : A) → ties lt z x ≡ is_eq (cmp z x)
  is_tied z x = ap (λ r. not (is_lt (cmp z x)) && not (is_lt r)) (o.antisymm x z) ∙ tied (cmp z x)

  gt_equal : (r : Ordering) → is_gt r ≡ true → r ≡ Equal → ⊥
  gt_equal Less h e = cc
  gt_equal Equal h e = cc
  gt_equal Greater h e = cc

  both_tied : (z x y : A) → is_gt (cmp x y) ≡ true → ties lt z x ≡ true → ties lt z y ≡ true → ⊥
  both_tied z x y g h k =
      let zx : cmp z x ≡ Equal = (Equal-is (cmp z x)).0 (sym (is_tied z x) ∙ h) in
      let zy : cmp z y ≡ Equal = (Equal-is (cmp z y)).0 (sym (is_tied z y) ∙ k) in
      gt_equal (cmp x y) g (sym (o.congr z x y zx) ∙ zy)

  swapped : (b c : Bool) (x y : A) (rest : List A) → (b ≡ true → c ≡ true → ⊥)
      → (if c then y ∷ (if b then x ∷ rest else rest) else (if b then x ∷ rest else rest)) ≡ (if b then x ∷ (if c then y ∷ rest else rest) else (if c then y ∷ rest else rest))
  swapped true true x y rest h = absurd (h refl refl)
  swapped true false x y rest h = refl
  swapped false true x y rest h = refl
  swapped false false x y rest h = refl

  kept_step : (b : Bool) (z x y : A) (ys more : List A) → is_gt (cmp x y) ≡ b → kept z more ≡ kept z (x ∷ ys) → kept z (if b then y ∷ more else x ∷ y ∷ ys) ≡ kept z (x ∷ y ∷ ys)
  kept_step true z x y ys more e h =
      ap (λ l. if ties lt z y then y ∷ l else l) h ∙ swapped (ties lt z x) (ties lt z y) x y (kept z ys) (both_tied z x y e)
  kept_step false z x y ys more e h = refl

  kept-insert : (z x : A) (ys : List A) → kept z (insert_by cmp x ys) ≡ kept z (x ∷ ys)
  kept-insert z x [] = refl
  kept-insert z x (y ∷ ys) = kept_step (is_gt (cmp x y)) z x y ys (insert_by cmp x ys) refl (kept-insert z x ys)

  kept-sorted : (z : A) (xs : List A) → kept z (sorted_by cmp xs) ≡ kept z xs
  kept-sorted z [] = refl
  kept-sorted z (x ∷ xs) = kept-insert z x (sorted_by cmp xs) ∙ ap (λ l. if ties lt z x then x ∷ l else l) (kept-sorted z xs)

  -- ---- two lists that rise, and in which what ties stands alike

  itself : (x : A) → ties lt x x ≡ true
  itself x = is_tied x x ∙ ap is_eq (tied_itself o x)

  -- x is below y, and nothing in the list is below y: nothing there ties with x
  far : (s r : Ordering) (x y z : A) → cmp y z ≡ s → is_gt s ≡ false → cmp x y ≡ Less → cmp x z ≡ Less
  far Less r x y z e h l = o.trans x y z l e
  far Equal r x y z e h l = sym (alike_right o y z x e) ∙ l
  far Greater r x y z e h l = cc

  none_tied : (x y : A) (zs : List A) → cmp x y ≡ Less → From y zs → kept x zs ≡ []
  none_tied x y [] l f = refl
  none_tied x y (z ∷ zs) l f =
      let no : ties lt x z ≡ false = is_tied x z ∙ ap is_eq (far (cmp y z) (cmp y z) x y z refl f.0 l) in
      ap (λ b. if b then z ∷ kept x zs else kept x zs) no ∙ none_tied x y zs l f.1

  own_first : (x : A) (xs : List A) → kept x (x ∷ xs) ≡ x ∷ kept x xs
  own_first x xs = ap (λ b. if b then x ∷ kept x xs else kept x xs) (itself x)

  nil_cons : (x : A) (xs : List A) → [] ≡ x ∷ xs → ⊥
  nil_cons x xs h = cc

  -- the first of the one list is not below that of the other
  not_below : (x y : A) (xs ys : List A) → From y ys → kept x (x ∷ xs) ≡ kept x (y ∷ ys) → cmp x y ≡ Less → ⊥
  not_below x y xs ys f h l =
      nil_cons x (kept x xs) (sym (none_tied x y (y ∷ ys) l (ap is_gt (tied_itself o y), f)) ∙ sym h ∙ own_first x xs)

  neither : (r : Ordering) → (r ≡ Less → ⊥) → (ordering_reverse r ≡ Less → ⊥) → r ≡ Equal
  neither Less h g = absurd (h refl)
  neither Equal h g = refl
  neither Greater h g = absurd (g refl)

  tail_step : (b : Bool) (x : A) (xs ys : List A) → (if b then x ∷ xs else xs) ≡ (if b then x ∷ ys else ys) → xs ≡ ys
  tail_step true x xs ys h = cc
  tail_step false x xs ys h = h

  pub one_list : (xs ys : List A) → Up xs → Up ys → ((z : A) → kept z xs ≡ kept z ys) → xs ≡ ys
  one_list [] [] u v h = refl
  one_list [] (y ∷ ys) u v h = absurd (nil_cons y (kept y ys) (h y ∙ own_first y ys))
  one_list (x ∷ xs) [] u v h = absurd (nil_cons x (kept x xs) (sym (h x) ∙ own_first x xs))
  one_list (x ∷ xs) (y ∷ ys) u v h =
      let alike : cmp x y ≡ Equal =
      neither (cmp x y) (not_below x y xs ys v.0 (h x)) (λ e. not_below y x ys xs u.0 (sym (h y)) (o.antisymm y x ∙ e)) in
      let yes : ties lt x y ≡ true = is_tied x y ∙ ap is_eq alike in
      let heads : x ∷ kept x xs ≡ y ∷ kept x ys = sym (own_first x xs) ∙ h x ∙ ap (λ b. if b then y ∷ kept x ys else kept x ys) yes in
      let same : x ≡ y = cc in
      let rest : xs ≡ ys = one_list xs ys u.1 v.1 (λ z. tail_step (ties lt z x) x (kept z xs) (kept z ys) (h z ∙ ap (λ w. kept z (w ∷ ys)) (sym same))) in
      λ i. same i ∷ rest i

  -- ---- what the sort gives

  not_gt : (r : Ordering) → is_lt (ordering_reverse r) ≡ false → is_gt r ≡ false
  not_gt Less h = refl
  not_gt Equal h = refl
  not_gt Greater h = h

  from_order : (x : A) (xs : List A) → ((j : ℕ) (d : A) → j < length xs → lt (get_or xs j d) x ≡ false) → From x xs
  from_order x [] h = tt
  from_order x (y ∷ ys) h =
      (not_gt (cmp x y) (ap is_lt (sym (o.antisymm y x)) ∙ h 0 x (omega arith)), from_order x ys (λ j d l. h (suc j) d (omega arith)))

  order-tail : (x : A) (xs : List A) → IsSortedBy lt (x ∷ xs) → IsSortedBy lt xs
  order-tail x xs up k d l h =
      let e : suc k + 1 ≡ suc (k + 1) = omega arith in
      subst (λ n. lt (get_or (x ∷ xs) n d) (get_or xs k d) ≡ false) e (up (suc k) d (omega arith) (omega arith))

  weak : IsStrictWeakOrder lt
  weak = ranks_by o (λ (x : A). x)

  up_order : (xs : List A) → IsSortedBy lt xs → Up xs
  up_order [] up = tt
  up_order (x ∷ xs) up =
      (from_order x xs (λ j d l. sorted_far lt weak (x ∷ xs) up 0 (suc j) d (omega arith) (omega arith)), up_order xs (order-tail x xs up))

  pub sorted_lem : (xs ys : List A) → IsSortedBy lt ys → IsStableBy lt xs ys → ys ≡ sorted_by cmp xs
  sorted_lem xs ys up stable =
      one_list ys (sorted_by cmp xs) (up_order ys up) (up-sorted xs) (λ z. stable z ∙ sym (kept-sorted z xs))

-- ---- places in the order of what stands there

module _ {A P : Type 0} (f : P → A) where
  if_map : (b : Bool) (x y : P) (ys more : List P) (placed : List A) → map f more ≡ placed → map f (if b then y ∷ more else x ∷ y ∷ ys) ≡ (if b then f y ∷ placed else f x ∷ f y ∷ map f ys)
  if_map true x y ys more placed h = ap (λ l. f y ∷ l) h
  if_map false x y ys more placed h = refl

  map-insert : (cmp : A → A → Ordering) (x : P) (ys : List P) → map f (insert_by (λ p q. cmp (f p) (f q)) x ys) ≡ insert_by cmp (f x) (map f ys)
  map-insert cmp x [] = refl
  map-insert cmp x (y ∷ ys) =
      if_map (is_gt (cmp (f x) (f y))) x y ys (insert_by (λ p q. cmp (f p) (f q)) x ys) (insert_by cmp (f x) (map f ys)) (map-insert cmp x ys)

  map-sorted : (cmp : A → A → Ordering) (xs : List P) → map f (sorted_by (λ p q. cmp (f p) (f q)) xs) ≡ sorted_by cmp (map f xs)
  map-sorted cmp [] = refl
  map-sorted cmp (x ∷ xs) = map-insert cmp x (sorted_by (λ p q. cmp (f p) (f q)) xs) ∙ ap (insert_by cmp (f x)) (map-sorted cmp xs)

  all_got : (list : List A) (place : P → ℕ) (ps : List P) → All (λ p. slice_get list (place p) ≡ Some (f p)) ps → map (slice_get list) (map place ps) ≡ map (λ x. Some x) (map f ps)
  all_got list place [] h = refl
  all_got list place (p ∷ ps) h =
      λ i. h 0 p (omega arith) i ∷ all_got list place ps (λ k d l. h (suc k) d (omega arith)) i

  -- the places of what a stable sort by `cmp` gave
  pub places_lem :
      (cmp : A → A → Ordering) → IsTotalOrder cmp → (list : List A) (place : P → ℕ) (refs ys : List P) (places : List ℕ)
      → map f refs ≡ list → All (λ p. slice_get list (place p) ≡ Some (f p)) refs → IsPermutation refs ys
      → IsSortedBy (λ p q. is_lt (cmp (f p) (f q))) ys → IsStableBy (λ p q. is_lt (cmp (f p) (f q))) refs ys → places ≡ map place ys
      → map (slice_get list) places ≡ map (λ x. Some x) (sorted_by cmp list)
  places_lem cmp o list place refs ys places these got moved up stable is =
      ap (map (slice_get list)) is
      ∙ all_got list place ys (All-permutation (λ p. slice_get list (place p) ≡ Some (f p)) refs ys moved got)
      ∙ ap (λ l. map (λ x. Some x) (map f l)) (sorted_lem (λ p q. cmp (f p) (f q)) (on_total f o) refs ys up stable)
      ∙ ap (map (λ x. Some x)) (map-sorted cmp refs ∙ ap (sorted_by cmp) these)

  -- one more reference, and its place
  pub more_items : (xs : List A) (k : ℕ) (ps new : List P) (p : P) → new ≡ ps ++ p ∷ [] → slice_get xs k ≡ Some (f p) → map f ps ≡ take k xs → map f new ≡ take (k + 1) xs
  more_items xs k ps new p is e h =
      let here : f p ≡ get_or xs k (f p) = sym (get_or_from_slice_get xs k (f p) (f p) e) in
      ap (map f) is ∙ map-append f ps (p ∷ []) ∙ (λ i. h i ++ here i ∷ []) ∙ sym (take_more xs k (f p) (slice_get_within xs k (f p) e))

  pub more_places : (xs : List A) (place : P → ℕ) (ps new : List P) (p : P) → new ≡ ps ++ p ∷ [] → slice_get xs (place p) ≡ Some (f p) → All (λ q. slice_get xs (place q) ≡ Some (f q)) ps → All (λ q. slice_get xs (place q) ≡ Some (f q)) new
  more_places xs place ps new p is e h =
      let Q : P → Type 0 = λ q. slice_get xs (place q) ≡ Some (f q) in
      subst (All Q) (sym is) (All-append Q ps (p ∷ []) h (All-cons Q p [] e (All-nil Q)))

-- ---- what stands at places

pub places_within : {A : Type 0} (list xs : List A) (places : List ℕ) → map (slice_get list) places ≡ map (λ x. Some x) xs → All (λ k. k < length list) places
places_within list xs [] h = All-nil (λ k. k < length list)
places_within list [] (p ∷ ps) h = cc
places_within list (x ∷ xs) (p ∷ ps) h =
    let first : slice_get list p ≡ Some x = cc in
    let rest : map (slice_get list) ps ≡ map (λ y. Some y) xs = cc in
    All-cons (λ k. k < length list) p ps (slice_get_within list p x first) (places_within list xs ps rest)

pub known_items : {A P : Type 0} (f : P → A) (ps : List P) (xs : List A) → map (λ p. Some (f p)) ps ≡ map (λ x. Some x) xs → map f ps ≡ xs
known_items f [] [] h = refl
known_items f [] (x ∷ xs) h = cc
known_items f (p ∷ ps) [] h = cc
known_items f (p ∷ ps) (x ∷ xs) h =
    let first : f p ≡ x = cc in
    let rest : map (λ q. Some (f q)) ps ≡ map (λ y. Some y) xs = cc in
    λ i. first i ∷ known_items f ps xs rest i

pub mapped_items : {A B P : Type 0} (f : P → A) (g : A → B) (ps : List P) (xs : List A) → map f ps ≡ xs → map (λ p. g (f p)) ps ≡ map g xs
mapped_items f g [] xs h = ap (map g) h
mapped_items f g (p ∷ ps) xs h = ap (λ l. g (f p) ∷ l) (mapped_items f g ps (map f ps) refl) ∙ ap (map g) h

-- one more place
pub more_picked : {A P : Type 0} (g : ℕ → A) (f : P → A) (places : List ℕ) (k : ℕ) (old new : List P) (p : P) → new ≡ old ++ p ∷ [] → k < length places → f p ≡ g (get_or places k 0) → map f old ≡ map g (take k places) → map f new ≡ map g (take (k + 1) places)
more_picked g f places k old new p is lt e h =
    ap (map f) is ∙ map-append f old (p ∷ []) ∙ (λ i. h i ++ e i ∷ [])
    ∙ sym (ap (map g) (take_more places k 0 lt) ∙ map-append g (take k places) (get_or places k 0 ∷ []))

-- ---- members by name

name_step : (b : Bool) (m n : List ℕ × Json) (more : Members) (ns : Members) (placed : List (List ℕ × Json)) → members_list more ≡ placed
    → members_list (if b then member n.0 n.1 more else member m.0 m.1 (member n.0 n.1 ns)) ≡ (if b then n ∷ placed else m ∷ n ∷ members_list ns)
name_step true m n more ns placed h = ap (λ l. n ∷ l) h
name_step false m n more ns placed h = refl

insert-name : (m : List ℕ × Json) (ns : Members) → members_list (insert_member m.0 m.1 ns) ≡ insert_by name_cmp m (members_list ns)
insert-name m no_members = refl
insert-name m (member k j ns) =
    name_step (is_gt (text_cmp m.0 k)) m (k, j) (insert_member m.0 m.1 ns) ns (insert_by name_cmp m (members_list ns)) (insert-name m ns)

pub sorted-by_name : (ms : List (List ℕ × Json)) → sorted_by name_cmp ms ≡ members_list (by_name ms)
sorted-by_name [] = refl
sorted-by_name (m ∷ ms) = ap (insert_by name_cmp m) (sorted-by_name ms) ∙ sym (insert-name m (by_name ms))
