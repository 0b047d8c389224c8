-- In a sorted list the elements that compare as equal to what is sought stand together: their run begins behind those that are
-- below it. How many these are doesn't depend on the order.
use Rattle.std.proofs.Common.{◌≡◌, ◌∙◌, ℕ, zero, suc, ◌+◌, ◌<◌, ◌≤◌, List, [], ◌∷◌, Bool, true, false, length, take, map, slice_get, Some, refl, sym, ap, arith, add-one, if◌then◌else◌}
use Rattle.std.specs.Prelude.{filter}
use Rattle.std.specs.Option.{option_map}
use Rattle.std.specs.Cmp.{IsTotalOrder}
use Rattle.std.specs.List.{AllByRecursion}
use Rattle.std.specs.Ordering.{is_lt, is_le, is_eq, is_gt, ordering_reverse}
use Rattle.std.specs.declared.cmp.Ordering.{Ordering}
use Rattle.std.specs.declared.cmp.Ordering.TheVariants.{Less, Equal, Greater}
use Rattle.std.proofs.lemmas.Cmp.{alike_right, upto}
use Rattle.std.proofs.lemmas.List.{length-map}
use Rattle.checkpoint_spec.proofs.of_plain_laws.Members.{all_at, all_as}
use Rattle.checkpoint_spec.proofs.of_plain_laws.Options.{mapped_some}
use Rattle.checkpoint_spec.specs.table_spec.Sorted.{insert_by, sorted_by}
use Rattle.kept_nodes.specs.Runs.{number, as_one, is_before}
use Rattle.kept_nodes.specs.Spans.{places_from, neighbours, IsSpanOf}
use Rattle.kept_nodes.specs.declared.wanted.Span.{Span}
use Rattle.kept_nodes.proofs.PlaceLaws.{no_places}

-- ---- numbers

module _ {A : Type 0} (test : A → Bool) where
  no_number : (xs : List A) → AllByRecursion (λ x. test x ≡ false) xs → number test xs ≡ 0
  no_number [] h = refl
  no_number (x ∷ xs) h = ap (λ b. length (if b then x ∷ filter test xs else filter test xs)) h.0 ∙ no_number xs h.1

  most_step : (b : Bool) (x : A) (xs : List A) → number test xs ≤ length xs → length (if b then x ∷ filter test xs else filter test xs) ≤ suc (length xs)
  most_step true x xs h = omega (arith, h)
  most_step false x xs h = omega (arith, h)

  pub at_most_all : (xs : List A) → number test xs ≤ length xs
  at_most_all [] = omega arith
  at_most_all (x ∷ xs) = most_step (test x) x xs (at_most_all xs)

  abbrev one_if : Bool → ℕ
  one_if b = if b then 1 else 0

  cons_number : (b : Bool) (y : A) (d : ℕ) (ys zs : List A) → length zs ≡ length ys + d → length (if b then y ∷ zs else zs) ≡ length (if b then y ∷ ys else ys) + d
  cons_number true y d ys zs h = omega (arith, h)
  cons_number false y d ys zs h = h

  one_number : (b : Bool) (x : A) → length (if b then x ∷ [] else []) ≡ 0 + one_if b
  one_number true x = refl
  one_number false x = refl

  number_more : (xs : List A) (j : ℕ) (x : A) → slice_get xs j ≡ Some x → number test (take (suc j) xs) ≡ number test (take j xs) + one_if (test x)
  number_more [] j x e = cc
  number_more (y ∷ ys) zero x e = let same : y ≡ x = cc in one_number (test y) y ∙ ap (λ (z : A). 0 + one_if (test z)) same
  number_more (y ∷ ys) (suc j) x e = cons_number (test y) y (one_if (test x)) (filter test (take j ys)) (filter test (take (suc j) ys)) (number_more ys j x e)

  -- one more that is counted, or isn't
  pub number_one_more : (xs : List A) (j : ℕ) (x : A) → slice_get xs j ≡ Some x → test x ≡ true → number test (take (j + 1) xs) ≡ number test (take j xs) + 1
  number_one_more xs j x e t = rw add-one (number_more xs j x e ∙ ap (λ b. number test (take j xs) + one_if b) t)

  pub number_no_more : (xs : List A) (j : ℕ) (x : A) → slice_get xs j ≡ Some x → test x ≡ false → number test (take (j + 1) xs) ≡ number test (take j xs)
  number_no_more xs j x e t =
      let none : number test (take j xs) + 0 ≡ number test (take j xs) = omega arith in
      rw add-one (number_more xs j x e ∙ ap (λ b. number test (take j xs) + one_if b) t ∙ none)

  -- ---- sorting changes no number

  swap_step : (a b : Bool) (x y : A) (ys zs : List A) → length zs ≡ length (if a then x ∷ ys else ys) → length (if b then y ∷ zs else zs) ≡ length (if a then x ∷ (if b then y ∷ ys else ys) else (if b then y ∷ ys else ys))
  swap_step true true x y ys zs h = ap suc h
  swap_step true false x y ys zs h = h
  swap_step false true x y ys zs h = ap suc h
  swap_step false false x y ys zs h = h

  module _ (cmp : A → A → Ordering) where
    insert_step : (b : Bool) (x y : A) (ys : List A) → number test (insert_by cmp x ys) ≡ number test (x ∷ ys)
        → number test (if b then y ∷ insert_by cmp x ys else x ∷ y ∷ ys) ≡ number test (x ∷ y ∷ ys)
    insert_step true x y ys h = swap_step (test x) (test y) x y (filter test ys) (filter test (insert_by cmp x ys)) h
    insert_step false x y ys h = refl

    number_insert : (x : A) (ys : List A) → number test (insert_by cmp x ys) ≡ number test (x ∷ ys)
    number_insert x [] = refl
    number_insert x (y ∷ ys) = insert_step (is_gt (cmp x y)) x y ys (number_insert x ys)

    cons_same : (b : Bool) (x : A) (ys zs : List A) → length ys ≡ length zs → length (if b then x ∷ ys else ys) ≡ length (if b then x ∷ zs else zs)
    cons_same true x ys zs h = ap suc h
    cons_same false x ys zs h = h

    pub number_sorted : (xs : List A) → number test (sorted_by cmp xs) ≡ number test xs
    number_sorted [] = refl
    number_sorted (x ∷ xs) =
        number_insert x (sorted_by cmp xs) ∙ cons_same (test x) x (filter test (sorted_by cmp xs)) (filter test xs) (number_sorted xs)

  -- ---- a test that nothing passes behind what fails it

  abbrev pub Falls : List A → Type 0
  Falls [] = Unit {0}
  Falls (x ∷ xs) = (test x ≡ false → AllByRecursion (λ y. test y ≡ false) xs) × Falls xs

  some_first : (b : Bool) (y : A) (ys : List A) → b ≡ true → 0 < length (if b then y ∷ filter test ys else filter test ys)
  some_first true y ys e = omega arith
  some_first false y ys e = cc

  passing_step : (b : Bool) (y x : A) (ys : List A) (j : ℕ) → test y ≡ b → (test y ≡ false → AllByRecursion (λ z. test z ≡ false) ys) → slice_get ys j ≡ Some x → test x ≡ true
      → j < number test ys → suc j < length (if b then y ∷ filter test ys else filter test ys)
  passing_step true y x ys j is f e t h = omega (arith, h)
  passing_step false y x ys j is f e t h = let no = all_at (λ z. test z ≡ false) ys j x (f is) e in absurd (let apart : true ≡ false = sym t ∙ no in cc)

  -- what passes stands before their number
  pub passing_within : (xs : List A) (j : ℕ) (x : A) → Falls xs → slice_get xs j ≡ Some x → test x ≡ true → j < number test xs
  passing_within [] j x f e t = cc
  passing_within (y ∷ ys) zero x f e t = let same : y ≡ x = cc in some_first (test y) y ys (ap test same ∙ t)
  passing_within (y ∷ ys) (suc j) x f e t = passing_step (test y) y x ys j refl f.0 e t (passing_within ys j x f.1 e t)

  failing_step : (b : Bool) (y : A) (ys : List A) (j : ℕ) → number test ys ≤ j → length (if b then y ∷ filter test ys else filter test ys) ≤ suc j
  failing_step true y ys j h = omega (arith, h)
  failing_step false y ys j h = omega (arith, h)

  -- and what fails stands behind it
  pub failing_beyond : (xs : List A) (j : ℕ) (x : A) → Falls xs → slice_get xs j ≡ Some x → test x ≡ false → number test xs ≤ j
  failing_beyond [] j x f e t = cc
  failing_beyond (y ∷ ys) zero x f e t =
      let same : y ≡ x = cc in
      let no : test y ≡ false = ap test same ∙ t in
      let none : number test (y ∷ ys) ≡ 0 = no_number (y ∷ ys) (no, f.0 no) in
      omega (arith, none)
  failing_beyond (y ∷ ys) (suc j) x f e t = failing_step (test y) y ys j (failing_beyond ys j x f.1 e t)

-- ---- ranks that rise

abbrev pub NotBelow : Ordering → Ordering → Type 0
NotBelow Less q = Unit {0}
NotBelow Equal q = is_lt q ≡ false
NotBelow Greater q = q ≡ Greater

not_below_through : (p q r : Ordering) → NotBelow p q → NotBelow q r → NotBelow p r
not_below_through Less q r a b = tt
not_below_through Equal Less r a b = cc
not_below_through Equal Equal r a b = b
not_below_through Equal Greater r a b = ap is_lt b
not_below_through Greater Less r a b = cc
not_below_through Greater Equal r a b = cc
not_below_through Greater Greater r a b = b

-- elements in order have ranks that rise, whatever they are compared with
module _ {K : Type 0} (c : K → K → Ordering) (o : IsTotalOrder c) (s : K) where
  turned : (x y : K) (p : Ordering) → c x y ≡ p → c y x ≡ ordering_reverse p
  turned x y p e = o.antisymm y x ∙ ap ordering_reverse e

  not_less : (p : Ordering) → is_gt (ordering_reverse p) ≡ false → is_lt p ≡ false
  not_less Less h = cc
  not_less Equal h = refl
  not_less Greater h = refl

  beyond : (q : Ordering) (x y : K) → c s x ≡ Less → c x y ≡ q → is_gt q ≡ false → c s y ≡ Less
  beyond Less x y a e h = o.trans s x y a e
  beyond Equal x y a e h = sym (alike_right o x y s e) ∙ a
  beyond Greater x y a e h = cc

  rank_step : (p : Ordering) (x y : K) → c x s ≡ p → is_gt (c x y) ≡ false → NotBelow p (c y s)
  rank_step Less x y e h = tt
  rank_step Equal x y e h =
      let through : is_gt (c s y) ≡ false = upto o s x y (ap is_gt (turned x s Equal e)) h in
      not_less (c y s) (ap is_gt (sym (turned y s (c y s) refl)) ∙ through)
  rank_step Greater x y e h = turned s y Less (beyond (c x y) x y (turned x s Greater e) refl h)

  pub ranks_rise : (x y : K) → is_gt (c x y) ≡ false → NotBelow (c x s) (c y s)
  ranks_rise x y h = rank_step (c x s) x y refl h

not_before : (past : Bool) (p q : Ordering) → is_before past p ≡ false → NotBelow p q → is_before past q ≡ false
not_before true Less q h n = cc
not_before true Equal q h n = cc
not_before true Greater q h n = ap is_le n
not_before false Less q h n = cc
not_before false Equal q h n = n
not_before false Greater q h n = ap is_lt n

module _ {A : Type 0} (rank : A → Ordering) where
  abbrev pub Ranked : List A → Type 0
  Ranked [] = Unit {0}
  Ranked (x ∷ xs) = AllByRecursion (λ y. NotBelow (rank x) (rank y)) xs × Ranked xs

  pub ranks_fall : (past : Bool) (xs : List A) → Ranked xs → Falls (λ x. is_before past (rank x)) xs
  ranks_fall past [] r = tt
  ranks_fall past (x ∷ xs) r = (
    λ h. all_as (λ y. NotBelow (rank x) (rank y)) (λ y. is_before past (rank y) ≡ false) xs (λ y n. not_before past (rank x) (rank y) h n) r.0,
    ranks_fall past xs r.1,
  )

  -- ---- a list that is sorted has them

  module _ (cmp : A → A → Ordering) (o : IsTotalOrder cmp) (rise : (x y : A) → is_gt (cmp x y) ≡ false → NotBelow (rank x) (rank y)) where
    all_insert_step : (P : A → Type 0) (b : Bool) (x y : A) (ys : List A) → P x → AllByRecursion P (y ∷ ys) → AllByRecursion P (insert_by cmp x ys) → AllByRecursion P (if b then y ∷ insert_by cmp x ys else x ∷ y ∷ ys)
    all_insert_step P true x y ys p h g = (h.0, g)
    all_insert_step P false x y ys p h g = (p, h)

    all_insert : (P : A → Type 0) (x : A) (ys : List A) → P x → AllByRecursion P ys → AllByRecursion P (insert_by cmp x ys)
    all_insert P x [] p h = (p, tt)
    all_insert P x (y ∷ ys) p h = all_insert_step P (is_gt (cmp x y)) x y ys p h (all_insert P x ys p h.1)

    gt_back : (p : Ordering) → is_gt p ≡ true → is_gt (ordering_reverse p) ≡ false
    gt_back Less h = cc
    gt_back Equal h = cc
    gt_back Greater h = refl

    ranked_step : (b : Bool) (x y : A) (ys : List A) → is_gt (cmp x y) ≡ b → Ranked (y ∷ ys) → Ranked (insert_by cmp x ys) → Ranked (if b then y ∷ insert_by cmp x ys else x ∷ y ∷ ys)
    ranked_step true x y ys e r h =
        let below : is_gt (cmp y x) ≡ false = ap is_gt (o.antisymm y x) ∙ gt_back (cmp x y) e in
        (all_insert (λ z. NotBelow (rank y) (rank z)) x ys (rise y x below) r.0, h)
    ranked_step false x y ys e r h =
        let first = rise x y e in
        ((first, all_as (λ z. NotBelow (rank y) (rank z)) (λ z. NotBelow (rank x) (rank z)) ys (λ z n. not_below_through (rank x) (rank y) (rank z) first n) r.0), r)

    ranked_insert : (x : A) (ys : List A) → Ranked ys → Ranked (insert_by cmp x ys)
    ranked_insert x [] r = (tt, tt)
    ranked_insert x (y ∷ ys) r = ranked_step (is_gt (cmp x y)) x y ys refl r (ranked_insert x ys r.1)

    pub ranked_sorted : (xs : List A) → Ranked (sorted_by cmp xs)
    ranked_sorted [] = tt
    ranked_sorted (x ∷ xs) = ranked_insert x (sorted_by cmp xs) (ranked_sorted xs)

  -- ---- the run of what is equal to the sought

  abbrev below : A → Bool
  below x = is_before false (rank x)

  abbrev equal : A → Bool
  equal x = is_eq (rank x)

  run_step : (p : Ordering) (x : A) (xs : List A) (k : ℕ) → AllByRecursion (λ y. NotBelow p (rank y)) xs → places_from (suc k) equal xs ≡ neighbours (suc k + number below xs) (number equal xs)
      → (if is_eq p then k ∷ places_from (suc k) equal xs else places_from (suc k) equal xs)
      ≡ neighbours (k + length (if is_before false p then x ∷ filter below xs else filter below xs)) (length (if is_eq p then x ∷ filter equal xs else filter equal xs))
  run_step Less x xs k r h =
      let next : suc k + number below xs ≡ k + suc (number below xs) = omega arith in h ∙ ap (λ n. neighbours n (number equal xs)) next
  run_step Equal x xs k r h =
      let none : number below xs ≡ 0 = no_number below xs (all_as (λ y. NotBelow Equal (rank y)) (λ y. below y ≡ false) xs (λ y n. n) r) in
      let here : k ≡ k + number below xs = omega (arith, none) in
      let next : suc k + number below xs ≡ suc (k + number below xs) = omega arith in
      λ i. here i ∷ (h ∙ ap (λ n. neighbours n (number equal xs)) next) i
  run_step Greater x xs k r h =
      let not_equal : (q : Ordering) → q ≡ Greater → is_eq q ≡ false = λ q e. ap is_eq e in
      let fail = all_as (λ y. NotBelow Greater (rank y)) (λ y. equal y ≡ false) xs (λ y n. not_equal (rank y) n) r in
      no_places equal (suc k) xs fail ∙ ap (neighbours (k + number below xs)) (sym (no_number equal xs fail))

  run_places : (k : ℕ) (xs : List A) → Ranked xs → places_from k equal xs ≡ neighbours (k + number below xs) (number equal xs)
  run_places k [] r = refl
  run_places k (x ∷ xs) r = run_step (rank x) x xs k r.0 (run_places (suc k) xs r.1)

  both_step : (p : Ordering) (x : A) (xs : List A) → number (λ y. is_before true (rank y)) xs ≡ number below xs + number equal xs
      → length (if is_before true p then x ∷ filter (λ y. is_before true (rank y)) xs else filter (λ y. is_before true (rank y)) xs)
      ≡ length (if is_before false p then x ∷ filter below xs else filter below xs) + length (if is_eq p then x ∷ filter equal xs else filter equal xs)
  both_step Less x xs h = omega (arith, h)
  both_step Equal x xs h = omega (arith, h)
  both_step Greater x xs h = h

  past_number : (xs : List A) → number (λ y. is_before true (rank y)) xs ≡ number below xs + number equal xs
  past_number [] = refl
  past_number (x ∷ xs) = both_step (rank x) x xs (past_number xs)

  pub below_at_most : (xs : List A) → number (λ y. is_before false (rank y)) xs ≤ number (λ y. is_before true (rank y)) xs
  below_at_most xs = omega (arith, past_number xs)

  -- from those below to those not above
  pub run_span : (xs : List A) (span : Span) → Ranked xs → span.from ≡ number (λ y. is_before false (rank y)) xs → span.from + span.count ≡ number (λ y. is_before true (rank y)) xs
      → IsSpanOf (λ x. is_eq (rank x)) xs span
  run_span xs span r from to =
      let count : number equal xs ≡ span.count = omega (arith, past_number xs, from, to) in (
        λ k. run_places k xs r ∙ (λ i. neighbours (k + sym from i) (count i)),
        omega (arith, to, at_most_all (λ y. is_before true (rank y)) xs),
      )

-- ---- an index in an order that is kept

sorted_at : {A : Type 0} (xs : List A) (order : List ℕ) (sorted : List A) (j place : ℕ) (x : A) → map (slice_get xs) order ≡ map Some sorted → slice_get order j ≡ Some place → slice_get xs place ≡ Some x → slice_get sorted j ≡ Some x
sorted_at xs [] sorted j place x e o h = cc
sorted_at xs (p ∷ ps) [] j place x e o h = cc
sorted_at xs (p ∷ ps) (s ∷ ss) zero place x e o h =
    let first : slice_get xs p ≡ Some s = cc in
    let same : p ≡ place = cc in
    sym first ∙ ap (slice_get xs) same ∙ h
sorted_at xs (p ∷ ps) (s ∷ ss) (suc j) place x e o h = let rest : map (slice_get xs) ps ≡ map Some ss = cc in sorted_at xs ps ss j place x rest o h

module _ {A : Type 0} (rank : A → Ordering) (past : Bool) (xs : List A) (order : List ℕ) (sorted : List A) (e : map (slice_get xs) order ≡ map Some sorted) (ranked : Ranked rank sorted)
    (same : number (λ x. is_before past (rank x)) sorted ≡ number (λ x. is_before past (rank x)) xs) where
  abbrev before : A → Bool
  before x = is_before past (rank x)

  order_long : length order ≡ length sorted
  order_long = sym (length-map order (slice_get xs)) ∙ ap length e ∙ length-map sorted Some

  pub most_before : number before xs ≤ length order
  most_before = omega (arith, same, order_long, at_most_all before sorted)

  -- the number is above what stands before the sought, and at most at what doesn't
  pub low_enough : (j place : ℕ) (r : Ordering) → slice_get order j ≡ Some place → option_map rank (slice_get xs place) ≡ Some r → is_before past r ≡ true → j + 1 ≤ number before xs
  low_enough j place r o h t =
      let x = mapped_some rank (slice_get xs place) r h in
      let within = passing_within before sorted j x.0 (ranks_fall rank past sorted ranked) (sorted_at xs order sorted j place x.0 e o x.1) (ap (is_before past) x.2 ∙ t) in
      omega (arith, within, same)

  pub high_enough : (j place : ℕ) (r : Ordering) → slice_get order j ≡ Some place → option_map rank (slice_get xs place) ≡ Some r → is_before past r ≡ false → number before xs ≤ j
  high_enough j place r o h t =
      let x = mapped_some rank (slice_get xs place) r h in
      let beyond = failing_beyond before sorted j x.0 (ranks_fall rank past sorted ranked) (sorted_at xs order sorted j place x.0 e o x.1) (ap (is_before past) x.2 ∙ t) in
      omega (arith, beyond, same)

-- one more that is counted, by its rank
module _ {A : Type 0} (rank : A → Ordering) (past : Bool) (xs : List A) (j : ℕ) (r : Ordering) (h : option_map rank (slice_get xs j) ≡ Some r) where
  counted_one : is_before past r ≡ true → number (λ x. is_before past (rank x)) (take (j + 1) xs) ≡ number (λ x. is_before past (rank x)) (take j xs) + 1
  counted_one t = let x = mapped_some rank (slice_get xs j) r h in number_one_more (λ x. is_before past (rank x)) xs j x.0 x.1 (ap (is_before past) x.2 ∙ t)

  counted_none : is_before past r ≡ false → number (λ x. is_before past (rank x)) (take (j + 1) xs) ≡ number (λ x. is_before past (rank x)) (take j xs)
  counted_none t = let x = mapped_some rank (slice_get xs j) r h in number_no_more (λ x. is_before past (rank x)) xs j x.0 x.1 (ap (is_before past) x.2 ∙ t)

-- one more, if it is counted
module _ {A : Type 0} (rank : A → Ordering) (past : Bool) (xs : List A) (j : ℕ) (r : Ordering) (h : option_map rank (slice_get xs j) ≡ Some r) where
  counted_by : (b : Bool) → is_before past r ≡ b → number (λ x. is_before past (rank x)) (take (j + 1) xs) ≡ number (λ x. is_before past (rank x)) (take j xs) + as_one b
  counted_by true t = counted_one rank past xs j r h t
  counted_by false t = omega (arith, counted_none rank past xs j r h t)

  pub counted_step : number (λ x. is_before past (rank x)) (take (j + 1) xs) ≡ number (λ x. is_before past (rank x)) (take j xs) + as_one (is_before past r)
  counted_step = counted_by (is_before past r) refl

pub one_at_most : (b : Bool) → as_one b ≤ 1
one_at_most true = omega arith
one_at_most false = omega arith

taken_long : {A : Type 0} (xs : List A) (j : ℕ) → length (take j xs) ≤ j
taken_long xs zero = omega arith
taken_long [] (suc j) = omega arith
taken_long (x ∷ xs) (suc j) = omega (arith, taken_long xs j)

-- so many are counted at most
pub counted_at_most : {A : Type 0} (test : A → Bool) (xs : List A) (j : ℕ) → number test (take j xs) ≤ j
counted_at_most test xs j = omega (arith, at_most_all test (take j xs), taken_long xs j)
