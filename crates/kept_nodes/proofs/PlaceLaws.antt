-- Places of what passes a test: in joined lists, in mapped lists, and what stands there.
use Rattle.std.proofs.Common.{◌≡◌, ◌∙◌, ℕ, zero, suc, ◌+◌, ◌-◌, ◌<◌, ◌≤◌, List, [], ◌∷◌, ◌++◌, Bool, true, false, length, map, take, drop, slice_get, Option, Some, None, refl, sym, ap, arith, append_assoc, append-nil, length-append, if◌then◌else◌}
use Rattle.std.specs.Prelude.{filter, slice_range}
use Rattle.std.specs.List.{AllByRecursion, find}
use Rattle.std.proofs.lemmas.List.Elements.{filter-append}
use Rattle.std.proofs.lemmas.Option.{slice_get_within}
use Rattle.checkpoint_spec.proofs.of_plain_laws.Lists.{get_left}
use Rattle.kept_nodes.specs.Runs.{number}
use Rattle.kept_nodes.specs.Spans.{places_from, neighbours, IsSpanOf}
use Rattle.kept_nodes.specs.declared.wanted.Span.{Span}

-- ---- places in lists

pub mapped_places : {A B : Type 0} (f : A → B) (test : B → Bool) (k : ℕ) (xs : List A) → places_from k test (map f xs) ≡ places_from k (λ x. test (f x)) xs
mapped_places f test k [] = refl
mapped_places f test k (x ∷ xs) = λ i. if test (f x) then k ∷ mapped_places f test (suc k) xs i else mapped_places f test (suc k) xs i

pub same_places : {A : Type 0} (p q : A → Bool) (k : ℕ) (xs : List A) → AllByRecursion (λ x. p x ≡ q x) xs → places_from k p xs ≡ places_from k q xs
same_places p q k [] h = refl
same_places p q k (x ∷ xs) h = λ i. if h.0 i then k ∷ same_places p q (suc k) xs h.1 i else same_places p q (suc k) xs h.1 i

pub all_same : {A : Type 0} (p q : A → Bool) (xs : List A) → ((x : A) → p x ≡ q x) → AllByRecursion (λ x. p x ≡ q x) xs
all_same p q [] h = tt
all_same p q (x ∷ xs) h = (h x, all_same p q xs h)

module _ {A : Type 0} (test : A → Bool) where
  abbrev pub NonePass : List A → Type 0
  NonePass = AllByRecursion (λ x. test x ≡ false)

  pub no_places : (k : ℕ) (xs : List A) → NonePass xs → places_from k test xs ≡ []
  no_places k [] h = refl
  no_places k (x ∷ xs) h = ap (λ b. if b then k ∷ places_from (suc k) test xs else places_from (suc k) test xs) h.0 ∙ no_places (suc k) xs h.1

  pub all_places : (k : ℕ) (xs : List A) → AllByRecursion (λ x. test x ≡ true) xs → places_from k test xs ≡ neighbours k (length xs)
  all_places k [] h = refl
  all_places k (x ∷ xs) h =
      ap (λ b. if b then k ∷ places_from (suc k) test xs else places_from (suc k) test xs) h.0 ∙ ap (λ l. k ∷ l) (all_places (suc k) xs h.1)

  both_step : (b : Bool) (k : ℕ) (xs ys : List A) → places_from (suc k) test (xs ++ ys) ≡ places_from (suc k) test xs ++ places_from (suc k + length xs) test ys
      → (if b then k ∷ places_from (suc k) test (xs ++ ys) else places_from (suc k) test (xs ++ ys))
      ≡ (if b then k ∷ places_from (suc k) test xs else places_from (suc k) test xs) ++ places_from (k + suc (length xs)) test ys
  both_step true k xs ys h =
      let next : suc k + length xs ≡ k + suc (length xs) = omega arith in
      ap (λ l. k ∷ l) (h ∙ ap (λ n. places_from (suc k) test xs ++ places_from n test ys) next)
  both_step false k xs ys h =
      let next : suc k + length xs ≡ k + suc (length xs) = omega arith in h ∙ ap (λ n. places_from (suc k) test xs ++ places_from n test ys) next

  pub places_both : (k : ℕ) (xs ys : List A) → places_from k test (xs ++ ys) ≡ places_from k test xs ++ places_from (k + length xs) test ys
  places_both k [] ys = let here : k ≡ k + 0 = omega arith in ap (λ n. places_from n test ys) here
  places_both k (x ∷ xs) ys = both_step (test x) k xs ys (places_both (suc k) xs ys)

  -- ---- spans

  pub no_span : (xs : List A) (span : Span) → NonePass xs → span.from ≡ 0 → span.count ≡ 0 → IsSpanOf test xs span
  no_span xs span h from count = (
    λ k. no_places k xs h ∙ ap (neighbours (k + span.from)) (sym count),
    omega (arith, from, count),
  )

  pub whole_span : (xs : List A) (span : Span) → AllByRecursion (λ x. test x ≡ true) xs → span.from ≡ 0 → span.count ≡ length xs → IsSpanOf test xs span
  whole_span xs span h from count = (
    λ k. let here : k ≡ k + span.from = omega (arith, from) in all_places k xs h ∙ (λ i. neighbours (here i) (sym count i)),
    omega (arith, from, count),
  )

  -- between what doesn't pass
  pub span_amid : (front own behind : List A) (inner outer : Span) → NonePass front → NonePass behind → IsSpanOf test own inner
      → outer.from ≡ length front + inner.from → outer.count ≡ inner.count → IsSpanOf test (front ++ (own ++ behind)) outer
  span_amid front own behind inner outer before after h from count = (
    λ k.
        let place : (k + length front) + inner.from ≡ k + outer.from = omega (arith, from) in
        places_both k front (own ++ behind)
        ∙ ap (λ l. l ++ places_from (k + length front) test (own ++ behind)) (no_places k front before)
        ∙ places_both (k + length front) own behind
        ∙ ap (λ l. places_from (k + length front) test own ++ l) (no_places ((k + length front) + length own) behind after)
        ∙ append-nil (places_from (k + length front) test own)
        ∙ h.0 (k + length front)
        ∙ (λ i. neighbours (place i) (sym count i)),
    omega (arith, from, count, h.1, length-append front (own ++ behind), length-append own behind),
  )

  -- ---- what stands at the places

  shows_step : (b : Bool) (x : A) (all xs : List A) (k : ℕ) → slice_get all k ≡ Some x → map (slice_get all) (places_from (suc k) test xs) ≡ map Some (filter test xs)
      → map (slice_get all) (if b then k ∷ places_from (suc k) test xs else places_from (suc k) test xs) ≡ map Some (if b then x ∷ filter test xs else filter test xs)
  shows_step true x all xs k here h = λ i. here i ∷ h i
  shows_step false x all xs k here h = h

  stands : (pre : List A) (x : A) (xs : List A) → slice_get (pre ++ (x ∷ xs)) (length pre) ≡ Some x
  stands [] x xs = refl
  stands (y ∷ pre) x xs = stands pre x xs

  shows_behind : (pre xs : List A) → map (slice_get (pre ++ xs)) (places_from (length pre) test xs) ≡ map Some (filter test xs)
  shows_behind pre [] = refl
  shows_behind pre (x ∷ xs) =
      let whole : (pre ++ (x ∷ [])) ++ xs ≡ pre ++ (x ∷ xs) = append_assoc pre (x ∷ []) xs in
      let long : length (pre ++ (x ∷ [])) ≡ suc (length pre) = omega (arith, length-append pre (x ∷ [])) in
      shows_step (test x) x (pre ++ (x ∷ xs)) xs (length pre) (stands pre x xs)
      ((λ i. map (slice_get (sym whole i)) (places_from (sym long i) test xs)) ∙ shows_behind (pre ++ (x ∷ [])) xs)

  -- at the places stands what passes
  pub places_show : (xs : List A) → map (slice_get xs) (places_from 0 test xs) ≡ map Some (filter test xs)
  places_show xs = shows_behind [] xs

some_lists : {A : Type 0} (xs ys : List A) → map Some xs ≡ map Some ys → xs ≡ ys
some_lists [] [] e = refl
some_lists [] (y ∷ ys) e = cc
some_lists (x ∷ xs) [] e = cc
some_lists (x ∷ xs) (y ∷ ys) e =
    let first : x ≡ y = cc in
    let rest : map Some xs ≡ map Some ys = cc in
    λ i. first i ∷ some_lists xs ys rest i

-- ---- neighbours show a range

there : {A : Type 0} (xs : List A) (k : ℕ) → k < length xs → (x : A) × (slice_get xs k ≡ Some x) × (drop k xs ≡ x ∷ drop (suc k) xs)
there [] k h = absurd (omega (arith, h))
there (x ∷ xs) zero h = (x, refl, refl)
there (x ∷ xs) (suc k) h = there xs k (omega (arith, h))

range_shows : {A : Type 0} (xs : List A) (from count : ℕ) → from + count ≤ length xs → map (slice_get xs) (neighbours from count) ≡ map Some (take count (drop from xs))
range_shows xs from zero h = refl
range_shows xs from (suc count) h =
    let x = there xs from (omega (arith, h)) in
    let rest = range_shows xs (suc from) count (omega (arith, h)) in
    (λ i. x.1 i ∷ rest i) ∙ ap (λ l. map Some (take (suc count) l)) (sym x.2)

nothing_shown : {A : Type 0} (found : List A) → [] ≡ map Some found → found ≡ []
nothing_shown [] e = refl
nothing_shown (x ∷ found) e = cc

first_shown : {A : Type 0} (o : Option A) (os : List (Option A)) (found : List A) → o ∷ os ≡ map Some found → o ≡ slice_get found 0
first_shown o os [] e = cc
first_shown o os (x ∷ found) e = cc

module _ {A : Type 0} (test : A → Bool) where
  find_step : (b : Bool) (x : A) (xs : List A) → find test xs ≡ slice_get (filter test xs) 0 → (if b then Some x else find test xs) ≡ slice_get (if b then x ∷ filter test xs else filter test xs) 0
  find_step true x xs h = refl
  find_step false x xs h = h

  find_first : (xs : List A) → find test xs ≡ slice_get (filter test xs) 0
  find_first [] = refl
  find_first (x ∷ xs) = find_step (test x) x xs (find_first xs)

  module _ (xs : List A) (span : Span) (h : IsSpanOf test xs span) where
    at_zero : places_from 0 test xs ≡ neighbours span.from span.count
    at_zero = let here : 0 + span.from ≡ span.from = omega arith in h.0 0 ∙ ap (λ n. neighbours n span.count) here

    shown : map (slice_get xs) (neighbours span.from span.count) ≡ map Some (filter test xs)
    shown = ap (map (slice_get xs)) (sym at_zero) ∙ places_show test xs

    -- the rows of a span are those that pass
    pub span_range : slice_range xs span.from (span.from + span.count) ≡ filter test xs
    span_range =
        let number : (span.from + span.count) - span.from ≡ span.count = omega arith in
        ap (λ n. take n (drop span.from xs)) number ∙ some_lists (take span.count (drop span.from xs)) (filter test xs) (sym (range_shows xs span.from span.count h.1) ∙ shown)

    -- where the span is empty none passes
    pub span_none : span.count ≡ 0 → find test xs ≡ None
    span_none e =
        let nothing : [] ≡ map Some (filter test xs) = ap (λ n. map (slice_get xs) (neighbours span.from n)) (sym e) ∙ shown in
        find_first xs ∙ ap (λ l. slice_get l 0) (nothing_shown (filter test xs) nothing)

    first_is : (n : ℕ) → span.count ≡ suc n → slice_get xs span.from ≡ find test xs
    first_is n e =
        let some : slice_get xs span.from ∷ map (slice_get xs) (neighbours (suc span.from) n) ≡ map Some (filter test xs) = ap (λ m. map (slice_get xs) (neighbours span.from m)) (sym e) ∙ shown in
        first_shown (slice_get xs span.from) (map (slice_get xs) (neighbours (suc span.from) n)) (filter test xs) some ∙ sym (find_first xs)

    -- otherwise the first of them is found
    pub span_first : 0 < span.count → slice_get xs span.from ≡ find test xs
    span_first some = by span.count refl some
      where
        by : (n : ℕ) → span.count ≡ n → 0 < n → slice_get xs span.from ≡ find test xs
        by zero e less = absurd (omega (arith, less))
        by (suc n) e less = first_is n e

-- ---- how many places there are, and the i-th of them

module _ {A : Type 0} (test : A → Bool) where
  many_step : (b : Bool) (x : A) (k : ℕ) (xs : List A) → length (places_from (suc k) test xs) ≡ number test xs
      → length (if b then k ∷ places_from (suc k) test xs else places_from (suc k) test xs) ≡ length (if b then x ∷ filter test xs else filter test xs)
  many_step true x k xs h = ap suc h
  many_step false x k xs h = h

  pub as_many : (k : ℕ) (xs : List A) → length (places_from k test xs) ≡ number test xs
  as_many k [] = refl
  as_many k (x ∷ xs) = many_step (test x) x k xs (as_many (suc k) xs)

  pub number_both : (xs ys : List A) → number test (xs ++ ys) ≡ number test xs + number test ys
  number_both xs ys = ap length (filter-append test xs ys) ∙ length-append (filter test xs) (filter test ys)

neighbours_many : (from count : ℕ) → length (neighbours from count) ≡ count
neighbours_many from zero = refl
neighbours_many from (suc count) = ap suc (neighbours_many (suc from) count)

pub nth_neighbour : (from count i : ℕ) → i < count → slice_get (neighbours from count) i ≡ Some (from + i)
nth_neighbour from zero i h = absurd (omega (arith, h))
nth_neighbour from (suc count) zero h = let here : from ≡ from + 0 = omega arith in ap Some here
nth_neighbour from (suc count) (suc i) h = let next : suc from + i ≡ from + suc i = omega arith in nth_neighbour (suc from) count i (omega (arith, h)) ∙ ap Some next

pub span_many : {A : Type 0} (test : A → Bool) (xs : List A) (span : Span) → IsSpanOf test xs span → number test xs ≡ span.count
span_many test xs span h = sym (as_many test 0 xs) ∙ ap length (h.0 0) ∙ neighbours_many (0 + span.from) span.count

behind_list : {X : Type 0} (xs ys : List X) (i j : ℕ) → i ≡ length xs + j → slice_get (xs ++ ys) i ≡ slice_get ys j
behind_list [] ys i j e = let same : i ≡ j = omega (arith, e) in ap (slice_get ys) same
behind_list (x ∷ xs) ys zero j e = absurd (omega (arith, e))
behind_list (x ∷ xs) ys (suc i) j e = behind_list xs ys i j (omega (arith, e))

module _ {A : Type 0} (test : A → Bool) (k : ℕ) (xs ys : List A) (i : ℕ) where
  -- a place of the front, or what is left behind it
  pub nth_front : (place : ℕ) → slice_get (places_from k test xs) i ≡ Some place → slice_get (places_from k test (xs ++ ys)) i ≡ Some place
  nth_front place e =
      ap (λ l. slice_get l i) (places_both test k xs ys) ∙ get_left (places_from k test xs) (places_from (k + length xs) test ys) i (slice_get_within (places_from k test xs) i place e) ∙ e

  pub nth_behind : (left : ℕ) → i ≡ number test xs + left → slice_get (places_from k test (xs ++ ys)) i ≡ slice_get (places_from (k + length xs) test ys) left
  nth_behind left e =
      ap (λ l. slice_get l i) (places_both test k xs ys) ∙ behind_list (places_from k test xs) (places_from (k + length xs) test ys) i left (omega (arith, e, as_many test k xs))
