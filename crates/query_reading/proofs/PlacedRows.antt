-- Rows that are read by their places.
use Rattle.std.proofs.Common.{◌≡◌, ◌∙◌, ℕ, zero, suc, ◌+◌, ◌*◌, ◌<◌, ◌≤◌, List, [], ◌∷◌, ◌++◌, Bool, true, false, length, map, take, drop, get_or, refl, sym, ap, subst, append_assoc, Option, Some, arith, if◌then◌else◌}
use Rattle.std.specs.Prelude.{filter, slice_get, slice_range}
use Rattle.std.proofs.lemmas.List.Concat.{flat_map-append}
use Rattle.std.proofs.lemmas.List.Elements.{filter-append}
use Rattle.std.proofs.lemmas.List.Folds.{drop_split}
use Rattle.std.proofs.lemmas.Option.{slice_get_within, slice_get_read}
use Rattle.fleet_tables.proofs.of_plain_laws.Lists.{left_at}
use Rattle.fleet_tables.proofs.PlaceLaws.{places_show}
use Rattle.fleet_tables.specs.Spans.{places_of}
use Rattle.query_plan.specs.table_spec.Rows.{Cells}
use Rattle.query_reading.specs.Fetched.{one_in, slice_one, picked}

-- ---- two filters, of which the one passes no more than the other

pub both_step : (b c : Bool) (x : Cells) (xs ys : List Cells) → (b ≡ true → c ≡ true) → xs ≡ ys → (if c then (if b then x ∷ xs else xs) else xs) ≡ (if b then x ∷ ys else ys)
both_step true true x xs ys h e = ap (λ l. x ∷ l) e
both_step true false x xs ys h e = absurd (let apart : false ≡ true = h refl in cc)
both_step false true x xs ys h e = e
both_step false false x xs ys h e = e

pub skip_step : (p : Cells → Bool) (c : Bool) (x : Cells) (xs : List Cells) → filter p (if c then x ∷ xs else xs) ≡ (if c then (if p x then x ∷ filter p xs else filter p xs) else filter p xs)
skip_step p true x xs = refl
skip_step p false x xs = refl

implied : (p q : Cells → Bool) → ((x : Cells) → p x ≡ true → q x ≡ true) → (xs : List Cells) → filter p (filter q xs) ≡ filter p xs
implied p q h [] = refl
implied p q h (x ∷ xs) = skip_step p (q x) x (filter q xs) ∙ both_step (p x) (q x) x (filter p (filter q xs)) (filter p xs) (h x) (implied p q h xs)

-- ---- the rows at places

one_step : (o : Option Cells) (os : List (Option Cells)) (ys : List Cells) (x : Cells) (xs : List Cells) → o ∷ os ≡ Some x ∷ map Some xs → ys ≡ xs → one_in o ++ ys ≡ x ∷ xs
one_step o os ys x xs h e =
    let same : o ≡ Some x = cc in
    (λ i. one_in (same i) ++ e i)

pub picked_is : (rows : List Cells) (places : List ℕ) (xs : List Cells) → map (slice_get rows) places ≡ map Some xs → picked rows places ≡ xs
picked_is rows [] [] h = refl
picked_is rows [] (x ∷ xs) h = cc
picked_is rows (p ∷ ps) [] h = cc
picked_is rows (p ∷ ps) (x ∷ xs) h =
    let rest : map (slice_get rows) ps ≡ map Some xs = cc in
    one_step (slice_get rows p) (map (slice_get rows) ps) (picked rows ps) x xs h (picked_is rows ps xs rest)

within : (rows : List Cells) (places : List ℕ) (xs : List Cells) (i p : ℕ) → map (slice_get rows) places ≡ map Some xs → slice_get places i ≡ Some p → p < length rows
within rows [] xs i p h g = cc
within rows (q ∷ ps) [] i p h g = cc
within rows (q ∷ ps) (x ∷ xs) zero p h g =
    let there : slice_get rows q ≡ Some x = cc in
    let same : q ≡ p = cc in
    slice_get_within rows p x (subst (λ n. slice_get rows n ≡ Some x) same there)
within rows (q ∷ ps) (x ∷ xs) (suc i) p h g =
    let rest : map (slice_get rows) ps ≡ map Some xs = cc in
    within rows ps xs i p rest g

counts : (rows : List Cells) (places : List ℕ) (xs : List Cells) → map (slice_get rows) places ≡ map Some xs → length places ≡ length xs
counts rows [] [] h = refl
counts rows [] (x ∷ xs) h = cc
counts rows (p ∷ ps) [] h = cc
counts rows (p ∷ ps) (x ∷ xs) h = let rest : map (slice_get rows) ps ≡ map Some xs = cc in ap suc (counts rows ps xs rest)

-- ---- at the places of the rows that pass a test

module _ (test : Cells → Bool) (rows : List Cells) (places : List ℕ) (are : places ≡ places_of test rows) where
  shown : map (slice_get rows) places ≡ map Some (filter test rows)
  shown = ap (map (slice_get rows)) are ∙ places_show test rows

  pub place_within : (i p : ℕ) → i < length places → p ≡ get_or places i p → p < length rows
  place_within i p lt at = within rows places (filter test rows) i p shown (slice_get_read places (length places) i p refl lt at)

  pub as_many : length places ≡ length (filter test rows)
  as_many = counts rows places (filter test rows) shown

  -- a filter that passes no more finds there what it finds in all rows
  pub all_found : (p : Cells → Bool) → ((row : Cells) → p row ≡ true → test row ≡ true) → filter p (picked rows places) ≡ filter p rows
  all_found p h = ap (filter p) (picked_is rows places (filter test rows) shown) ∙ implied p test h rows

-- one place more
pub read_on : (p q : Cells → Bool) → q ≡ p → (rows : List Cells) (places : List ℕ) (i at : ℕ) (chosen new whole : List Cells) → i < length places → at ≡ get_or places i at
    → new ≡ chosen ++ filter q (slice_one rows at) → chosen ++ filter p (picked rows (drop i places)) ≡ whole → new ++ filter p (picked rows (drop (i + 1) places)) ≡ whole
read_on p q same rows places i at chosen new whole lt is e h =
    let g = slice_get_read places (length places) i at refl lt is in
    (λ k. e k ++ filter p (picked rows (drop (let n : i + 1 ≡ suc i = omega arith in n k) places)))
    ∙ append_assoc chosen (filter q (slice_one rows at)) (filter p (picked rows (drop (suc i) places)))
    ∙ ap (λ r. chosen ++ (filter r (slice_one rows at) ++ filter p (picked rows (drop (suc i) places)))) same
    ∙ ap (λ l. chosen ++ l) (sym (filter-append p (slice_one rows at) (picked rows (drop (suc i) places))) ∙ ap (λ l. filter p (picked rows l)) (sym (left_at places i at g)))
    ∙ h

-- ---- all rows, one after the other

one_more : (rows : List Cells) (i : ℕ) → i < length rows → drop i rows ≡ slice_one rows i ++ drop (suc i) rows
one_more [] i h = absurd (omega (arith, h))
one_more (r ∷ rs) zero h = refl
one_more (r ∷ rs) (suc i) h = one_more rs i (omega (arith, h))

pub all_on : (p q : Cells → Bool) → q ≡ p → (rows : List Cells) (i : ℕ) (chosen new all : List Cells) → i < length rows → new ≡ chosen ++ filter q (slice_one rows i) → chosen ++ filter p (drop i rows) ≡ all
    → new ++ filter p (drop (i + 1) rows) ≡ all
all_on p q same rows i chosen new all lt e h =
    (λ k. e k ++ filter p (drop (let n : i + 1 ≡ suc i = omega arith in n k) rows))
    ∙ append_assoc chosen (filter q (slice_one rows i)) (filter p (drop (suc i) rows))
    ∙ ap (λ r. chosen ++ (filter r (slice_one rows i) ++ filter p (drop (suc i) rows))) same
    ∙ ap (λ l. chosen ++ l) (sym (filter-append p (slice_one rows i) (drop (suc i) rows)) ∙ ap (filter p) (sym (one_more rows i lt)))
    ∙ h

pub all_pass : (test : Cells → Bool) (rows : List Cells) → ((row : Cells) → test row ≡ true) → length (filter test rows) ≡ length rows
all_pass test [] h = refl
all_pass test (r ∷ rs) h = ap (λ b. length (if b then r ∷ filter test rs else filter test rs)) (h r) ∙ ap suc (all_pass test rs h)

-- ---- what it costs

pub cost_on : (start now next i f : ℕ) → now ≤ start + i * (1 + f) → next ≤ now + (1 + f) → next ≤ start + (i + 1) * (1 + f)
cost_on start now next i f h e = omega (arith, h, e)

mul_up : (i n f : ℕ) → i ≤ n → i * f ≤ n * f
mul_up zero n f h = omega arith
mul_up (suc i) zero f h = absurd (omega (arith, h))
mul_up (suc i) (suc n) f h = let m = mul_up i n f (omega (arith, h)) in omega (arith, m)

pub cost_within : (start now i n f : ℕ) → now ≤ start + i * (1 + f) → i ≤ n → now ≤ start + n * (1 + f)
cost_within start now i n f h k = let m = mul_up i n (1 + f) k in omega (arith, h, m)

-- ---- rows by reference, and blocks

-- the row at one place more
pub view_on : (rows : List Cells) (places : List ℕ) (i at : ℕ) (view : Cells) (old new whole : List Cells) → i < length places → at ≡ get_or places i at → slice_get rows at ≡ Some view
    → new ≡ old ++ view ∷ [] → old ++ picked rows (drop i places) ≡ whole → new ++ picked rows (drop (i + 1) places) ≡ whole
view_on rows places i at view old new whole lt is there e h =
    let g = slice_get_read places (length places) i at refl lt is in
    (λ k. e k ++ picked rows (drop (let n : i + 1 ≡ suc i = omega arith in n k) places))
    ∙ append_assoc old (view ∷ []) (picked rows (drop (suc i) places))
    ∙ ap (λ o. old ++ (one_in o ++ picked rows (drop (suc i) places))) (sym there)
    ∙ ap (λ l. old ++ picked rows l) (sym (left_at places i at g))
    ∙ h

picked_both : (rows : List Cells) (xs ys : List ℕ) → picked rows (xs ++ ys) ≡ picked rows xs ++ picked rows ys
picked_both rows xs ys = flat_map-append (slice_one rows) xs ys

-- the rows of one block more
pub block_on : (p q : Cells → Bool) → q ≡ p → (rows : List Cells) (places : List ℕ) (at end : ℕ) (chosen new whole : List Cells) → at ≤ end
    → new ≡ chosen ++ filter q (picked rows (slice_range places at end)) → chosen ++ filter p (picked rows (drop at places)) ≡ whole → new ++ filter p (picked rows (drop end places)) ≡ whole
block_on p q same rows places at end chosen new whole le e h =
    let block = picked rows (slice_range places at end) in
    let rest = picked rows (drop end places) in
    ap (λ l. l ++ filter p rest) e
    ∙ append_assoc chosen (filter q block) (filter p rest)
    ∙ ap (λ r. chosen ++ (filter r block ++ filter p rest)) same
    ∙ ap (λ l. chosen ++ l) (sym (filter-append p block rest) ∙ ap (filter p) (sym (picked_both rows (slice_range places at end) (drop end places)) ∙ ap (picked rows) (sym (drop_split places at end le))))
    ∙ h

pub take_at_most : (k : ℕ) (xs : List ℕ) → length (take k xs) ≤ k
take_at_most zero xs = omega arith
take_at_most (suc k) [] = omega arith
take_at_most (suc k) (x ∷ xs) = let rest = take_at_most k xs in omega (arith, rest)

-- the row at the front of those that are left
pub there_at : {A : Type 0} (xs : List A) (i : ℕ) (x : A) (left : List A) → drop i xs ≡ x ∷ left → slice_get xs i ≡ Some x
there_at [] zero x left h = cc
there_at [] (suc i) x left h = cc
there_at (y ∷ xs) zero x left h = cc
there_at (y ∷ xs) (suc i) x left h = there_at xs i x left h

behind_it : {A : Type 0} (xs : List A) (i : ℕ) (x : A) (left : List A) → drop i xs ≡ x ∷ left → drop (suc i) xs ≡ left
behind_it [] zero x left h = cc
behind_it [] (suc i) x left h = cc
behind_it (y ∷ xs) zero x left h = cc
behind_it (y ∷ xs) (suc i) x left h = behind_it xs i x left h

pub left_behind : {A : Type 0} (xs : List A) (i : ℕ) (x : A) (left : List A) → drop i xs ≡ x ∷ left → left ≡ drop (i + 1) xs
left_behind xs i x left h = sym (behind_it xs i x left h) ∙ (λ k. drop (let n : suc i ≡ i + 1 = omega arith in n k) xs)

-- one row more of those that are left
pub chosen_more : (p q : Cells → Bool) → q ≡ p → (row : Cells) (left : List Cells) (chosen new whole : List Cells) → new ≡ chosen ++ filter q (row ∷ []) → chosen ++ filter p (row ∷ left) ≡ whole → new ++ filter p left ≡ whole
chosen_more p q same row left chosen new whole e h =
    ap (λ l. l ++ filter p left) e
    ∙ append_assoc chosen (filter q (row ∷ [])) (filter p left)
    ∙ ap (λ r. chosen ++ (filter r (row ∷ []) ++ filter p left)) same
    ∙ ap (λ l. chosen ++ l) (sym (filter-append p (row ∷ []) left))
    ∙ h
