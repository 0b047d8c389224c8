-- What was tried so far.
use Rattle.std.proofs.Common.{◌≡◌, ◌∙◌, ℕ, zero, suc, ◌+◌, ◌<◌, List, [], ◌∷◌, ◌++◌, append_assoc, append-nil, length, take, drop, get_or, refl, sym, ap, arith, rules, Option, Some, None, Result, Ok, Err, IsErr}
use Rattle.std.specs.Borrow.{Bor}
use Rattle.pattern_port.specs.Course.{Act, tried, course_more, texts_of, tries_on, IsFrontTried, AreTried}

pub course_nothing : (o : Option (List Act)) → o ≡ course_more o []
course_nothing None = refl
course_nothing (Some before) = ap (λ l. Some l) (sym (append-nil before))

pub course_on : (o : Option (List Act)) (xs ys : List Act) → course_more (course_more o xs) ys ≡ course_more o (xs ++ ys)
course_on None xs ys = refl
course_on (Some before) xs ys = ap (λ l. Some l) (append_assoc before xs ys)

-- ---- texts on one pattern, up to a place

module _ (pattern : List ℕ) where
  one_more : (list : List (Bor (List ℕ))) (i : ℕ) (d : Bor (List ℕ)) → i < length list → tries_on pattern (texts_of (take (suc i) list)) ≡ tries_on pattern (texts_of (take i list)) ++ tried pattern (get_or list i d).now ∷ []
  one_more [] i d h = absurd (omega (arith, h))
  one_more (x ∷ xs) zero d h = refl
  one_more (x ∷ xs) (suc i) d h = ap (λ l. tried pattern x.now ∷ l) (one_more xs i d (omega (arith, h)))

  whole : (list : List (Bor (List ℕ))) (i : ℕ) → texts_of list ≡ texts_of (take i list) ++ texts_of (drop i list)
  whole list zero = refl
  whole [] (suc i) = refl
  whole (x ∷ xs) (suc i) = ap (λ l. x.now ∷ l) (whole xs i)

  module _ (list : List (Bor (List ℕ))) (i : ℕ) (before now : Option (List Act)) where
    -- one text more was tried
    pub tried_on : (d : Bor (List ℕ)) → i < length list → (so_far : Option (List Act)) → so_far ≡ course_more before (tries_on pattern (texts_of (take i list))) → now ≡ course_more so_far (tried pattern (get_or list i d).now ∷ []) → now ≡ course_more before (tries_on pattern (texts_of (take (i + 1) list)))
    tried_on d inside so_far begun step =
        step
        ∙ ap (λ o. course_more o (tried pattern (get_or list i d).now ∷ [])) begun
        ∙ course_on before (tries_on pattern (texts_of (take i list))) (tried pattern (get_or list i d).now ∷ [])
        ∙ ap (course_more before) (sym (one_more list i d inside))
        ∙ ap (λ n. course_more before (tries_on pattern (texts_of (take n list)))) (let n : suc i ≡ i + 1 = omega arith in n)

    -- so many were tried
    pub front_tried : now ≡ course_more before (tries_on pattern (texts_of (take i list))) → IsFrontTried pattern (texts_of list) before now
    front_tried h = record { earlier = texts_of (take i list); later = texts_of (drop i list); texts_are = whole list i; course = h }

-- where it ends for want of memory, a front was tried
pub err_tried : {A E : Type 0} (pattern : List ℕ) (texts : List (List ℕ)) (before now : Option (List Act)) (r : Result A E) → IsErr r → IsFrontTried pattern texts before now → AreTried pattern texts before now r
err_tried pattern texts before now (Ok x) is h = search rules
err_tried pattern texts before now (Err e) is h = h
