-- The course of a reader of patterns: all calls that it received, in order.
use Rattle.std.specs.Prelude.{◌≡◌, ℕ, List, [], ◌∷◌, ◌++◌, map, Bool, Option, Some, None, Result, Ok, Err}
use Rattle.std.specs.Borrow.{Bor}
use Rattle.pattern_port.specs.Refused.{Asked}

-- a text was read as a pattern and perhaps refused; or the second text was tried on the pattern of the first
pub data Act : Type 0 where
  read : List ℕ → Bool → Act
  tried : List ℕ → List ℕ → Act

-- the course with more acts at its end, if it is known
abbrev pub course_more : Option (List Act) → List Act → Option (List Act)
course_more None more = None
course_more (Some before) more = Some (before ++ more)

-- the readings of a course, without the tries
abbrev pub readings : List Act → List Asked
readings [] = []
readings (read text refused ∷ acts) = (text, refused) ∷ readings acts
readings (tried pattern text ∷ acts) = readings acts

abbrev pub readings_in : Option (List Act) → Option (List Asked)
readings_in None = None
readings_in (Some acts) = Some (readings acts)

-- courses of readings alone, and of tries alone
abbrev pub only_read : List Asked → List Act
only_read = map (λ (a : Asked). read a.0 a.1)

abbrev pub Try : Type 0
Try = List ℕ × List ℕ

abbrev pub only_tried : List Try → List Act
only_tried = map (λ (t : Try). tried t.0 t.1)

-- ---- many texts on one pattern

abbrev pub texts_of : List (Bor (List ℕ)) → List (List ℕ)
texts_of = map (λ (t : Bor (List ℕ)). t.now)

abbrev pub tries_on : List ℕ → List (List ℕ) → List Act
tries_on pattern = map (λ (t : List ℕ). tried pattern t)

-- a prefix of the texts was tried on the pattern, in order
pub record IsFrontTried (pattern : List ℕ) (texts : List (List ℕ)) (before now : Option (List Act)) : Type 0 where
  pub earlier : List (List ℕ)
  pub later : List (List ℕ)
  pub texts_are : texts ≡ earlier ++ later
  pub course : now ≡ course_more before (tries_on pattern earlier)

-- each text was tried on the pattern once, in order; if memory ran out, only a prefix of them was
abbrev pub AreTried : {A E : Type 0} → List ℕ → List (List ℕ) → Option (List Act) → Option (List Act) → Result A E → Type 0
AreTried pattern texts before now (Ok x) = now ≡ course_more before (tries_on pattern texts)
AreTried pattern texts before now (Err e) = IsFrontTried pattern texts before now
