-- Tries that are joined.
use Rattle.std.proofs.Common.{◌≡◌, ◌∙◌, ℕ, List, [], ◌∷◌, ◌++◌, refl, ap, Option}
use Rattle.pattern_port.specs.Course.{Act, tried, Try, course_more, only_tried}
use Rattle.pattern_port.proofs.Tries.{course_nothing, course_on}
use Rattle.query_rows.specs.Tries.{HasTried}

pub tried_nothing : (o : Option (List Act)) → HasTried o o
tried_nothing o = record { tries = []; course = course_nothing o }

pub tried_one : (pattern text : List ℕ) (before now : Option (List Act)) → now ≡ course_more before (tried pattern text ∷ []) → HasTried before now
tried_one pattern text before now h = record { tries = (pattern, text) ∷ []; course = h }

tries_joined : (xs ys : List Try) → only_tried xs ++ only_tried ys ≡ only_tried (xs ++ ys)
tries_joined [] ys = refl
tries_joined (x ∷ xs) ys = ap (λ l. tried x.0 x.1 ∷ l) (tries_joined xs ys)

pub tried_then : (a b c : Option (List Act)) → HasTried a b → HasTried b c → HasTried a c
tried_then a b c f s = record {
  tries = f.tries ++ s.tries;
  course = s.course ∙ ap (λ o. course_more o (only_tried s.tries)) f.course ∙ course_on a (only_tried f.tries) (only_tried s.tries) ∙ ap (course_more a) (tries_joined f.tries s.tries);
}
