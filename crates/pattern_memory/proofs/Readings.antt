-- What was read, behind one act more.
use Rattle.std.proofs.Common.{◌≡◌, ℕ, List, [], ◌∷◌, ◌++◌, Bool, refl, ap}
use Rattle.pattern_port.specs.Course.{Act, read, tried, readings}

pub one_read : (acts : List Act) (text : List ℕ) (refused : Bool) → readings (acts ++ read text refused ∷ []) ≡ readings acts ++ (text, refused) ∷ []
one_read [] text refused = refl
one_read (read t b ∷ acts) text refused = ap (λ l. (t, b) ∷ l) (one_read acts text refused)
one_read (tried p t ∷ acts) text refused = one_read acts text refused

pub one_tried : (acts : List Act) (pattern text : List ℕ) → readings (acts ++ tried pattern text ∷ []) ≡ readings acts
one_tried [] pattern text = refl
one_tried (read t b ∷ acts) pattern text = ap (λ l. (t, b) ∷ l) (one_tried acts pattern text)
one_tried (tried p t ∷ acts) pattern text = one_tried acts pattern text
