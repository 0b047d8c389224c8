-- The place of a pattern is one of those of a list of references to patterns.
use Rattle.std.proofs.Common.{◌≡◌, ◌<◌, ℕ, zero, suc, List, [], ◌∷◌, length, get_or, refl, sym, ap, arith}
use Rattle.std.specs.Borrow.{Bor}
use Rattle.query_plan.specs.query_spec.declared.parts.Pattern.{Pattern}
use Rattle.query_plan.specs.Made.{patterns_of}
use Rattle.query_engine.specs.Answers.{IsPlaceIn}

pub place_at : (list : List (Bor Pattern)) (i : ℕ) (t : Bor Pattern) → i < length list → t ≡ get_or list i t → IsPlaceIn (patterns_of list) t.now.place
place_at [] i t h e = absurd (omega (arith, h))
place_at (x ∷ xs) zero t h e = record { earlier = []; pattern = t.now; later = patterns_of xs; patterns_are = ap (λ (y : Bor Pattern). y.now ∷ patterns_of xs) (sym e); place_is = refl }
place_at (x ∷ xs) (suc i) t h e =
    let r = place_at xs i t (omega (arith, h)) e in
    record { earlier = x.now ∷ r.earlier; pattern = r.pattern; later = r.later; patterns_are = ap (λ l. x.now ∷ l) r.patterns_are; place_is = r.place_is }
