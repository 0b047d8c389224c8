-- What is added up from the front is the definition's sum.
use Rattle.std.proofs.Common.{◌≡◌, ◌∙◌, ℤ, pos, ◌+ℤ◌, List, [], ◌∷◌, Some, None, refl, ap, arith}
use Rattle.jiff_core.proofs.SignedLemmas.{signed_arith}
use Rattle.query_plan.specs.means_spec.Groups.{added, sum_of}
use Rattle.level_answers.specs.Added.{sum_behind, sum_cell}

nothing_more : (t : ℤ) → t ≡ t +ℤ pos 0
nothing_more t = omega (arith, signed_arith)

regrouped : (t m r : ℤ) → (t +ℤ m) +ℤ r ≡ t +ℤ (m +ℤ r)
regrouped t m r = omega (arith, signed_arith)

from_nothing : (m r : ℤ) → (pos 0 +ℤ m) +ℤ r ≡ m +ℤ r
from_nothing m r = omega (arith, signed_arith)

behind : (t : ℤ) (ms : List ℤ) → sum_behind (Some t) ms ≡ Some (t +ℤ added ms)
behind t [] = ap (λ x. Some x) (nothing_more t)
behind t (m ∷ ms) = behind (t +ℤ m) ms ∙ ap (λ x. Some x) (regrouped t m (added ms))

pub sum_is : (ms : List ℤ) → sum_cell (sum_behind None ms) ≡ sum_of ms
sum_is [] = refl
sum_is (m ∷ ms) = ap sum_cell (behind (pos 0 +ℤ m) ms ∙ ap (λ x. Some x) (from_nothing m (added ms)))
