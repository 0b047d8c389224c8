-- Filters are no higher than the list that they stand in.
use Rattle.std.proofs.Common.{ℕ, zero, suc, ◌≤◌, ◌<◌, List, [], ◌∷◌, length, get_or, arith}
use Rattle.std.specs.Prelude.{All}
use Rattle.query_spec.specs.Query.{height, heights, filters_of}
use Rattle.ast_tree.specs.declared.tree.Filter.{Filter}
use Rattle.ast_tree.specs.Tree.{filter_of, filters}

pub height-within : (fs : List Filter) (i : ℕ) (d : Filter) → i < length fs → height (filter_of (get_or fs i d)) ≤ heights (filters_of (filters fs))
height-within [] i d h = absurd (omega arith)
height-within (x ∷ fs) zero d h = omega arith
height-within (x ∷ fs) (suc i) d h = omega (arith, height-within fs i d (omega arith))

pub filters_within : (fs : List Filter) (n : ℕ) → heights (filters_of (filters fs)) ≤ n → All (λ f. height (filter_of f) ≤ n) fs
filters_within fs n h = λ i d lt. omega (arith, height-within fs i d lt)
