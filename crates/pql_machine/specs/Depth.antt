-- The depth of the least query of a state, computed with numbers.
use Rattle.std.specs.Prelude.{ℕ, suc, max, ◌+◌, List, [], ◌∷◌}
use Rattle.pql_spec.specs.query_spec.Query.{Filter, heights, filters_of}
use Rattle.pql_machine.specs.Machine.{Pending, Frame, parens, implicit, inner}

abbrev pub tall : List Filter → ℕ
tall fs = heights (filters_of fs)

-- the height of these filters and one more of height m, joined
abbrev pub joined : List Filter → ℕ → ℕ
joined [] m = m
joined (f ∷ fs) m = suc (max (tall (f ∷ fs)) m)

-- the height of the region after one more operand of height m under n negations
abbrev pub put_height : Pending → ℕ → ℕ → ℕ
put_height p n m = joined p.any (joined p.all (n + m))

-- the depth of the query if the filter of the innermost region has height m
abbrev pub depth_of : List Frame → ℕ → ℕ
depth_of [] m = m
depth_of (parens p n ∷ fs) m = depth_of fs (put_height p n m)
depth_of (implicit e p n ∷ fs) m = depth_of fs (put_height p n (suc m))
depth_of (inner ls e cs p n ∷ fs) m = depth_of fs (put_height p n (suc m))
