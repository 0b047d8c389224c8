-- The filter of `in` with a level on its right side, from the result of reading that level.
use Rattle.std.specs.Prelude.{ℕ, List, Ok}
use Rattle.query_spec.specs.declared.parts.Field.{Field}
use Rattle.query_spec.specs.Ast.{Read, ◌>>=◌}
use Rattle.query_spec.specs.Query.{Filter, Level, in_level}

abbrev pub rows_among : List Field → List ℕ → Read Level → Read Filter
rows_among fs p r = r >>= λ q. Ok (in_level fs p q)
