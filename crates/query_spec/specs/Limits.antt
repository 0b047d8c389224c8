-- The limits on the size of a query.
use Rattle.std.specs.Prelude.{ℕ}
use Rattle.query_spec.specs.declared.limits.TheConstants.{MOST_QUERY, MOST_DEPTH}

-- the most bytes of a query's text
abbrev pub most_query : ℕ
most_query = MOST_QUERY

-- the greatest depth to which filters nest
abbrev pub most_depth : ℕ
most_depth = MOST_DEPTH
