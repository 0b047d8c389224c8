-- The filter of `query_spec` that a `Filter` of the code is. The filters within it are already seen as such.
use Rattle.std.specs.Prelude.{List, map, Option, Some, None}
use Rattle.std.proofs.Common.{Box, Global}
use Rattle.query_spec.specs.Query as spec
use Rattle.ast_tree.specs.declared.tree.Filter.{Filter}
use Rattle.ast_tree.specs.declared.tree.Filter.TheVariants.{Compare, Matches, IsNull, InList, InLevel, Subquery, Not, All, Any}

abbrev pub filter_of : Filter → spec.Filter
filter_of (Compare o f l) = spec.compare o f l
filter_of (Matches f t) = spec.matches f t
filter_of (IsNull f b) = spec.is_null f b
filter_of (InList fs p ls) = spec.in_list fs p ls
filter_of (InLevel fs p q) = spec.in_level fs p q.value
filter_of (Subquery e k) = spec.subquery e k
filter_of (Not f) = spec.negation f
filter_of (All fs) = spec.all_of (spec.filters_of fs)
filter_of (Any fs) = spec.any_of (spec.filters_of fs)

abbrev pub filters : List Filter → List spec.Filter
filters = map filter_of

abbrev pub clause_of : Option (Box Filter Global) → spec.Clause
clause_of None = spec.no_clause
clause_of (Some f) = spec.clause (filter_of f.value)
