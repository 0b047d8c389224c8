-- An inner filter nests less deep than the filter around it. Sizes are twice the heights, so that the size of a level lies
-- between those of two filters.
use Rattle.std.specs.Prelude.{◌≤◌, ◌*◌, List, [], ◌∷◌}
use Rattle.std.proofs.Common.{arith, Box, Global, Option, Some, None}
use denote.Param.Weighed.{most}
use Rattle.query_spec.specs.Query.{height, heights, clause_height, filters_of}
use Rattle.ast_tree.specs.declared.tree.Filter.{Filter}
use Rattle.ast_tree.specs.declared.tree.Filter.TheVariants.{Compare, Matches, IsNull, InList, InLevel, Subquery, Not, All, Any}
use Rattle.ast_tree.specs.declared.tree.Clause.TheDeep.{deep-Filter}
use Rattle.ast_tree.specs.declared.tree.Clause.TheShapes.{weighed-Clause-filter}
use Rattle.ast_tree.specs.Tree.{filter_of, filters, clause_of}

pub deep_le-height : (f : Filter) → deep-Filter f ≤ 2 * height (filter_of f)
deep_le-height (Compare op c l) = omega arith
deep_le-height (Matches c l) = omega arith
deep_le-height (IsNull c b) = omega arith
deep_le-height (InList fs p ls) = omega arith
deep_le-height (InLevel fs p q) = omega arith
deep_le-height (Subquery e k) = omega arith
deep_le-height (Not f) = omega arith
deep_le-height (All fs) = omega arith
deep_le-height (Any fs) = omega arith

pub filters_fall : (fs : List Filter) → most deep-Filter fs ≤ 2 * heights (filters_of (filters fs))
filters_fall [] = omega arith
filters_fall (f ∷ fs) = omega (arith, deep_le-height f, filters_fall fs)

pub clause_falls : (o : Option (Box Filter Global)) → weighed-Clause-filter.weight Filter deep-Filter o ≤ 2 * clause_height (clause_of o)
clause_falls None = omega arith
clause_falls (Some f) = omega (arith, deep_le-height f.value)
