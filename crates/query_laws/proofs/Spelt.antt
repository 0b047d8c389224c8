-- The laws of the grammar.
use Rattle.std.proofs.Common.{◌∙◌, ◌≤◌, [], Ok, sym, ap, subst}
use Rattle.query_spec.specs.Answer.{query}
use Rattle.query_spec.specs.Ast.{route_at}
use Rattle.query_spec.specs.Query.{level_height}
use Rattle.query_laws.specs.Grammar.{query_meaning, route_meaning}
use Rattle.query_laws.specs.Laws.{QueriesAreSpelt, QueriesAreShallow, SpeltQueriesAreRead, RoutesAreSpelt, SpeltRoutesAreRead}
use Rattle.query_laws.proofs.ToldFilters.{query_told, route_told}
use Rattle.query_laws.proofs.Written.{query_written, route_written}
use Rattle.query_spec.specs.Limits.{most_depth}

pub queries_are_spelt : QueriesAreSpelt
queries_are_spelt v q h = query_told v q h

pub queries_are_shallow : QueriesAreShallow
queries_are_shallow v q h = let s = query_told v q h in s.depth

pub spelt_queries_are_read : SpeltQueriesAreRead
spelt_queries_are_read v q s =
    let low : level_height (query_meaning s.form) ≤ most_depth = subst (λ x. level_height x ≤ most_depth) s.means s.depth in
    ap query s.value_is ∙ query_written s.form s.is_form low ∙ ap Ok (sym s.means)

pub routes_are_spelt : RoutesAreSpelt
routes_are_spelt e v q h = route_told e v q h

pub spelt_routes_are_read : SpeltRoutesAreRead
spelt_routes_are_read e v q s =
    let low : level_height (route_meaning e s.form) ≤ most_depth = subst (λ x. level_height x ≤ most_depth) s.means s.depth in
    ap (route_at e []) s.value_is ∙ route_written e s.form s.is_form low ∙ ap Ok (sym s.means)
