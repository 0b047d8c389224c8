-- Which patterns may have been read for a request that memory ran out for.
use Rattle.std.specs.Prelude.{◌≡◌, ◌⊎◌, ℕ, List, [], true, Option, Some, Ok}
use Rattle.http_spec.specs.declared.request.Request.{Request}
use Rattle.query_answer.specs.query_spec.Query.{Level}
use Rattle.query_answer.specs.pattern_port.Refused.{Asked}
use Rattle.query_answer.specs.query_plan.Plan.{level_patterns}
use Rattle.query_answer.specs.query_engine.Answers.{IsFrontRead}
use Rattle.routes_spec.specs.Parameters.{parameters_of}
use Rattle.routes_spec.specs.Queries.{Question, IsQuestion, IsToldOn}
use Rattle.routes_spec.specs.Routes.{route_at, path_of, query_of, takes_method}
use Rattle.routes_spec.specs.declared.route.Route.{Route}

-- a prefix of the query's patterns was read, in preorder and each once, and none was refused
abbrev pub ReadsFront : Level → List Asked → Type 0
ReadsFront q asked = IsFrontRead (level_patterns q) (Some []) (Some asked)

-- no pattern was read, or such a prefix for the query that the text is on this route
abbrev pub IsReadOf : Route → Option (List ℕ) → List Asked → Type 0
IsReadOf route query asked = (asked ≡ []) ⊎ ((q : Level) × IsToldOn route query (Some (Ok q)) × ReadsFront q asked)

-- the request asks this query on the route
pub record AsksFor (route : Route) (r : Request) (q : Level) : Type 0 where
  pub question : Question
  pub is_question : IsQuestion r.method (parameters_of (query_of r.target)) r.body (Some question)
  pub told : IsToldOn route question.query (Some (Ok q))

-- no pattern was read, or such a prefix for the query that the request asks on the route
abbrev pub IsReadOn : Route → Request → List Asked → Type 0
IsReadOn route r asked = (asked ≡ []) ⊎ ((q : Level) × AsksFor route r q × ReadsFront q asked)

-- the same on the request's own route
abbrev pub IsReadFor : Request → List Asked → Type 0
IsReadFor r asked =
    (route : Route) × (route_at (path_of r.target) ≡ Some route) × (takes_method route r.method ≡ true) × IsReadOn route r asked
