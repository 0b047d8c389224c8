-- What a request asks for: to submit a command, to answer a query, or neither.
use Rattle.std.specs.Prelude.{◌≡◌, ◌≢◌, ◌≤◌, ℕ, ℤ, List, length, true, Some, None, Ok, Err}
use Rattle.json_tree.specs.Limits.{most_payload}
use Rattle.http_spec.specs.declared.answer.Answer.{Answer}
use Rattle.http_spec.specs.declared.request.Request.{Request}
use Rattle.routes_spec.specs.fleet_rows.declared.command.Command.{Command as Handed}
use Rattle.routes_spec.specs.history_spec.Lawful.{HasStamp}
use Rattle.routes_spec.specs.means_spec.OutRows.{OutRows}
use Rattle.routes_spec.specs.means_spec.World.{World}
use Rattle.routes_spec.specs.pattern_port.Refused.{Asked}
use Rattle.routes_spec.specs.Answers.{Met, nothing_met, error, IsAnswer}
use Rattle.routes_spec.specs.Commands.{IsPosted}
use Rattle.routes_spec.specs.HandedIn.{Posts}
use Rattle.routes_spec.specs.Parameters.{parameters_of}
use Rattle.routes_spec.specs.Routes.{route_at, path_of, query_of, takes_method}
use Rattle.routes_spec.specs.declared.route.Route.{Route}
use Rattle.routes_spec.specs.declared.route.Route.TheVariants.{Commands, Queries, RowsOf}
use Rattle.http_routes.specs.declared.routed.Routed.{Routed}
use Rattle.http_routes.specs.declared.routed.Routed.TheVariants.{Command, Query, Done}

-- the request's path is that of a query route, which allows its method
pub record IsQueryRequest (r : Request) : Type 0 where
  pub route : Route
  pub has_path : route_at (path_of r.target) ≡ Some route
  pub takes : takes_method route r.method ≡ true
  pub asks : route ≢ Commands

-- the request posts this command, received at this moment. It may be submitted
pub record IsPostOf (now : ℤ) (r : Request) (c : Handed) : Type 0 where
  pub posts : Posts now r c
  pub payload : length c.payload ≤ most_payload
  pub received : HasStamp c.received

-- the request has this answer over any tables, without a call of `submit`. It is no query
pub record IsAnsweredAlone (now : ℤ) (r : Request) (answer : Answer) : Type 0 where
  pub is_answer : (w : World) (print : OutRows → List ℕ) → IsAnswer w print now r nothing_met answer
  pub no_query : IsQueryRequest r → ⊥
  pub code : answer.code ≢ 500

-- what a request asks for at this moment
abbrev pub IsRouted : ℤ → Request → Routed → Type 0
IsRouted now r (Command c) = IsPostOf now r c
IsRouted now r (Query s) = (s ≡ r) × IsQueryRequest r
IsRouted now r (Done answer) = IsAnsweredAlone now r answer

-- ---- the answer to a query

-- only patterns were read
abbrev pub only_asked : List Asked → Met
only_asked asked = record { submitted = None; asked = asked }

-- the answer to a request for which these patterns were read. The moment is only for commands
abbrev pub IsAskedAnswer : World → (OutRows → List ℕ) → Request → List Asked → Answer → Type 0
IsAskedAnswer w print r asked answer = (now : ℤ) → IsAnswer w print now r (only_asked asked) answer

-- ---- step by step

-- on the command route: the posted command, or the answer with the first error
abbrev pub IsPostRouted : ℤ → Request → Routed → Type 0
IsPostRouted now r (Command c) = IsPosted now (parameters_of (query_of r.target)) r.body (Ok c)
IsPostRouted now r (Query s) = ⊥
IsPostRouted now r (Done answer) =
    (text : List ℕ) × IsPosted now (parameters_of (query_of r.target)) r.body (Err text) × (answer ≡ error r.ends 400 text)

-- on a route that allows the request's method
abbrev pub IsRoutedOn : ℤ → Route → Request → Routed → Type 0
IsRoutedOn now Commands r routed = IsPostRouted now r routed
IsRoutedOn now Queries r routed = routed ≡ Query r
IsRoutedOn now (RowsOf e) r routed = routed ≡ Query r
