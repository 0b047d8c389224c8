-- From the route of a request to what it asks for.
use Rattle.std.proofs.Common.{◌≡◌, ◌≢◌, ◌∙◌, ◌≤◌, ℕ, ℤ, List, length, refl, sym, subst, arith, true, false, Some, None, Result, Err}
use Rattle.std.specs.Prelude.{codes, IfOk}
use Rattle.json_tree.specs.Limits.{most_payload}
use Rattle.http_spec.specs.declared.answer.Answer.{Answer}
use Rattle.http_spec.specs.declared.request.Request.{Request}
use Rattle.routes_spec.specs.history_spec.Lawful.{HasStamp}
use Rattle.routes_spec.specs.means_spec.OutRows.{OutRows}
use Rattle.routes_spec.specs.means_spec.World.{World}
use Rattle.routes_spec.proofs.of_plain_laws.Lists.{one_text}
use Rattle.routes_spec.proofs.of_plain_laws.Options.{none_some, some_is}
use Rattle.routes_spec.proofs.HandedIn.{as_posted}
use Rattle.routes_spec.proofs.RoutePaths.{its_path}
use Rattle.routes_spec.specs.Answers.{nothing_met, error, IsMethodAnswer, IsPathAnswer, IsAnswer}
use Rattle.routes_spec.specs.Commands.{IsPosted}
use Rattle.routes_spec.specs.Parameters.{Parameters, parameters_of}
use Rattle.routes_spec.specs.Routes.{route_at, path_of, query_of, takes_method}
use Rattle.routes_spec.specs.declared.route.Route.{Route}
use Rattle.routes_spec.specs.declared.route.Route.TheVariants.{Commands, Queries, RowsOf}
use Rattle.http_routes.specs.declared.routed.Routed.{Routed}
use Rattle.http_routes.specs.declared.routed.Routed.TheVariants.{Command, Query, Done}
use Rattle.http_routes.specs.Routed.{IsQueryRequest, IsAnsweredAlone, IsRouted, IsPostRouted, IsRoutedOn}
use Rattle.http_routes.proofs.Results.{if_is, if_then}

-- ---- what is posted

-- a bad post
pub badly_posted : {E : Type 0} (now : ℤ) (r : Request) (list : Parameters) (text : List ℕ) (result : Result Routed E) → list ≡ parameters_of (query_of r.target) → IsPosted now list r.body (Err text)
    → IfOk result (λ routed. routed ≡ Done (error r.ends 400 text)) → IfOk result (IsPostRouted now r)
badly_posted now r list text result same posted is =
    if_is (IsPostRouted now r) (Done (error r.ends 400 text)) result (text, subst (λ p. IsPosted now p r.body (Err text)) same posted, refl) is

module _ (now : ℤ) (r : Request) where
  -- ---- an answer for which nothing is met

  -- for any tables
  abbrev AlwaysAnswers : Answer → Type 0
  AlwaysAnswers answer = (w : World) (print : OutRows → List ℕ) → IsAnswer w print now r nothing_met answer

  module _ (number : ℕ) (text : List ℕ) (code : number ≡ 500 → ⊥) (is : AlwaysAnswers (error r.ends number text)) (no_query : IsQueryRequest r → ⊥) where
    alone : IsAnsweredAlone now r (error r.ends number text)
    alone = record { is_answer = is; no_query = no_query; code = code }

    alone_routed : {E : Type 0} (result : Result Routed E) → IfOk result (λ routed. routed ≡ Done (error r.ends number text)) → IfOk result (IsRouted now r)
    alone_routed result same = if_is (IsRouted now r) (Done (error r.ends number text)) result alone same

  pub no_path_routed : {E : Type 0} (result : Result Routed E) → route_at (path_of r.target) ≡ None
      → IfOk result (λ routed. routed ≡ Done (error r.ends 404 (codes "no such path"))) → IfOk result (IsRouted now r)
  no_path_routed result at same =
      let answer = error r.ends 404 (codes "no such path") in
      alone_routed 404 (codes "no such path") (λ h. omega (arith, h))
      (λ w print. subst (λ o. IsPathAnswer w print now o r nothing_met answer) (sym at) (refl, refl))
      (λ query. none_some query.route (sym at ∙ query.has_path)) result same

  module _ (route : Route) (at : route_at (path_of r.target) ≡ Some route) where
    -- a query is asked on this route
    its_route : (query : IsQueryRequest r) → query.route ≡ route
    its_route query = some_is query.route route (sym query.has_path ∙ at)

    pub bad_method_routed : {E : Type 0} (result : Result Routed E) → takes_method route r.method ≡ false
        → IfOk result (λ routed. routed ≡ Done (error r.ends 405 (codes "bad method"))) → IfOk result (IsRouted now r)
    bad_method_routed result takes same =
        let answer = error r.ends 405 (codes "bad method") in
        alone_routed 405 (codes "bad method") (λ h. omega (arith, h))
        (λ w print. subst (λ o. IsPathAnswer w print now o r nothing_met answer) (sym at) (subst (λ t. IsMethodAnswer w print now t route r nothing_met answer) (sym takes) (refl, refl)))
        (λ query. apart (subst (λ x. takes_method x r.method ≡ true) (its_route query) query.takes)) result same
      where
        apart : takes_method route r.method ≡ true → ⊥
        apart h = let differ : false ≡ true = sym takes ∙ h in cc

  -- ---- on a route that allows the method

  module _ (stamp : HasStamp now) (small : length r.body ≤ most_payload) where
    on_commands : (routed : Routed) → route_at (path_of r.target) ≡ Some Commands → takes_method Commands r.method ≡ true → IsPostRouted now r routed → IsRouted now r routed
    on_commands (Command c) at takes posted =
        let is = as_posted now (parameters_of (query_of r.target)) r.body c posted in
        record {
          posts = record { path = its_path (path_of r.target) Commands at; method = one_text r.method (codes "POST") takes; is_command = is };
          payload = subst (λ (body : List ℕ). length body ≤ most_payload) (sym is.payload) small;
          received = subst HasStamp (sym is.received) stamp;
        }
    on_commands (Query s) at takes posted = absurd posted
    on_commands (Done answer) at takes (text, posted, same) =
        let told = error r.ends 400 text in
        subst (IsAnsweredAlone now r) (sym same)
        (alone 400 text (λ h. omega (arith, h))
        (λ w print. subst (λ o. IsPathAnswer w print now o r nothing_met told) (sym at) (subst (λ t. IsMethodAnswer w print now t Commands r nothing_met told) (sym takes) (Err text, posted, (refl, refl))))
        (λ query. query.asks (its_route Commands at query)))

    on_query : (route : Route) (routed : Routed) → route_at (path_of r.target) ≡ Some route → takes_method route r.method ≡ true → route ≢ Commands → routed ≡ Query r → IsRouted now r routed
    on_query route routed at takes asks is = subst (IsRouted now r) (sym is) (refl, record { route = route; has_path = at; takes = takes; asks = asks })

    routed_as : (route : Route) (routed : Routed) → route_at (path_of r.target) ≡ Some route → takes_method route r.method ≡ true → IsRoutedOn now route r routed → IsRouted now r routed
    routed_as Commands routed at takes h = on_commands routed at takes h
    routed_as Queries routed at takes h = on_query Queries routed at takes (λ same. cc) h
    routed_as (RowsOf e) routed at takes h = on_query (RowsOf e) routed at takes (λ same. cc) h

    pub routed_so : {E : Type 0} (route : Route) (result : Result Routed E) → route_at (path_of r.target) ≡ Some route → takes_method route r.method ≡ true
        → IfOk result (IsRoutedOn now route r) → IfOk result (IsRouted now r)
    routed_so route result at takes h = if_then (IsRoutedOn now route r) (IsRouted now r) result (λ routed is. routed_as route routed at takes is) h

-- a route other than that of commands takes the request as a query
pub query_routed : (now : ℤ) (route : Route) (r : Request) → (route ≡ Commands → ⊥) → IsRoutedOn now route r (Query r)
query_routed now Commands r other = absurd (other refl)
query_routed now Queries r other = refl
query_routed now (RowsOf e) r other = refl

-- and that of commands what is posted
pub post_routed : {E : Type 0} (now : ℤ) (route : Route) (r : Request) (result : Result Routed E) → route ≡ Commands → IfOk result (IsPostRouted now r) → IfOk result (IsRoutedOn now route r)
post_routed now route r result is h = subst (λ x. IfOk result (IsRoutedOn now x r)) (sym is) h
