-- From what a request asks for to its answer.
use Rattle.std.proofs.Common.{◌≡◌, ◌≢◌, ◌∙◌, inl, inr, ℕ, ◌≤◌, ℤ, List, [], length, refl, sym, ap, subst, Bool, true, false, Option, Some, None, Result, Ok, Err}
use Rattle.std.specs.Prelude.{codes, IfOk}
use Rattle.routes_spec.specs.fleet_rows.declared.command.Command.{Command as Handed}
use Rattle.http_spec.specs.declared.answer.Answer.{Answer}
use Rattle.http_spec.specs.declared.request.Request.{Request}
use Rattle.http_spec.specs.Framing.{heads_of}
use Rattle.http_spec.proofs.Fronts.{sizes_are_small}
use Rattle.http_front.specs.Next.{Gives}
use Rattle.routes_spec.specs.history_spec.Lawful.{HasStamp}
use Rattle.routes_spec.specs.means_spec.OutRows.{OutRows}
use Rattle.routes_spec.specs.means_spec.World.{World}
use Rattle.routes_spec.specs.pattern_port.Refused.{Asked}
use Rattle.routes_spec.proofs.HandedIn.{posted_is_handed_in}
use Rattle.routes_spec.proofs.of_plain_laws.Options.{none_some, some_is}
use Rattle.routes_spec.specs.declared.route.Route.{Route}
use Rattle.routes_spec.specs.declared.route.Route.TheVariants.{Commands, Queries, RowsOf}
use Rattle.routes_spec.specs.Answers.{Met, nothing_met, error, submitted_answer, IsRouteAnswer, IsMethodAnswer, IsPathAnswer, IsAnswer}
use Rattle.fleet_rows.specs.declared.submitted.Submitted.{Submitted}
use Rattle.routes_spec.specs.Links.{IsGiven, IsMetBefore}
use Rattle.routes_spec.specs.Reading.{IsReadOn, IsReadFor}
use Rattle.routes_spec.specs.Routes.{route_at, path_of, takes_method}
use Rattle.http_routes.specs.declared.routed.Routed.{Routed}
use Rattle.http_routes.specs.declared.routed.Routed.TheVariants.{Command, Query, Done}
use Rattle.http_routes.specs.Asked.{AnswersAsked, IsAskAnswer}
use Rattle.http_routes.specs.Course.{outside, MovesOutside, IsAnswered}
use Rattle.http_routes.specs.Moves.{Moves}
use Rattle.http_routes.specs.Routed.{IsQueryRequest, IsRouted, only_asked, IsAskedAnswer}
use Rattle.http_routes.proofs.Asking.{answers_on, reads_nothing}
use Rattle.json_tree.specs.Limits.{most_payload}

-- a body that is given has at most 16 MiB
pub body_is_small : (r : Request) (known left : Option (List ℕ)) → Gives r known left → length r.body ≤ most_payload
body_is_small r known left gives =
    let is = gives.is_request in
    subst (λ body. length body ≤ most_payload) (sym is.request.body_is) (sizes_are_small is.head.method (heads_of is.head.fields) (length is.body) is.size)

-- ---- a query

module _ (w : World) (print : OutRows → List ℕ) (r : Request) (query : IsQueryRequest r) (found : Route) (at : route_at (path_of r.target) ≡ Some found) where
  -- it is asked on the route that was found
  on_found : query.route ≡ found
  on_found = some_is query.route found (sym query.has_path ∙ at)

  found_takes : takes_method found r.method ≡ true
  found_takes = subst (λ x. takes_method x r.method ≡ true) on_found query.takes

  route_answers : (now : ℤ) (route : Route) (asked : List Asked) (a : Answer) → (route ≡ Commands → ⊥) → IsAskAnswer w print route r asked a
      → IsRouteAnswer w print now route r (only_asked asked) a
  route_answers now Commands asked a other h = absurd (other refl)
  route_answers now Queries asked a other h = (refl, (h.0, h.1, h.2))
  route_answers now (RowsOf e) asked a other h = (refl, (h.0, h.1, h.2))

  asked_answer : (asked : List Asked) (a : Answer) → IsAskAnswer w print found r asked a → IsAskedAnswer w print r asked a
  asked_answer asked a h now =
      let met = only_asked asked in
      subst (λ o. IsPathAnswer w print now o r met a) (sym at)
      (subst (λ t. IsMethodAnswer w print now t found r met a) (sym found_takes)
      (route_answers now found asked a (λ same. query.asks (subst (λ x. x ≡ Commands) (sym on_found) same)) h))

  read_for : (asked : List Asked) → IsReadOn found r asked → IsReadFor r asked
  read_for asked read = (found, at, found_takes, read)

  pub query_answered : {E : Type 0} (before after : Option (List Asked)) (count later : ℕ) (result : Result Answer E)
      → AnswersAsked before after count later (IsReadOn found r) (IsAskAnswer w print found r) result
      → AnswersAsked before after count later (IsReadFor r) (IsAskedAnswer w print r) result
  query_answered before after count later result h =
      answers_on before after count later (IsReadOn found r) (IsReadFor r) (IsAskAnswer w print found r) (IsAskedAnswer w print r) result read_for asked_answer h

-- its path has a route
pub no_route : {P : Type 0} (r : Request) → IsQueryRequest r → route_at (path_of r.target) ≡ None → P
no_route r query at = none_some query.route (sym at ∙ query.has_path)

-- ---- the outside state

nothing_moves : {H : Type 0} (Step : Handed → Submitted → H → H → Type 0) (inbox : H) (before : Option (List Asked)) (count : ℕ) → Moves Step nothing_met inbox inbox before before count count
nothing_moves Step inbox before count = record { submits = refl; reads = reads_nothing before count }

module _ {H : Type 0} (Step : Handed → Submitted → H → H → Type 0) (w : World) (print : OutRows → List ℕ) (now : ℤ) (r : Request) where
  -- ---- memory ran out before the request was routed

  before_method : (route : Route) (takes : Bool) → route_at (path_of r.target) ≡ Some route → takes_method route r.method ≡ takes → IsMetBefore w print now r nothing_met
  before_method route true at takes = inr (refl, (route, at, takes, inl refl))
  before_method route false at takes =
      let answer = error r.ends 405 (codes "bad method") in
      inl (
        answer,
        subst (λ o. IsPathAnswer w print now o r nothing_met answer) (sym at) (subst (λ t. IsMethodAnswer w print now t route r nothing_met answer) (sym takes) (refl, refl)),
      )

  before_path : (o : Option Route) → route_at (path_of r.target) ≡ o → IsMetBefore w print now r nothing_met
  before_path None at =
      let answer = error r.ends 404 (codes "no such path") in
      inl (answer, subst (λ o. IsPathAnswer w print now o r nothing_met answer) (sym at) (refl, refl))
  before_path (Some route) at = before_method route (takes_method route r.method) at refl

  module _ {E : Type 0} (inbox : H) (before : Option (List Asked)) (count : ℕ) (result : Result Answer E) where
    pub not_routed : IfOk result (λ _. ⊥) → IsAnswered Step w print now r (outside inbox before count) (outside inbox before count) result
    not_routed never = by_result result never
      where
        by_result : (s : Result Answer E) → IfOk s (λ _. ⊥) → IsAnswered Step w print now r (outside inbox before count) (outside inbox before count) s
        by_result (Ok a) never = absurd never
        by_result (Err e) never = (nothing_met, nothing_moves Step inbox before count, before_path (route_at (path_of r.target)) refl)

    -- ---- a command was submitted

    pub command_answered : (routed : Routed) (c : Handed) (s : Submitted) (after : H) → routed ≡ Command c → IsRouted now r routed → Step c s inbox after
        → IfOk result (λ a. a ≡ submitted_answer r.ends s) → IfOk result (λ a. a.code ≢ 500)
        → IsAnswered Step w print now r (outside inbox before count) (outside after before count) result
    command_answered routed c s after is is_routed step told code = by_result result told code
      where
        answered : IsAnswer w print now r (record { submitted = Some (c, s); asked = [] }) (submitted_answer r.ends s)
        answered =
            let post = subst (IsRouted now r) is is_routed in
            posted_is_handed_in w print now r c s post.posts

        by_result : (x : Result Answer E) → IfOk x (λ a. a ≡ submitted_answer r.ends s) → IfOk x (λ a. a.code ≢ 500)
            → IsAnswered Step w print now r (outside inbox before count) (outside after before count) x
        by_result (Ok a) told code = (
          record { submitted = Some (c, s); asked = [] },
          record { submits = step; reads = reads_nothing before count },
          record {
            is_answer = subst (IsAnswer w print now r (record { submitted = Some (c, s); asked = [] })) (sym told) answered;
            has_memory = λ same. code (ap (λ (x : Answer). x.code) same);
          },
        )
        by_result (Err e) told code = (
          record { submitted = Some (c, s); asked = [] },
          record { submits = step; reads = reads_nothing before count },
          inl (submitted_answer r.ends s, answered),
        )

    -- ---- a query was answered

    pub asked_answered : (routed : Routed) (s : Request) (after : Option (List Asked)) (later : ℕ) → routed ≡ Query s → IsRouted now r routed
        → AnswersAsked before after count later (IsReadFor s) (IsAskedAnswer w print s) result → IfOk result (λ a. a.code ≢ 500)
        → IsAnswered Step w print now r (outside inbox before count) (outside inbox after later) result
    asked_answered routed s after later is is_routed answers code =
        by_result result (subst (λ q. AnswersAsked before after count later (IsReadFor q) (IsAskedAnswer w print q) result) same answers) code
      where
        same : s ≡ r
        same = (subst (IsRouted now r) is is_routed).0

        by_result : (x : Result Answer E) → AnswersAsked before after count later (IsReadFor r) (IsAskedAnswer w print r) x → IfOk x (λ a. a.code ≢ 500)
            → IsAnswered Step w print now r (outside inbox before count) (outside inbox after later) x
        by_result (Ok a) (asked, reads, h) code = (
          only_asked asked,
          record { submits = refl; reads = reads },
          record { is_answer = h now; has_memory = λ same. code (ap (λ (x : Answer). x.code) same) },
        )
        by_result (Err e) (asked, reads, inl (other, h)) code = (only_asked asked, record { submits = refl; reads = reads }, inl (other, h now))
        by_result (Err e) (asked, reads, inr read) code = (only_asked asked, record { submits = refl; reads = reads }, inr (refl, read))

  -- ---- neither

  pub alone_answered : (inbox : H) (before : Option (List Asked)) (count : ℕ) (routed : Routed) (a : Answer) → routed ≡ Done a → IsRouted now r routed
      → (met : Met) × MovesOutside Step met (outside inbox before count) (outside inbox before count) × IsGiven w print now r met a
  alone_answered inbox before count routed a is is_routed =
      let alone = subst (IsRouted now r) is is_routed in (
        nothing_met,
        nothing_moves Step inbox before count,
        record { is_answer = alone.is_answer w print; has_memory = λ same. alone.code (ap (λ (x : Answer). x.code) same) },
      )

-- what `answer_query` asks for
pub is_query : (now : ℤ) (r : Request) (routed : Routed) (s : Request) → routed ≡ Query s → IsRouted now r routed → IsQueryRequest s
is_query now r routed s is is_routed =
    let query = subst (IsRouted now r) is is_routed in
    subst IsQueryRequest (sym query.0) query.1

-- what `submit` asks for
pub may_be_submitted : (now : ℤ) (r : Request) (routed : Routed) (c : Handed) → routed ≡ Command c → IsRouted now r routed → (length c.payload ≤ most_payload) × HasStamp c.received
may_be_submitted now r routed c is is_routed =
    let post = subst (IsRouted now r) is is_routed in
    (post.payload, post.received)
