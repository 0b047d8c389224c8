-- Answers by two prints that print the pages of a world's rows alike.
use Rattle.std.proofs.Common.{◌≡◌, ◌∙◌, inl, inr, ℕ, ℤ, List, refl, ap, subst, Bool, true, false, Option, Some, None, Result, Ok, Err}
use Rattle.routes_spec.specs.fleet_rows.declared.command.Command.{Command}
use Rattle.routes_spec.specs.fleet_tables.Stands.{Stands}
use Rattle.routes_spec.specs.history_spec.Trace.{Trace}
use Rattle.http_spec.specs.declared.answer.Answer.{Answer}
use Rattle.http_spec.specs.declared.request.Request.{Request}
use Rattle.routes_spec.proofs.of_means_laws.PrintableMeans.{rows_can_be_printed, pages_can_be_printed}
use Rattle.routes_spec.specs.means_spec.OutRows.{OutRows, means, page, lines_text}
use Rattle.routes_spec.specs.means_spec.Sums.{too_large}
use Rattle.routes_spec.specs.means_spec.World as spec
use Rattle.routes_spec.specs.means_spec.World.{World}
use Rattle.paging_params.specs.Params.{ParamValue}
use Rattle.paging_text.proofs.RowTexts.{rows_text_is}
use Rattle.paging_text.specs.Shown.{written_text}
use Rattle.routes_spec.specs.pattern_port.Refused.{Asked}
use Rattle.query_engine.proofs.Worlds.{world_is}
use Rattle.query_engine.specs.Tables.{world_of}
use Rattle.routes_spec.specs.query_spec.declared.parts.Paging.{Paging}
use Rattle.routes_spec.specs.query_spec.Query.{Level}
use Rattle.routes_spec.specs.query_answer.Told.{Told}
use Rattle.routes_spec.specs.table_machine.Table.{Table}
use Rattle.routes_spec.specs.declared.route.Route.{Route}
use Rattle.routes_spec.specs.declared.route.Route.TheVariants.{Commands, Queries, RowsOf}
use Rattle.routes_spec.specs.Answers.{Met, done, total_of, paged_answer, IsSummedAnswer, IsRowsAnswer, IsToldAnswer, IsQuestionAnswer, IsRouteAnswer, IsMethodAnswer, IsPathAnswer, IsAnswer}
use Rattle.routes_spec.specs.Links.{IsGiven, IsMetBefore}
use Rattle.routes_spec.specs.Queries.{Question}
use Rattle.routes_spec.specs.Reading.{IsReadFor}
use Rattle.routes_spec.specs.Routes.{route_at, path_of, takes_method}
use Rattle.fleet_rows.specs.declared.submitted.Submitted.{Submitted}
use Rattle.http_routes.specs.declared.link.LinkEnd.{LinkEnd}
use Rattle.http_routes.specs.Asked.{AnswersAsked}
use Rattle.http_routes.specs.Course.{Outside, MovesOutside, Serves, ServedSoFar}
use Rattle.http_routes.specs.Routed.{only_asked, IsAskedAnswer}
use Rattle.http_routes.proofs.Asking.{answers_on}
use Rattle.http_routes.proofs.LinkSteps.{served_on, so_far_on}

module _ (w : World) (print other : OutRows → List ℕ) (alike : (q : Level) (p : Paging) → print (page p (means w q)) ≡ other (page p (means w q))) where
  module _ (ends : Bool) where
    paged_alike : (q : Level) (paging : Result Paging (List ℕ)) → paged_answer w print ends (means w q) paging ≡ paged_answer w other ends (means w q) paging
    paged_alike q (Err name) = refl
    paged_alike q (Ok p) = ap (done ends (total_of w print p (means w q))) (alike q p)

    summed_alike : (q : Level) (under : List ℕ → Option ParamValue) (sum : Option (List ℕ)) (a : Answer) → IsSummedAnswer w print ends q under sum a → IsSummedAnswer w other ends q under sum a
    summed_alike q under (Some place) a h = h
    summed_alike q under None a (paging, is, h) = (paging, is, h ∙ paged_alike q paging)

    rows_alike : (q : Level) (under : List ℕ → Option ParamValue) (asked : List Asked) (a : Answer) → IsRowsAnswer w print ends q under asked a → IsRowsAnswer w other ends q under asked a
    rows_alike q under asked a (inl (is, h)) = inl (is, summed_alike q under (too_large w q) a h)
    rows_alike q under asked a (inr h) = inr h

    told_alike : (under : List ℕ → Option ParamValue) (told : Option Told) (asked : List Asked) (a : Answer) → IsToldAnswer w print ends under told asked a → IsToldAnswer w other ends under told asked a
    told_alike under None asked a h = h
    told_alike under (Some (Err why)) asked a h = h
    told_alike under (Some (Ok q)) asked a h = rows_alike q under asked a h

    question_alike : (route : Route) (question : Option Question) (asked : List Asked) (a : Answer) → IsQuestionAnswer w print ends route question asked a
        → IsQuestionAnswer w other ends route question asked a
    question_alike route None asked a h = h
    question_alike route (Some question) asked a (told, is, h) = (told, is, told_alike question.under told asked a h)

  module _ (now : ℤ) where
    route_alike : (route : Route) (r : Request) (met : Met) (a : Answer) → IsRouteAnswer w print now route r met a → IsRouteAnswer w other now route r met a
    route_alike Commands r met a h = h
    route_alike Queries r met a (none, (question, is, h)) = (none, (question, is, question_alike r.ends Queries question met.asked a h))
    route_alike (RowsOf e) r met a (none, (question, is, h)) = (none, (question, is, question_alike r.ends (RowsOf e) question met.asked a h))

    method_alike : (takes : Bool) (route : Route) (r : Request) (met : Met) (a : Answer) → IsMethodAnswer w print now takes route r met a → IsMethodAnswer w other now takes route r met a
    method_alike true route r met a h = route_alike route r met a h
    method_alike false route r met a h = h

    path_alike : (route : Option Route) (r : Request) (met : Met) (a : Answer) → IsPathAnswer w print now route r met a → IsPathAnswer w other now route r met a
    path_alike None r met a h = h
    path_alike (Some route) r met a h = method_alike (takes_method route r.method) route r met a h

    answer_alike : (r : Request) (met : Met) (a : Answer) → IsAnswer w print now r met a → IsAnswer w other now r met a
    answer_alike r met a h = path_alike (route_at (path_of r.target)) r met a h

    given_alike : (r : Request) (met : Met) (a : Answer) → IsGiven w print now r met a → IsGiven w other now r met a
    given_alike r met a h = record { is_answer = answer_alike r met a h.is_answer; has_memory = h.has_memory }

    before_alike : (r : Request) (met : Met) → IsMetBefore w print now r met → IsMetBefore w other now r met
    before_alike r met (inl (a, h)) = inl (a, answer_alike r met a h)
    before_alike r met (inr h) = inr h

  asked_alike : (r : Request) (asked : List Asked) (a : Answer) → IsAskedAnswer w print r asked a → IsAskedAnswer w other r asked a
  asked_alike r asked a h = λ now. answer_alike now r (only_asked asked) a (h now)

-- over the tables of a history
module _ (table : Table) (history : Trace) (says : List ℕ → List ℕ → Bool) (stands : Stands table history) where
  -- the pages of the history's rows are printed alike
  same_print : (q : Level) (p : Paging) → written_text (page p (means (spec.world_of table.ttls history says) q)) ≡ lines_text (page p (means (spec.world_of table.ttls history says) q))
  same_print q p =
      let w = spec.world_of table.ttls history says in
      rows_text_is (page p (means w q)) (pages_can_be_printed p (means w q) (rows_can_be_printed table.ttls history says stands.0 q))

  pub history_asked : {E : Type 0} (r : Request) (before after : Option (List Asked)) (count later : ℕ) (result : Result Answer E)
      → AnswersAsked before after count later (IsReadFor r) (IsAskedAnswer (world_of table says) written_text r) result
      → AnswersAsked before after count later (IsReadFor r) (IsAskedAnswer (spec.world_of table.ttls history says) lines_text r) result
  history_asked r before after count later result h =
      let w = spec.world_of table.ttls history says in
      answers_on before after count later (IsReadFor r) (IsReadFor r) (IsAskedAnswer w written_text r) (IsAskedAnswer w lines_text r) result (λ asked read. read)
      (asked_alike w written_text lines_text same_print r)
      (subst (λ v. AnswersAsked before after count later (IsReadFor r) (IsAskedAnswer v written_text r) result) (world_is table history says stands) h)

  pub history_asks : (r : Request) (asked : List Asked) (a : Answer) → IsAskedAnswer (world_of table says) written_text r asked a → IsAskedAnswer (spec.world_of table.ttls history says) lines_text r asked a
  history_asks r asked a h =
      let w = spec.world_of table.ttls history says in
      asked_alike w written_text lines_text same_print r asked a (subst (λ v. IsAskedAnswer v written_text r asked a) (world_is table history says stands) h)

-- and what was served over them
pub history_served : {H : Type 0} (Step : Command → Submitted → H → H → Type 0) (table : Table) (history : Trace) (says : List ℕ → List ℕ → Bool) (now : ℤ) (end : LinkEnd) (known : Option (List ℕ)) (old new : Outside H) (held holds : Option (List ℕ))
    → Stands table history → Serves Step (world_of table says) written_text now end known old new held holds → Serves Step (spec.world_of table.ttls history says) lines_text now end known old new held holds
history_served Step table history says now end known old new held holds s h =
    let w = spec.world_of table.ttls history says in
    let same = same_print table history says s in
    served_on (IsGiven w written_text now) (IsGiven w lines_text now) (IsMetBefore w written_text now) (IsMetBefore w lines_text now) (MovesOutside Step)
    (given_alike w written_text lines_text same now) (before_alike w written_text lines_text same now) end known old new held holds
    (subst (λ v. Serves Step v written_text now end known old new held holds) (world_is table history says s) h)

pub history_so_far : {H : Type 0} (Step : Command → Submitted → H → H → Type 0) (table : Table) (history : Trace) (says : List ℕ → List ℕ → Bool) (now : ℤ) (known rest : Option (List ℕ)) (old new : Outside H) (held holds : Option (List ℕ))
    → Stands table history → ServedSoFar Step (world_of table says) written_text now known rest old new held holds → ServedSoFar Step (spec.world_of table.ttls history says) lines_text now known rest old new held holds
history_so_far Step table history says now known rest old new held holds s h =
    let w = spec.world_of table.ttls history says in
    let same = same_print table history says s in
    so_far_on (IsGiven w written_text now) (IsGiven w lines_text now) (IsMetBefore w written_text now) (IsMetBefore w lines_text now) (MovesOutside Step)
    (given_alike w written_text lines_text same now) (before_alike w written_text lines_text same now) known rest old new held holds
    (subst (λ v. ServedSoFar Step v written_text now known rest old new held holds) (world_is table history says s) h)
