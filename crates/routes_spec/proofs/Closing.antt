-- Answers end links as their requests do, and none tells how much was seen.
use Rattle.std.proofs.Common.{◌≡◌, ◌∙◌, ◌⊎◌, inl, inr, ℕ, ℤ, List, refl, ap, Bool, true, false, Option, Some, None, Result, Ok, Err}
use Rattle.query_answer.specs.fleet_rows.declared.command.Command.{Command}
use Rattle.http_spec.specs.declared.answer.Answer.{Answer}
use Rattle.http_spec.specs.declared.request.Request.{Request}
use Rattle.http_spec.specs.Answers.{memory_answer}
use Rattle.query_answer.specs.means_spec.OutRows.{OutRows, means}
use Rattle.query_answer.specs.means_spec.Sums.{too_large}
use Rattle.query_answer.specs.means_spec.World.{World}
use Rattle.query_answer.specs.pattern_port.Refused.{Asked}
use Rattle.query_answer.specs.query_spec.Query.{Level}
use Rattle.query_answer.specs.query_spec.declared.parts.Paging.{Paging}
use Rattle.query_answer.specs.Told.{Told}
use Rattle.paging_params.specs.Params.{ParamValue}
use Rattle.routes_spec.specs.declared.route.Route.{Route}
use Rattle.routes_spec.specs.declared.route.Route.TheVariants.{Commands, Queries, RowsOf}
use Rattle.fleet_rows.specs.declared.submitted.Submitted.{Submitted}
use Rattle.fleet_rows.specs.declared.submitted.Submitted.TheVariants.{Receipt, Full, QueueFault, Spent, Down, Memory}
use Rattle.routes_spec.specs.Answers.{Met, paged_answer, submitted_answer, IsPostAnswer, IsSummedAnswer, IsRowsAnswer, IsToldAnswer, IsQuestionAnswer, IsRouteAnswer, IsMethodAnswer, IsPathAnswer, IsAnswer}
use Rattle.routes_spec.specs.Commands.{Checked}
use Rattle.routes_spec.specs.Queries.{Question}
use Rattle.routes_spec.specs.Routes.{route_at, path_of, takes_method}

-- ---- whether the link ends, and what is told beside

abbrev Closes : Bool → Answer → Type 0
Closes ends a = ((a.close ≡ ends) ⊎ (a ≡ memory_answer)) × (a.seen ≡ None)

module _ (ends : Bool) where
  is_so : (a b : Answer) → a ≡ b → b.close ≡ ends → b.seen ≡ None → Closes ends a
  is_so a b same h unseen = (inl (ap (λ (x : Answer). x.close) same ∙ h), ap (λ (x : Answer). x.seen) same ∙ unseen)

  submitted_closes : (s : Submitted) (a : Answer) → a ≡ submitted_answer ends s → Closes ends a
  submitted_closes (Receipt r) a h = is_so a _ h refl refl
  submitted_closes Full a h = is_so a _ h refl refl
  submitted_closes QueueFault a h = is_so a _ h refl refl
  submitted_closes Spent a h = is_so a _ h refl refl
  submitted_closes Down a h = is_so a _ h refl refl
  submitted_closes Memory a h = (inr h, ap (λ (x : Answer). x.seen) h)

  post_closes : (posted : Checked Command) (met : Met) (a : Answer) → IsPostAnswer ends posted met a → Closes ends a
  post_closes (Err text) met a h = is_so a _ h.1 refl refl
  post_closes (Ok c) met a (s, _, h) = submitted_closes s a h

  module _ (w : World) (print : OutRows → List ℕ) where
    paged_closes : (rows : OutRows) (paging : Result Paging (List ℕ)) (a : Answer) → a ≡ paged_answer w print ends rows paging → Closes ends a
    paged_closes rows (Err name) a h = is_so a _ h refl refl
    paged_closes rows (Ok p) a h = is_so a _ h refl refl

    summed_closes : (q : Level) (under : List ℕ → Option ParamValue) (sum : Option (List ℕ)) (a : Answer) → IsSummedAnswer w print ends q under sum a → Closes ends a
    summed_closes q under (Some place) a h = is_so a _ h refl refl
    summed_closes q under None a (p, _, h) = paged_closes (means w q) p a h

    rows_close : (q : Level) (under : List ℕ → Option ParamValue) (asked : List Asked) (a : Answer) → IsRowsAnswer w print ends q under asked a → Closes ends a
    rows_close q under asked a (inl h) = summed_closes q under (too_large w q) a h.1
    rows_close q under asked a (inr (place, first, h)) = is_so a _ h refl refl

    told_closes : (under : List ℕ → Option ParamValue) (told : Option Told) (asked : List Asked) (a : Answer) → IsToldAnswer w print ends under told asked a → Closes ends a
    told_closes under None asked a h = is_so a _ h.1 refl refl
    told_closes under (Some (Err why)) asked a h = is_so a _ h.1 refl refl
    told_closes under (Some (Ok q)) asked a h = rows_close q under asked a h

    question_closes : (route : Route) (question : Option Question) (asked : List Asked) (a : Answer) → IsQuestionAnswer w print ends route question asked a → Closes ends a
    question_closes route None asked a h = is_so a _ h.1 refl refl
    question_closes route (Some question) asked a (told, _, h) = told_closes question.under told asked a h

module _ (w : World) (print : OutRows → List ℕ) (now : ℤ) where
  routed_closes : (route : Route) (r : Request) (met : Met) (a : Answer) → IsRouteAnswer w print now route r met a → Closes r.ends a
  routed_closes Commands r met a (posted, _, h) = post_closes r.ends posted met a h
  routed_closes Queries r met a (_, (question, _, h)) = question_closes r.ends w print Queries question met.asked a h
  routed_closes (RowsOf e) r met a (_, (question, _, h)) = question_closes r.ends w print (RowsOf e) question met.asked a h

  method_closes : (takes : Bool) (route : Route) (r : Request) (met : Met) (a : Answer) → IsMethodAnswer w print now takes route r met a → Closes r.ends a
  method_closes true route r met a h = routed_closes route r met a h
  method_closes false route r met a h = is_so r.ends a _ h.1 refl refl

  path_closes : (route : Option Route) (r : Request) (met : Met) (a : Answer) → IsPathAnswer w print now route r met a → Closes r.ends a
  path_closes None r met a h = is_so r.ends a _ h.1 refl refl
  path_closes (Some route) r met a h = method_closes (takes_method route r.method) route r met a h

  pub answer_closes : (r : Request) (met : Met) (a : Answer) → IsAnswer w print now r met a → (a.close ≡ r.ends) ⊎ (a ≡ memory_answer)
  answer_closes r met a h = (path_closes (route_at (path_of r.target)) r met a h).0

  pub answer_unseen : (r : Request) (met : Met) (a : Answer) → IsAnswer w print now r met a → a.seen ≡ None
  answer_unseen r met a h = (path_closes (route_at (path_of r.target)) r met a h).1
