-- From what a request on a query route asks for to its answer.
use Rattle.std.proofs.Common.{◌≡◌, ◌≢◌, ℕ, Bool, List, [], inl, inr, refl, sym, subst, arith, Option, Some, None, Result, Ok, Err}
use Rattle.std.specs.Prelude.{codes, IfOk}
use Rattle.http_spec.specs.declared.answer.Answer.{Answer}
use Rattle.http_spec.specs.declared.request.Request.{Request}
use Rattle.paging_params.specs.Params.{ParamValue, last_under}
use Rattle.paging_text.specs.Shown.{written_text}
use Rattle.routes_spec.specs.means_spec.World.{World}
use Rattle.routes_spec.specs.pattern_port.Refused.{Asked}
use Rattle.routes_spec.specs.query_spec.Query.{Level}
use Rattle.routes_spec.specs.query_answer.RefusalText.{refusal_text}
use Rattle.routes_spec.specs.query_answer.Told.{Told}
use Rattle.routes_spec.specs.Answers.{error, IsRowsAnswer}
use Rattle.routes_spec.specs.Parameters.{parameters_of}
use Rattle.routes_spec.specs.Queries.{IsQuestion, IsToldOn}
use Rattle.routes_spec.specs.Reading.{ReadsFront, IsReadOn, IsReadFor}
use Rattle.routes_spec.specs.Routes.{query_of}
use Rattle.routes_spec.specs.declared.route.Route.{Route}
use Rattle.http_routes.specs.declared.inquiry.Inquiry.{Inquiry}
use Rattle.http_routes.specs.declared.inquiry.Inquiry.TheVariants.{Rows, Done}
use Rattle.http_routes.specs.declared.question.Question.{Question}
use Rattle.http_routes.specs.Asked.{IsAskAnswer, AnswersAsked}
use Rattle.http_routes.specs.Inquiries.{IsUntoldAnswer, IsInquiryOf, IsInquiryOfSome, IsInquiryOn, IsInquiryFor}
use Rattle.http_routes.specs.Questions.{IfAsked}
use Rattle.http_routes.specs.Routed.{IsQueryRequest, IsAskedAnswer}
use Rattle.http_routes.proofs.Answering.{query_answered}
use Rattle.http_routes.proofs.Asking.{question_asked, rows_asked, none_asked, nothing_asked, reads_nothing}
use Rattle.http_routes.proofs.Results.{if_then}

-- ---- what was read

module _ (route : Route) (r : Request) (o : Option Question) (is : IfAsked o (IsQuestion r.method (parameters_of (query_of r.target)) r.body)) where
  pub some_inquiry : {E : Type 0} (question : Question) (result : Result Inquiry E) → o ≡ Some question → IfOk result (IsInquiryOf route r.ends question) → IfOk result (IsInquiryOn route r)
  some_inquiry question result so h =
      if_then (IsInquiryOf route r.ends question) (IsInquiryOn route r) result (λ inquiry by. (o, is, subst (λ q. IsInquiryOfSome route r.ends q inquiry) (sym so) by)) h

  pub no_inquiry : (answer : Answer) → o ≡ None → answer ≡ error r.ends 400 (codes "bad body") → IsInquiryOn route r (Done answer)
  no_inquiry answer so same = (o, is, subst (λ q. IsInquiryOfSome route r.ends q (Done answer)) (sym so) same)

-- ---- the rows of a query

module _ {E : Type 0} (w : World) (r : Request) (q : Level) (params : List (List ℕ × ParamValue)) (before now : Option (List Asked)) (count later : ℕ) (result : Result Answer E)
    (rows : AnswersAsked before now count later (ReadsFront q) (IsRowsAnswer w written_text r.ends q (λ name. last_under name params)) result) where
  rows_on : (route : Route) → IsInquiryOn route r (Rows q params) → AnswersAsked before now count later (IsReadOn route r) (IsAskAnswer w written_text route r) result
  rows_on route (None, is, by) = absurd by
  rows_on route (Some kept, is, by) =
      let kept_rows =
      subst (λ (ps : List (List ℕ × ParamValue)). AnswersAsked before now count later (ReadsFront q) (IsRowsAnswer w written_text r.ends q (λ name. last_under name ps)) result) by.1 rows in
      question_asked w route r before now count later (Some kept) kept result refl is
      (λ question asks. rows_asked w r.ends route kept question asks q before now count later result by.0 kept_rows)

  pub rows_for : IsQueryRequest r → IsInquiryFor r (Rows q params) → AnswersAsked before now count later (IsReadFor r) (IsAskedAnswer w written_text r) result
  rows_for query inquiry = query_answered w written_text r query inquiry.0 inquiry.1 before now count later result (rows_on inquiry.0 inquiry.2)

-- ---- an answer without rows

module _ (E : Type 0) (w : World) (r : Request) (answer : Answer) (before : Option (List Asked)) (count : ℕ) where
  untold_on : (route : Route) (kept : Question) (told : Option Told) → IfAsked (Some kept) (IsQuestion r.method (parameters_of (query_of r.target)) r.body) → IsToldOn route kept.query told
      → IsUntoldAnswer r.ends told answer → AnswersAsked {E = E} before before count count (IsReadOn route r) (IsAskAnswer w written_text route r) (Ok answer)
  untold_on route kept None is told same =
      question_asked {E = E} w route r before before count count (Some kept) kept (Ok answer) refl is
      (λ question asks. none_asked w r.ends route kept question asks {E = E} None (error r.ends 400 (codes "missing query")) before count (Ok answer) told (refl, refl) same)
  untold_on route kept (Some (Err why)) is told same =
      question_asked {E = E} w route r before before count count (Some kept) kept (Ok answer) refl is
      (λ question asks. none_asked w r.ends route kept question asks {E = E} (Some (Err why)) (error r.ends 400 (refusal_text why)) before count (Ok answer) told (refl, refl) same)
  untold_on route kept (Some (Ok q)) is told never = absurd never

  done_on : (route : Route) → IsInquiryOn route r (Done answer) → AnswersAsked {E = E} before before count count (IsReadOn route r) (IsAskAnswer w written_text route r) (Ok answer)
  done_on route (None, is, same) = nothing_asked {E = E} w route r before count None (Ok answer) refl is same
  done_on route (Some kept, is, (told, told_is, same)) = untold_on route kept told is told_is same

  pub done_for : IsQueryRequest r → IsInquiryFor r (Done answer) → AnswersAsked {E = E} before before count count (IsReadFor r) (IsAskedAnswer w written_text r) (Ok answer)
  done_for query inquiry = query_answered w written_text r query inquiry.0 inquiry.1 {E = E} before before count count (Ok answer) (done_on inquiry.0 inquiry.2)

-- its code
untold_code : (ends : Bool) (told : Option Told) (answer : Answer) → IsUntoldAnswer ends told answer → answer.code ≢ 500
untold_code ends None answer same = subst (λ (a : Answer). a.code ≢ 500) (sym same) (λ h. omega (arith, h))
untold_code ends (Some (Err why)) answer same = subst (λ (a : Answer). a.code ≢ 500) (sym same) (λ h. omega (arith, h))
untold_code ends (Some (Ok q)) answer never = absurd never

pub done_code : (route : Route) (r : Request) (answer : Answer) → IsInquiryOn route r (Done answer) → answer.code ≢ 500
done_code route r answer (None, is, same) = subst (λ (a : Answer). a.code ≢ 500) (sym same) (λ h. omega (arith, h))
done_code route r answer (Some kept, is, (told, told_is, same)) = untold_code r.ends told answer same

-- ---- memory ran out before it was known what the request asks for

pub nothing_read : {E : Type 0} (r : Request) (P : List Asked → Answer → Type 0) (before : Option (List Asked)) (count : ℕ) (result : Result Answer E) → IsQueryRequest r → IfOk result (λ _. ⊥)
    → AnswersAsked before before count count (IsReadFor r) P result
nothing_read r P before count (Ok a) query never = absurd never
nothing_read r P before count (Err e) query never = ([], reads_nothing before count, inr (query.route, query.has_path, query.takes, inl refl))
