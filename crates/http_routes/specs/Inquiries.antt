-- What a request on a query route asks for: the rows of a query, or nothing but an error.
use Rattle.std.specs.Prelude.{◌≡◌, Bool, codes, Option, Some, None, Ok, Err}
use Rattle.http_spec.specs.declared.answer.Answer.{Answer}
use Rattle.http_spec.specs.declared.request.Request.{Request}
use Rattle.routes_spec.specs.query_answer.RefusalText.{refusal_text}
use Rattle.routes_spec.specs.query_answer.Told.{Told}
use Rattle.routes_spec.specs.Answers.{error}
use Rattle.routes_spec.specs.Parameters.{parameters_of}
use Rattle.routes_spec.specs.Queries.{IsQuestion, IsToldOn}
use Rattle.routes_spec.specs.Routes.{route_at, path_of, query_of}
use Rattle.routes_spec.specs.declared.route.Route.{Route}
use Rattle.http_routes.specs.declared.inquiry.Inquiry.{Inquiry}
use Rattle.http_routes.specs.declared.inquiry.Inquiry.TheVariants.{Rows, Done}
use Rattle.http_routes.specs.declared.question.Question.{Question}
use Rattle.http_routes.specs.Questions.{IfAsked}

-- the error for a text that spells no query, or for a missing text
abbrev pub IsUntoldAnswer : Bool → Option Told → Answer → Type 0
IsUntoldAnswer ends None answer = answer ≡ error ends 400 (codes "missing query")
IsUntoldAnswer ends (Some (Err why)) answer = answer ≡ error ends 400 (refusal_text why)
IsUntoldAnswer ends (Some (Ok q)) answer = ⊥

-- what a question asks for on this route
abbrev pub IsInquiryOf : Route → Bool → Question → Inquiry → Type 0
IsInquiryOf route ends question (Rows q params) = IsToldOn route question.query (Some (Ok q)) × (params ≡ question.params)
IsInquiryOf route ends question (Done answer) = (told : Option Told) × IsToldOn route question.query told × IsUntoldAnswer ends told answer

-- the same, where the body may be bad
abbrev pub IsInquiryOfSome : Route → Bool → Option Question → Inquiry → Type 0
IsInquiryOfSome route ends (Some question) inquiry = IsInquiryOf route ends question inquiry
IsInquiryOfSome route ends None (Rows q params) = ⊥
IsInquiryOfSome route ends None (Done answer) = answer ≡ error ends 400 (codes "bad body")

-- what a request asks for on this route
abbrev pub IsInquiryOn : Route → Request → Inquiry → Type 0
IsInquiryOn route r inquiry =
    (question : Option Question) × IfAsked question (IsQuestion r.method (parameters_of (query_of r.target)) r.body)
    × IsInquiryOfSome route r.ends question inquiry

-- the same on the request's own route
abbrev pub IsInquiryFor : Request → Inquiry → Type 0
IsInquiryFor r inquiry = (route : Route) × (route_at (path_of r.target) ≡ Some route) × IsInquiryOn route r inquiry
