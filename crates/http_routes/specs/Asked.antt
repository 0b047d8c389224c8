-- The answers to questions on the query routes, built step by step.
use Rattle.std.specs.Prelude.{◌≡◌, ◌⊎◌, ℕ, ◌++◌, List, length, codes, false, Bool, if◌then◌else◌, Option, Some, None, Result, Ok, Err, IfOk}
use Rattle.http_spec.specs.declared.answer.Answer.{Answer}
use Rattle.http_spec.specs.declared.request.Request.{Request}
use Rattle.routes_spec.specs.means_spec.OutRows.{OutRows, names_of, page}
use Rattle.routes_spec.specs.means_spec.World.{World}
use Rattle.paging_params.specs.Params.{ParamValue}
use Rattle.paging_params.specs.Paging.{IsPagingOf}
use Rattle.paging_params.specs.declared.read.PagingFault.{PagingFault}
use Rattle.paging_params.specs.declared.read.PagingFault.TheVariants as page_fault
use Rattle.paging_text.specs.Shown.{rows_of, written_text}
use Rattle.query_engine.specs.declared.engine.Picked.{Picked}
use Rattle.query_engine.specs.declared.engine.QueryFault.{QueryFault}
use Rattle.query_engine.specs.declared.engine.QueryFault.TheVariants as pick
use Rattle.routes_spec.specs.query_answer.declared.refusal.QueryRefusal.TheVariants as why
use Rattle.routes_spec.specs.pattern_port.Refused.{Asked}
use Rattle.routes_spec.specs.query_answer.RefusalText.{refusal_text}
use Rattle.routes_spec.specs.query_spec.declared.parts.Paging.{Paging}
use Rattle.routes_spec.specs.query_spec.Query.{Level}
use Rattle.routes_spec.specs.Answers.{done, error, IsQuestionAnswer}
use Rattle.routes_spec.specs.Parameters.{parameters_of}
use Rattle.routes_spec.specs.Queries.{Question, IsQuestion}
use Rattle.routes_spec.specs.Routes.{query_of}
use Rattle.routes_spec.specs.declared.route.Route.{Route}
use Rattle.http_routes.specs.Moves.{Reads}

abbrev pub total_of : Paging → OutRows → Option ℕ
total_of p rows = if p.include_total then Some (length rows.rows) else None

-- the answer with the rows of a paging
abbrev pub shown_answer : Bool → OutRows → Paging → Answer
shown_answer ends rows p = done ends (total_of p rows) (written_text (page p rows))

abbrev pub paged_answer : Bool → OutRows → Result Paging (List ℕ) → Answer
paged_answer ends rows (Err name) = error ends 400 (codes "bad paging " ++ name)
paged_answer ends rows (Ok p) = shown_answer ends rows p

-- the answer with the rows that the parameters ask for, or with the name of a bad parameter
abbrev pub IsPagedAnswer : Bool → Level → (List ℕ → Option ParamValue) → OutRows → Answer → Type 0
IsPagedAnswer ends q under rows answer =
    (paging : Result Paging (List ℕ)) × IsPagingOf (names_of q) under paging × (answer ≡ paged_answer ends rows paging)

-- the answer to a bad paging, unless memory ran out
abbrev pub IsUnpagedAnswer : {E : Type 0} → Bool → PagingFault → Result Answer E → Type 0
IsUnpagedAnswer ends (page_fault.BadPaging name) result = IfOk result (λ answer. answer ≡ error ends 400 (codes "bad paging " ++ name))
IsUnpagedAnswer ends page_fault.Memory result = IfOk result (λ _. ⊥)

-- the answer to a query whose rows couldn't be selected, unless memory ran out
abbrev pub IsUnpickedAnswer : {E : Type 0} → Bool → QueryFault → Result Answer E → Type 0
IsUnpickedAnswer ends (pick.BadPattern path) result = IfOk result (λ answer. answer ≡ error ends 400 (refusal_text (why.BadPattern path)))
IsUnpickedAnswer ends (pick.SumTooLarge path) result = IfOk result (λ answer. answer ≡ error ends 400 (refusal_text (why.SumTooLarge path)))
IsUnpickedAnswer ends pick.Memory result = IfOk result (λ _. ⊥)

-- the answer from the selected rows or from the fault of the selection
abbrev pub IsPickedAnswer : {E : Type 0} → Bool → Level → (List ℕ → Option ParamValue) → Result Picked QueryFault → Result Answer E → Type 0
IsPickedAnswer ends q under (Ok picked) result = IfOk result (IsPagedAnswer ends q under (rows_of picked.rows))
IsPickedAnswer ends q under (Err fault) result = IsUnpickedAnswer ends fault result

-- the answer P after these patterns were read. Without memory, the patterns are those of some answer, or as Before says
abbrev pub AnswersAsked : {E : Type 0} → Option (List Asked) → Option (List Asked) → ℕ → ℕ → (List Asked → Type 0) → (List Asked → Answer → Type 0) → Result Answer E → Type 0
AnswersAsked before now count later Before P (Ok answer) = (asked : List Asked) × Reads asked before now count later × P asked answer
AnswersAsked before now count later Before P (Err e) =
    (asked : List Asked) × Reads asked before now count later
    × (((other : Answer) × P asked other) ⊎ Before asked)

-- the answer to a request's question on this route, after these patterns were read
abbrev pub IsAskAnswer : World → (OutRows → List ℕ) → Route → Request → List Asked → Answer → Type 0
IsAskAnswer w print route r asked answer =
    (question : Option Question) × IsQuestion r.method (parameters_of (query_of r.target)) r.body question × IsQuestionAnswer w print r.ends route question asked answer
