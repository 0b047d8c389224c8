-- The answer to a request, by the table of the service's answers: the first row that applies.
use Rattle.std.specs.Prelude.{◌≡◌, ◌⊎◌, ℕ, zero, suc, ◌+◌, ◌/◌, ◌%◌, ◌^◌, nat_lt, ℤ, List, [], ◌∷◌, ◌++◌, length, Bool, true, false, if◌then◌else◌, codes, Option, Some, None, Result, Ok, Err}
use Rattle.query_answer.specs.fleet_rows.declared.command.Command.{Command}
use Rattle.http_spec.specs.declared.answer.Answer.{Answer}
use Rattle.http_spec.specs.declared.request.Request.{Request}
use Rattle.http_spec.specs.Answers.{error_body, memory_answer}
use Rattle.query_answer.specs.query_spec.declared.parts.Paging.{Paging}
use Rattle.query_answer.specs.query_spec.Query.{Level}
use Rattle.query_answer.specs.means_spec.OutRows.{OutRows, names_of, means, page}
use Rattle.query_answer.specs.means_spec.Sums.{too_large}
use Rattle.query_answer.specs.means_spec.World.{World}
use Rattle.query_answer.specs.pattern_port.Refused.{Asked}
use Rattle.query_answer.specs.query_plan.Plan.{level_patterns}
use Rattle.query_answer.specs.query_engine.Answers.{taken, IsFirstRefused}
use Rattle.query_answer.specs.RefusalText.{refusal_text}
use Rattle.query_answer.specs.Told.{Told}
use Rattle.query_answer.specs.declared.refusal.QueryRefusal.TheVariants.{BadPattern, SumTooLarge}
use Rattle.paging_params.specs.Params.{ParamValue}
use Rattle.paging_params.specs.Paging.{IsPagingOf}
use Rattle.fleet_rows.specs.declared.submitted.Submitted.{Submitted}
use Rattle.fleet_rows.specs.declared.submitted.Submitted.TheVariants.{Receipt, Full, QueueFault, Spent, Down, Memory}
use Rattle.routes_spec.specs.Commands.{Checked, IsPosted}
use Rattle.routes_spec.specs.Parameters.{parameters_of}
use Rattle.routes_spec.specs.Queries.{Question, IsQuestion, IsToldOn}
use Rattle.routes_spec.specs.Routes.{route_at, path_of, query_of, takes_method}
use Rattle.routes_spec.specs.declared.route.Route.{Route}
use Rattle.routes_spec.specs.declared.route.Route.TheVariants.{Commands, Queries, RowsOf}

-- ---- the UUID of a receipt

abbrev pub hex_digit : ℕ → ℕ
hex_digit d = if nat_lt d 10 then 48 + d else 87 + d

-- `count` hexadecimal digits of a number, in lower case
abbrev pub hex_digits : ℕ → ℕ → List ℕ
hex_digits zero n = []
hex_digits (suc count) n = hex_digits count (n / 16) ++ hex_digit (n % 16) ∷ []

-- a UUID of version 8 (RFC 9562, section 5.8) with the receipt in the first and the last 32 bits
abbrev pub uuid_text : ℕ → List ℕ
uuid_text r = hex_digits 8 (r / 2 ^ 32) ++ codes "-0000-8000-8000-0000" ++ hex_digits 8 (r % 2 ^ 32)

abbrev pub uuid_body : ℕ → List ℕ
uuid_body r = codes "{\"uuid\":\"" ++ uuid_text r ++ codes "\"}"

-- ---- answers. An answer ends the connection exactly if its request does, or if its code is 500

abbrev pub done : Bool → Option ℕ → List ℕ → Answer
done ends records body = record { code = 200; records = records; seen = None; close = ends; body = body }

abbrev pub error : Bool → ℕ → List ℕ → Answer
error ends code text = record { code = code; records = None; seen = None; close = ends; body = error_body text }

-- ---- what happened with a request: the call of `submit` and its answer, if it was called; and the texts that were read as
-- patterns, in order, each with whether it was refused

pub record Met : Type 0 where
  pub submitted : Option (Command × Submitted)
  pub asked : List Asked

abbrev pub nothing_met : Met
nothing_met = record { submitted = None; asked = [] }

-- ---- the command route

abbrev pub submitted_answer : Bool → Submitted → Answer
submitted_answer ends (Receipt r) = done ends None (uuid_body r)
submitted_answer ends Full = error ends 503 (codes "queue full")
submitted_answer ends QueueFault = error ends 503 (codes "queue fault")
submitted_answer ends Spent = error ends 503 (codes "queue spent")
submitted_answer ends Down = error ends 503 (codes "queue down")
submitted_answer ends Memory = memory_answer

-- `submit` is called exactly if all checks pass
abbrev pub IsPostAnswer : Bool → Checked Command → Met → Answer → Type 0
IsPostAnswer ends (Err text) met answer = (met ≡ nothing_met) × (answer ≡ error ends 400 text)
IsPostAnswer ends (Ok command) met answer =
    (s : Submitted) × (met ≡ record { submitted = Some (command, s); asked = [] }) × (answer ≡ submitted_answer ends s)

abbrev pub IsCommandAnswer : ℤ → Request → Met → Answer → Type 0
IsCommandAnswer now r met answer =
    (posted : Checked Command) × IsPosted now (parameters_of (query_of r.target)) r.body posted × IsPostAnswer r.ends posted met answer

-- ---- the query routes, with the rows of this world and this way to print them

module _ (w : World) (print : OutRows → List ℕ) where
  abbrev pub total_of : Paging → OutRows → Option ℕ
  total_of p rows = if p.include_total then Some (length rows.rows) else None

  abbrev pub paged_answer : Bool → OutRows → Result Paging (List ℕ) → Answer
  paged_answer ends rows (Err name) = error ends 400 (codes "bad paging " ++ name)
  paged_answer ends rows (Ok p) = done ends (total_of p rows) (print (page p rows))

  -- the rows of a query, unless a sum is too large or a paging parameter is bad
  abbrev pub IsSummedAnswer : Bool → Level → (List ℕ → Option ParamValue) → Option (List ℕ) → Answer → Type 0
  IsSummedAnswer ends q under (Some place) answer = answer ≡ error ends 400 (refusal_text (SumTooLarge place))
  IsSummedAnswer ends q under None answer =
      (paging : Result Paging (List ℕ)) × IsPagingOf (names_of q) under paging × (answer ≡ paged_answer ends (means w q) paging)

  -- the query's patterns are read in order. A refused pattern is reported before any sum
  abbrev pub IsRowsAnswer : Bool → Level → (List ℕ → Option ParamValue) → List Asked → Answer → Type 0
  IsRowsAnswer ends q under asked answer =
      ((asked ≡ taken (level_patterns q)) × IsSummedAnswer ends q under (too_large w q) answer)
      ⊎ ((place : List ℕ) × IsFirstRefused (level_patterns q) (Some []) (Some asked) place × (answer ≡ error ends 400 (refusal_text (BadPattern place))))

  abbrev pub IsToldAnswer : Bool → (List ℕ → Option ParamValue) → Option Told → List Asked → Answer → Type 0
  IsToldAnswer ends under None asked answer = (asked ≡ []) × (answer ≡ error ends 400 (codes "missing query"))
  IsToldAnswer ends under (Some (Err why)) asked answer = (asked ≡ []) × (answer ≡ error ends 400 (refusal_text why))
  IsToldAnswer ends under (Some (Ok q)) asked answer = IsRowsAnswer ends q under asked answer

  abbrev pub IsQuestionAnswer : Bool → Route → Option Question → List Asked → Answer → Type 0
  IsQuestionAnswer ends route None asked answer = (asked ≡ []) × (answer ≡ error ends 400 (codes "bad body"))
  IsQuestionAnswer ends route (Some question) asked answer =
      (told : Option Told) × IsToldOn route question.query told × IsToldAnswer ends question.under told asked answer

  abbrev pub IsQueryAnswer : Route → Request → Met → Answer → Type 0
  IsQueryAnswer route r met answer =
      (met.submitted ≡ None)
      × ((question : Option Question) × IsQuestion r.method (parameters_of (query_of r.target)) r.body question
      × IsQuestionAnswer r.ends route question met.asked answer)

  -- ---- every request. `now` is the moment at which commands are received

  abbrev pub IsRouteAnswer : ℤ → Route → Request → Met → Answer → Type 0
  IsRouteAnswer now Commands r met answer = IsCommandAnswer now r met answer
  IsRouteAnswer now Queries r met answer = IsQueryAnswer Queries r met answer
  IsRouteAnswer now (RowsOf e) r met answer = IsQueryAnswer (RowsOf e) r met answer

  abbrev pub IsMethodAnswer : ℤ → Bool → Route → Request → Met → Answer → Type 0
  IsMethodAnswer now true route r met answer = IsRouteAnswer now route r met answer
  IsMethodAnswer now false route r met answer = (met ≡ nothing_met) × (answer ≡ error r.ends 405 (codes "bad method"))

  abbrev pub IsPathAnswer : ℤ → Option Route → Request → Met → Answer → Type 0
  IsPathAnswer now None r met answer = (met ≡ nothing_met) × (answer ≡ error r.ends 404 (codes "no such path"))
  IsPathAnswer now (Some route) r met answer = IsMethodAnswer now (takes_method route r.method) route r met answer

  -- the answer to this request, if this happened with it
  abbrev pub IsAnswer : ℤ → Request → Met → Answer → Type 0
  IsAnswer now r met answer = IsPathAnswer now (route_at (path_of r.target)) r met answer
