-- The question that a request asks on a query route.
use Rattle.std.specs.Prelude.{◌≡◌, ℕ, List, [], Bool, true, false, codes, Option, Some, None, Ok, Err, if◌then◌else◌}
use Rattle.std.specs.Option.{option_map}
use Rattle.http_spec.specs.text_spec.Json.{Json, Members, string, array, object, members_list, find_member}
use Rattle.http_spec.specs.text_spec.JsonText.{Spells}
use Rattle.http_spec.specs.text_spec.Compact.{compact}
use Rattle.query_answer.specs.query_spec.Answer as spelt
use Rattle.query_answer.specs.query_spec.Answer.{AnswerOf, is_queryable}
use Rattle.query_answer.specs.means_laws.Laws.{whole}
use Rattle.query_answer.specs.Told.{Told, told_of, in_ast}
use Rattle.query_answer.specs.declared.refusal.QueryRefusal.TheVariants.{UnknownEntity}
use Rattle.paging_params.specs.Params.{ParamValue, url, body, last_under}
use Rattle.routes_spec.specs.Parameters.{Parameters}
use Rattle.routes_spec.specs.Routes.{is_post}
use Rattle.routes_spec.specs.declared.route.Route.{Route}
use Rattle.routes_spec.specs.declared.route.Route.TheVariants.{Commands, Queries, RowsOf}

-- the text of the query, if there is one, and the paging parameters by name
pub record Question : Type 0 where
  pub query : Option (List ℕ)
  pub under : List ℕ → Option ParamValue

-- the question of a URL's parameters
abbrev pub asked_by_url : Parameters → Question
asked_by_url params = record { query = last_under (codes "query") params; under = λ name. option_map url (last_under name params) }

-- the query among the members of an object: a string, or an array as its compact text. Any other value is an error
abbrev pub query_text : Option Json → Option (Option (List ℕ))
query_text None = Some None
query_text (Some (string text)) = Some (Some text)
query_text (Some (array vs)) = Some (Some (compact (array vs)))
query_text (Some _) = None

abbrev pub asked_by : List (List ℕ × Json) → Option (List ℕ) → Question
asked_by ms query = record { query = query; under = λ name. option_map body (find_member name ms) }

abbrev pub asked_by_members : List (List ℕ × Json) → Option Question
asked_by_members ms = option_map (asked_by ms) (query_text (find_member (codes "query") ms))

-- the question of a body: it spells such an object, or asks none
abbrev pub IsQuestionOfBody : List ℕ → Option Question → Type 0
IsQuestionOfBody body (Some question) = (ms : Members) × Spells body (object ms) × (asked_by_members (members_list ms) ≡ Some question)
IsQuestionOfBody body None = (ms : Members) → Spells body (object ms) → asked_by_members (members_list ms) ≡ None

-- a POST asks only by its body, any other method by its URL
abbrev pub IsQuestionBy : Bool → Parameters → List ℕ → Option Question → Type 0
IsQuestionBy true params body question = IsQuestionOfBody body question
IsQuestionBy false params body question = question ≡ Some (asked_by_url params)

abbrev pub IsQuestion : List ℕ → Parameters → List ℕ → Option Question → Type 0
IsQuestion method params body question = IsQuestionBy (is_post method) params body question

-- the query of a text on a route: on the route of queries in its language, on an entity's route in the AST. There a missing text
-- asks for all rows. On the route of queries a missing text is an error. An entity that no query may name is unknown
abbrev pub IsToldOn : Route → Option (List ℕ) → Option Told → Type 0
IsToldOn Commands query told = told ≡ None
IsToldOn Queries None told = told ≡ None
IsToldOn Queries (Some text) None = ⊥
IsToldOn Queries (Some text) (Some told) = told_of text told
IsToldOn (RowsOf e) None told = told ≡ Some (if is_queryable e then Ok (whole e) else Err (UnknownEntity []))
IsToldOn (RowsOf e) (Some text) None = ⊥
IsToldOn (RowsOf e) (Some text) (Some told) = in_ast (AnswerOf (spelt.route e) text) told
