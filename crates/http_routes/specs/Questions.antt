-- The questions of the code, compared with the definition's.
use Rattle.std.specs.Prelude.{◌≡◌, ℕ, List, [], ◌∷◌, ◌++◌, codes, Option, Some, None}
use Rattle.http_spec.specs.text_spec.Json.{Json, object, members_list}
use Rattle.json_read.specs.declared.fault.ReadFault.{ReadFault}
use Rattle.json_read.specs.declared.fault.ReadFault.TheVariants as read
use Rattle.paging_params.specs.Params.{ParamValue, url, body, last_under}
use Rattle.routes_spec.specs.Queries.{Question as Meant, asked_by_members}
use Rattle.http_routes.specs.declared.question.Question.{Question}

-- the parameters from which a paging is read are the same
pub record SamePaging (u v : List ℕ → Option ParamValue) : Type 0 where
  pub limit : u (codes "limit") ≡ v (codes "limit")
  pub offset : u (codes "offset") ≡ v (codes "offset")
  pub order_by : u (codes "order_by") ≡ v (codes "order_by")
  pub include_total : u (codes "include_total") ≡ v (codes "include_total")

pub record Asks (question : Question) (meant : Meant) : Type 0 where
  pub query : question.query ≡ meant.query
  pub paging : SamePaging (λ name. last_under name question.params) meant.under

-- the same, for questions that may be missing
abbrev pub IsAskedSo : Option Question → Option Meant → Type 0
IsAskedSo (Some question) (Some meant) = Asks question meant
IsAskedSo None None = Unit {0}
IsAskedSo _ _ = ⊥

-- the question of a JSON value
abbrev pub IsAskedByValue : Option Question → Json → Type 0
IsAskedByValue question (object ms) = IsAskedSo question (asked_by_members (members_list ms))
IsAskedByValue question _ = question ≡ None

-- the question of bytes that couldn't be read as JSON: there is none
abbrev pub IsNoneBy : ReadFault → Option Question → Type 0
IsNoneBy read.Memory question = ⊥
IsNoneBy (read.NotJson at) question = question ≡ None
IsNoneBy (read.TooDeep at) question = question ≡ None

-- P holds for the question
abbrev pub IfAsked : Option Question → (Option Meant → Type 0) → Type 0
IfAsked question P = (meant : Option Meant) × IsAskedSo question meant × P meant

abbrev pub url_pair : List ℕ × List ℕ → List ℕ × ParamValue
url_pair p = (p.0, url p.1)

-- the parameters, and one more for the member if there is one
abbrev pub with_member : List ℕ → Option Json → List (List ℕ × ParamValue) → List (List ℕ × ParamValue)
with_member name None params = params
with_member name (Some j) params = params ++ (name, body j) ∷ []
