-- The answer to a text: the query that it spells, or the first reason why it spells none.
use Rattle.std.specs.Prelude.{◌≡◌, ◌<◌, ◌≤◌, ℕ, List, [], length, Bool, true, false, Option, Some, None, Result, Ok, Err, codes}
use Rattle.fleet_rows.specs.text_spec.Json.{Json}
use Rattle.fleet_rows.specs.text_spec.JsonText.{Spells, NotJsonAt, TooDeepAt}
use Rattle.fleet_rows.specs.declared.row.Entity.{Entity}
use Rattle.fleet_rows.specs.declared.row.Entity.TheVariants.{Nodes, Factsets, Facts, Catalogs, Resources, Edges, Reports, FactContents, Inventory, Events, EventCounts}
use Rattle.query_spec.specs.declared.sought.Sought.TheVariants as seek
use Rattle.query_spec.specs.Ast.{Read, query_at, route_at}
use Rattle.query_spec.specs.Check.{Place, level_fault}
use Rattle.query_spec.specs.Parts.{name}
use Rattle.query_spec.specs.Query.{Level}
use Rattle.query_spec.specs.Limits.{most_query}

-- the refusals, in the order in which they are reported
pub data Refusal : Type 0 where
  too_long : Refusal
  not_json : ℕ → Refusal
  not_query : Place → Refusal
  unknown_entity : Place → Refusal
  unknown_field : Place → Refusal
  bad_operand : Place → Refusal

abbrev pub Answer : Type 0
Answer = Result Level Refusal

-- the refusal at this place, or the answer if there is none
abbrev pub unless_at : Option Place → (Place → Refusal) → Answer → Answer
unless_at None refusal answer = answer
unless_at (Some p) refusal answer = Err (refusal p)

abbrev pub checked : Level → Answer
checked q =
    unless_at (level_fault seek.Entity q) unknown_entity
    (unless_at (level_fault seek.Field q) unknown_field (unless_at (level_fault seek.Operand q) bad_operand (Ok q)))

abbrev pub answer_of : Read Level → Answer
answer_of (Err p) = Err (not_query p)
answer_of (Ok q) = checked q

-- the answer to a text whose JSON value `ast` reads. More than 1,048,576 bytes are refused without reading them. Opening level
-- 128 counts as no JSON
pub data AnswerOf (ast : Json → Read Level) (text : List ℕ) (answer : Answer) : Type 0 where
  long : most_query < length text → answer ≡ Err too_long → AnswerOf ast text answer
  no_json : (at : ℕ) → length text ≤ most_query → NotJsonAt text at → answer ≡ Err (not_json at) → AnswerOf ast text answer
  deep : (at : ℕ) → length text ≤ most_query → TooDeepAt text at → answer ≡ Err (not_json at) → AnswerOf ast text answer
  value : (v : Json) → length text ≤ most_query → Spells text v → answer ≡ answer_of (ast v) → AnswerOf ast text answer

abbrev pub entity_name : Entity → List ℕ
entity_name Nodes = codes "nodes"
entity_name Factsets = codes "factsets"
entity_name Facts = codes "facts"
entity_name Catalogs = codes "catalogs"
entity_name Resources = codes "resources"
entity_name Edges = codes "edges"
entity_name Reports = codes "reports"
entity_name FactContents = codes "fact_contents"
entity_name Inventory = codes "inventory"
entity_name Events = codes "events"
entity_name EventCounts = codes "event_counts"

-- whether a query may name the entity
abbrev pub is_queryable : Entity → Bool
is_queryable FactContents = false
is_queryable Inventory = false
is_queryable Events = false
is_queryable EventCounts = false
is_queryable _ = true

-- reads a whole query
abbrev pub query : Json → Read Level
query = query_at []

-- reads the filter or extract of an entity's route
abbrev pub route : Entity → Json → Read Level
route e = route_at (name (entity_name e) []) []
