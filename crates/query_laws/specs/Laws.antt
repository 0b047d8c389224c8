-- Statements of the laws on queries.
use Rattle.std.specs.Prelude.{◌≡◌, ℕ, List, [], Some, None, Ok, Err, IsTrue, if◌then◌else◌}
use Rattle.json_machine.specs.text_spec.Json.{Json}
use Rattle.query_spec.specs.fleet_rows.declared.row.Entity.{Entity}
use Rattle.query_spec.specs.declared.parts.Name.{Name}
use Rattle.query_spec.specs.declared.sought.Sought.{Sought}
use Rattle.query_spec.specs.Answer.{Answer, AnswerOf, entity_name, is_queryable, query, route}
use Rattle.query_spec.specs.Ast.{Read, route_at}
use Rattle.query_spec.specs.Check.{entity_named, level_fault}
use Rattle.query_spec.specs.Query.{Level}
use Rattle.query_laws.specs.Faults.{IsFirst, HasFault}
use Rattle.query_laws.specs.Grammar.{SpellsQuery, SpellsRoute, IsShallow}
use Rattle.query_laws.specs.Places.{IsPlaceIn}
use Rattle.query_laws.specs.Refused as kind
use Rattle.query_laws.specs.Refused.{IsRefused, told}

abbrev pub TextsHaveSomeAnswer : Type 0
TextsHaveSomeAnswer = (ast : Json → Read Level) (text : List ℕ) → (answer : Answer) × AnswerOf ast text answer

abbrev pub TextsHaveOneAnswer : Type 0
TextsHaveOneAnswer =
    (ast : Json → Read Level) (text : List ℕ) (answer other : Answer) → AnswerOf ast text answer → AnswerOf ast text other
    → answer ≡ other

-- an entity that a query may name is found by its name, any other isn't
abbrev pub EntitiesHaveNames : Type 0
EntitiesHaveNames = (e : Entity) → entity_named (entity_name e) ≡ (if is_queryable e then Some e else None)

-- only its name names an entity
abbrev pub OnlyNamesNameEntities : Type 0
OnlyNamesNameEntities = (s : List ℕ) (e : Entity) → entity_named s ≡ Some e → (s ≡ entity_name e) × IsTrue (is_queryable e)

-- whatever is read is spelt by a form of the grammar
abbrev pub QueriesAreSpelt : Type 0
QueriesAreSpelt = (v : Json) (q : Level) → query v ≡ Ok q → SpellsQuery v q

abbrev pub QueriesAreShallow : Type 0
QueriesAreShallow = (v : Json) (q : Level) → query v ≡ Ok q → IsShallow q

-- every form is read
abbrev pub SpeltQueriesAreRead : Type 0
SpeltQueriesAreRead = (v : Json) (q : Level) → SpellsQuery v q → query v ≡ Ok q

abbrev pub RoutesAreSpelt : Type 0
RoutesAreSpelt = (e : Name) (v : Json) (q : Level) → route_at e [] v ≡ Ok q → SpellsRoute e v q

abbrev pub SpeltRoutesAreRead : Type 0
SpeltRoutesAreRead = (e : Name) (v : Json) (q : Level) → SpellsRoute e v q → route_at e [] v ≡ Ok q

-- a fault's place is a place in the value
abbrev pub FaultsStandInTheValue : Type 0
FaultsStandInTheValue = (v : Json) (p : List ℕ) → query v ≡ Err p → IsPlaceIn v p

abbrev pub FaultsOfRoutesStandInTheValue : Type 0
FaultsOfRoutesStandInTheValue = (e : Name) (v : Json) (p : List ℕ) → route_at e [] v ≡ Err p → IsPlaceIn v p

-- of each kind the fault that is told is the first of all
abbrev pub FirstFaultsAreTold : Type 0
FirstFaultsAreTold = (k : Sought) (v : Json) (q : Level) → query v ≡ Ok q → IsFirst (level_fault k q) (HasFault k q)

abbrev pub FirstFaultsOfRoutesAreTold : Type 0
FirstFaultsOfRoutesAreTold =
    (k : Sought) (e : Entity) (v : Json) (q : Level) → route e v ≡ Ok q → IsFirst (level_fault k q) (HasFault k q)

-- the place of a fault is the first of all places at which no form allows the value
abbrev pub FirstRefusalsAreTold : Type 0
FirstRefusalsAreTold = (v : Json) → IsFirst (told (query v)) (IsRefused kind.query v)

abbrev pub FirstRefusalsOfRoutesAreTold : Type 0
FirstRefusalsOfRoutesAreTold = (e : Name) (v : Json) → IsFirst (told (route_at e [] v)) (IsRefused kind.route v)
