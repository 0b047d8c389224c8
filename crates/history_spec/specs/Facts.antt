-- The rows of the entity `facts`.
use Rattle.std.specs.Prelude.{ℕ, List, [], ◌∷◌, not, Option, Some, None, map, filter, flat_map}
use Rattle.json_machine.specs.text_spec.Json.{Json, Members, no_members, members_list}
use Rattle.json_machine.specs.text_spec.Compact.{insert_member}
use Rattle.wire_spec.specs.fleet_rows.declared.change.Change.{Change}
use Rattle.wire_spec.specs.fleet_rows.declared.change.Change.TheVariants.{Facts}
use Rattle.wire_spec.specs.fleet_rows.declared.change.FactsChange.{FactsChange}
use Rattle.wire_spec.specs.fleet_rows.declared.command.Kind.TheVariants as kind
use Rattle.wire_spec.specs.fleet_rows.declared.settings.Ttls.{Ttls}
use Rattle.wire_spec.specs.fleet_rows.declared.applied.Applied.{Applied}
use Rattle.history_spec.specs.Trace.{Trace}
use Rattle.history_spec.specs.Node.{newest}
use Rattle.history_spec.specs.Life.{life, nodes, is_inactive}

pub record FactRow : Type 0 where
  pub certname : List ℕ
  pub environment : Option (List ℕ)
  pub name : List ℕ
  pub value : Json

-- members sorted by the bytes of their keys
abbrev pub by_name : List (List ℕ × Json) → Members
by_name [] = no_members
by_name (m ∷ ms) = insert_member m.0 m.1 (by_name ms)

abbrev pub rows_of_facts : FactsChange → List FactRow
rows_of_facts c =
    map (λ m. record { certname = c.certname; environment = c.environment; name = m.0; value = m.1 }) (members_list (by_name c.values))

abbrev pub rows_of_change : Change → List FactRow
rows_of_change (Facts c) = rows_of_facts c
rows_of_change _ = []

abbrev pub rows_of_newest : Option Applied → List FactRow
rows_of_newest None = []
rows_of_newest (Some x) = rows_of_change x.change

-- the newest facts of a node
abbrev pub node_rows : Ttls → Trace → List ℕ → List FactRow
node_rows ttls history node = rows_of_newest (newest kind.Facts (life ttls node history))

-- all rows, sorted by certname and then by name
abbrev pub fact_rows : Ttls → Trace → List FactRow
fact_rows ttls history = flat_map (node_rows ttls history) (nodes ttls history)

-- the rows of nodes that are neither deactivated nor expired
abbrev pub active_fact_rows : Ttls → Trace → List FactRow
active_fact_rows ttls history =
    flat_map (node_rows ttls history) (filter (λ node. not (is_inactive ttls history node)) (nodes ttls history))
