-- Statements on the rows of facts.
use Rattle.std.specs.Prelude.{◌≡◌, ◌↔◌, [], ◌∷◌, false, not, Some, filter}
use Rattle.std.specs.List.{Contains}
use Rattle.std.specs.List.Sorted.{IsStrictlySortedBy}
use Rattle.std.specs.declared.cmp.Ordering.{Ordering}
use Rattle.std.specs.Ordering.{ordering_then}
use Rattle.spool_spec.specs.text_spec.Json.{HasDistinctKeys}
use Rattle.spool_spec.specs.text_spec.Compact.{text_cmp}
use Rattle.spool_spec.specs.fleet_rows.declared.change.Change.{Change}
use Rattle.spool_spec.specs.fleet_rows.declared.change.Change.TheVariants.{Facts}
use Rattle.spool_spec.specs.fleet_rows.declared.change.FactsChange.{FactsChange}
use Rattle.spool_spec.specs.fleet_rows.declared.command.Kind.TheVariants as kind
use Rattle.spool_spec.specs.fleet_rows.declared.settings.Ttls.{Ttls}
use Rattle.spool_spec.specs.fleet_rows.declared.applied.Applied.{Applied}
use Rattle.spool_spec.specs.history_spec.Trace.{applied, swept, Trace}
use Rattle.spool_spec.specs.history_spec.Node.{newest}
use Rattle.spool_spec.specs.history_spec.Life.{life, is_inactive}
use Rattle.spool_spec.specs.history_spec.Facts.{FactRow, fact_rows, active_fact_rows}

-- rows are compared by certname, then by name
abbrev pub row_cmp : FactRow → FactRow → Ordering
row_cmp a b = ordering_then (text_cmp a.certname b.certname) (text_cmp a.name b.name)

-- if the command is facts, their names are distinct
abbrev pub HasDistinctNames : Change → Type 0
HasDistinctNames (Facts c) = HasDistinctKeys c.values
HasDistinctNames _ = Unit {0}

abbrev pub HaveDistinctNames : Trace → Type 0
HaveDistinctNames [] = Unit {0}
HaveDistinctNames (applied x ∷ earlier) = HasDistinctNames x.change × HaveDistinctNames earlier
HaveDistinctNames (swept kinds m ∷ earlier) = HaveDistinctNames earlier

-- each row is below the rows after it, so each certname has a name at most once
abbrev pub RowsAreStrictlySorted : Type 0
RowsAreStrictlySorted =
    (ttls : Ttls) (history : Trace) → HaveDistinctNames history
    → IsStrictlySortedBy row_cmp (fact_rows ttls history) × IsStrictlySortedBy row_cmp (active_fact_rows ttls history)

-- the newest facts of the row's node contain the row's fact and have its environment
pub record StandsForNewestFact (ttls : Ttls) (history : Trace) (row : FactRow) : Type 0 where
  pub command : Applied
  pub facts : FactsChange
  pub is_newest : newest kind.Facts (life ttls row.certname history) ≡ Some command
  pub facts_are : command.change ≡ Facts facts
  pub environment : row.environment ≡ facts.environment
  pub fact : Contains facts.values (row.name, row.value)

abbrev pub RowsAreTheNewestFacts : Type 0
RowsAreTheNewestFacts =
    (ttls : Ttls) (history : Trace) (row : FactRow)
    → Contains (fact_rows ttls history) row ↔ StandsForNewestFact ttls history row

-- the active rows are the rows whose node is active
abbrev pub ActiveRowsAreOfActiveNodes : Type 0
ActiveRowsAreOfActiveNodes =
    (ttls : Ttls) (history : Trace) (row : FactRow)
    → Contains (active_fact_rows ttls history) row
    ↔ (Contains (fact_rows ttls history) row × (is_inactive ttls history row.certname ≡ false))

-- the active rows keep the order of all rows
abbrev pub ActiveRowsStandInOrder : Type 0
ActiveRowsStandInOrder =
    (ttls : Ttls) (history : Trace)
    → active_fact_rows ttls history
    ≡ filter (λ (row : FactRow). not (is_inactive ttls history row.certname)) (fact_rows ttls history)
