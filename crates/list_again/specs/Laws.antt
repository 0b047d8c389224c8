-- Statements on histories that tell nodes again.
use Rattle.std.specs.Prelude.{◌≡◌, ℕ, ℤ, List, Option}
use Rattle.std.specs.List.{AllByRecursion}
use Rattle.std.specs.List.Sorted.{IsStrictlySortedBy}
use Rattle.checkpoint_spec.specs.fleet_rows.declared.applied.Applied.{Applied}
use Rattle.checkpoint_spec.specs.fleet_rows.declared.settings.Ttls.{Ttls}
use Rattle.checkpoint_spec.specs.history_spec.Trace.{Trace, IsTrace}
use Rattle.checkpoint_spec.specs.table_machine.Table.{Table, table_of}
use Rattle.checkpoint_spec.specs.Histories.{checkpoint}
use Rattle.checkpoint_spec.specs.Lists.{list_of}
use Rattle.list_again.specs.Rules.{IsTold}
use Rattle.list_again.specs.Told.{Told, told_cmp, changes_told, history_told, table_told}
use Rattle.list_again.specs.Whole.{IsWholeTable, table_again}

-- nodes in their order, each told by its rules, make the table of what was told, whatever the receipts
abbrev pub ToldNodesMakeTheTable : Type 0
ToldNodesMakeTheTable =
    (ttls : Ttls) (expiry retention : Option ℤ) (tolds : List (Told Applied))
    → IsStrictlySortedBy told_cmp tolds → AllByRecursion (λ told. IsTold ttls retention (changes_told told)) tolds
    → table_of ttls (history_told expiry retention tolds) ≡ table_told ttls expiry retention tolds

-- every table that meets the rules is the table of a history: of the one that tells it again
abbrev pub TablesAreToldAgain : Type 0
TablesAreToldAgain = (spare : List ℕ → ℕ) (table : Table) → IsWholeTable table → table_of table.ttls (table_again spare table) ≡ table

-- so its list is the checkpoint of that history
abbrev pub ListsAreCheckpointsAgain : Type 0
ListsAreCheckpointsAgain =
    (spare : List ℕ → ℕ) (table : Table) → IsWholeTable table → IsTrace (table_again spare table)
    → checkpoint table.ttls (table_again spare table) ≡ list_of table

-- the table of each history meets the rules
abbrev pub TablesAreWhole : Type 0
TablesAreWhole = (ttls : Ttls) (history : Trace) → IsTrace history → IsWholeTable (table_of ttls history)
