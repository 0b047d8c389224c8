-- Superseding a command changes no table.
use Rattle.std.specs.Prelude.{◌≡◌, ℕ, ℤ, ◌∷◌, ◌++◌, Option, Some, Ok}
use Rattle.core_machine.specs.fleet_rows.declared.change.Change.{Change}
use Rattle.core_machine.specs.fleet_rows.declared.row.Entity.{Entity}
use Rattle.core_machine.specs.fleet_rows.declared.settings.Ttls.{Ttls}
use Rattle.core_machine.specs.history_spec.Trace.{applied, applied_as, Trace, IsTrace}
use Rattle.core_machine.specs.table_spec.Rows.{rows}
use Rattle.checkpoint_spec.specs.table_machine.Table.{table_of}
use Rattle.core_machine.specs.core_spec.declared.event.Event.TheVariants.{Supersede}
use Rattle.core_machine.specs.core_spec.History.{History, answer, trace_of}
use Rattle.core_machine.specs.core_spec.Legal.{IsLegal}

-- the command `q` may be superseded by `p`, and decodes to this change
pub record MayBeSuperseded (ttls : Ttls) (q p : ℕ) (change : Change) (history : History) : Type 0 where
  pub legal : IsLegal ttls (Supersede q p ∷ history)
  pub decodes : answer q history ≡ Some (Ok change)

-- applying the superseded command at that point leaves the table as it is, then and after any further events
abbrev pub SupersedingChangesNoTable : Type 0
SupersedingChangesNoTable =
    (ttls : Ttls) (q p : ℕ) (t : Option ℤ) (change : Change) (later : Trace) (history : History) → MayBeSuperseded ttls q p change history
    → IsTrace (later ++ applied (applied_as q t change) ∷ trace_of history)
    → table_of ttls (later ++ applied (applied_as q t change) ∷ trace_of history) ≡ table_of ttls (later ++ trace_of history)

abbrev pub SupersedingChangesNoRow : Type 0
SupersedingChangesNoRow =
    (entity : Entity) (ttls : Ttls) (q p : ℕ) (t : Option ℤ) (change : Change) (later : Trace) (history : History) → MayBeSuperseded ttls q p change history
    → IsTrace (later ++ applied (applied_as q t change) ∷ trace_of history)
    → rows entity ttls (later ++ applied (applied_as q t change) ∷ trace_of history) ≡ rows entity ttls (later ++ trace_of history)
