-- A spool that was taken whole is the work of one thread.
use Rattle.std.specs.Prelude.{◌≡◌, ℕ, ℤ, List, ◌++◌, Option, is_some, if◌then◌else◌}
use Rattle.fleet_hub.specs.fleet_rows.declared.row.Entity.{Entity}
use Rattle.fleet_hub.specs.history_spec.Thread.{Item}
use Rattle.fleet_hub.specs.table_spec.Rows.{rows}
use Rattle.fleet_hub.specs.core_spec.History.{History, command, trace_of}
use Rattle.fleet_hub.specs.core_spec.Thread.{one_thread}
use Rattle.fleet_hub.specs.core_laws.Outcomes.{endings}
use Rattle.fleet_hub.specs.core_laws.Threads.{items_of, dropped}
use Rattle.program_words.specs.spool_spec.Spool.{End}
use Rattle.fleet_hub.specs.core_state.declared.state.CoreState.{CoreState}
use Rattle.fleet_hub.specs.core_state.StandsFor.{history_of}
use Rattle.fleet_hub.specs.core_course.Sight.{Sight, Stood}
use Rattle.spool_run.specs.Intake.{TookAll}

-- After the history at the start, the items came in. The rows of each entity are those of one thread over the commands pending
-- then and these items, without the discarded ones. Each command that was ever submitted has ended exactly once.
pub record IsOneThread {D K : Type 0} (items : List Item) (old new : CoreState D K) (start : History) : Type 0 where
  pub more : History
  pub goes_on : history_of new start ≡ more ++ history_of old start
  pub items_are : items_of more ≡ items
  pub rows_are : (entity : Entity) → rows entity old.tables.ttls (trace_of (history_of new start)) ≡ rows entity old.tables.ttls (one_thread (history_of old start) items (dropped more))
  pub once : (r : ℕ) → endings r (history_of new start) ≡ (if is_some (command r (history_of new start)) then 1 else 0)

-- whichever history the core stood for
abbrev pub WholeSpoolsAreOneThread : {D K : Type 0} → Sight D K → Type 0
WholeSpoolsAreOneThread {D} {K} w =
    (now : ℤ) (bytes : Option (List ℕ)) (end : End) (old new : CoreState D K) (took : TookAll w now bytes end old new)
    → (start : History) → Stood w old start → IsOneThread took.items old new start
