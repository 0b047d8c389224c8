-- The cause of each note.
use Rattle.std.specs.Prelude.{◌≡◌, ℕ, ◌%◌, ◌^◌, true, length}
use Rattle.std.specs.List.{AllByRecursion}
use Rattle.core_ends.specs.fleet_ports.Counts.{RoseBy}
use Rattle.core_ends.specs.Ends.{QueueRose}
use Rattle.core_ends.specs.fleet_rows.declared.command.Command.{Command}
use Rattle.core_ends.specs.core_state.declared.state.CoreState.{CoreState}
use Rattle.core_ends.specs.core_course.Sight.{Sight, is_down}
use Rattle.live_stage.specs.declared.note.Refused.{Refused}
use Rattle.live_stage.specs.declared.note.Refused.TheVariants.{QueueFault, QueueDown, StoreFault, StoreDown, CoreDown}
use Rattle.live_stage.specs.Notes.{NoteView, StageView, IsWithin}
use Rattle.live_stage.specs.Trace.{applied_count, sweep_count}

module _ {D K : Type 0} (w : Sight D K) where
  -- A count of the queue's disks rose since the core came under the lock; the store's count rose, or by two; the core is down.
  abbrev pub IsNoted : CoreState D K → CoreState D K → Refused Command → Type 0
  IsNoted start core (QueueFault command) = QueueRose w start core
  IsNoted start core QueueDown = is_down w core ≡ true
  IsNoted start core StoreFault = RoseBy 1 (w.store_faults start.store) (w.store_faults core.store)
  IsNoted start core (StoreDown kinds m) = RoseBy 2 (w.store_faults start.store) (w.store_faults core.store) × (is_down w core ≡ true)
  IsNoted start core CoreDown = is_down w core ≡ true

  -- each note of the stage has its cause
  abbrev pub AreNoted : StageView D K → Type 0
  AreNoted s = AllByRecursion (λ (note : NoteView). IsNoted s.start s.core note.what) s.notes

  -- The numbers beside a stage are those of its notes, of its sweeps and of its applied commands, modulo 2^64. The newest note has its
  -- place, and each note its cause.
  abbrev pub IsCounted : ℕ → ℕ → ℕ → StageView D K → Type 0
  IsCounted noted sweeps applied s =
      (noted ≡ length s.notes % 2 ^ 64)
      × (sweeps ≡ sweep_count s.core.events.list % 2 ^ 64)
      × (applied ≡ applied_count s.core.events.list % 2 ^ 64)
      × IsWithin s.notes (length s.core.events.list)
      × AreNoted s
