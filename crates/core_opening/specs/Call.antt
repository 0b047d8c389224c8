-- The contract of an opening: how its answer and the four disks relate.
use Rattle.std.specs.Prelude.{◌≡◌, ℕ, [], ◌∷◌, Result, IfOk, IfErr, IsTrue}
use Rattle.core_state.specs.fleet_ports.declared.disk.Disk as disk
use Rattle.core_state.specs.fleet_ports.declared.disk.Disks.{Disks}
use Rattle.core_state.specs.fleet_rows.declared.settings.Ttls.{Ttls}
use Rattle.core_state.specs.core_spec.declared.event.Event.TheVariants.{Restart}
use Rattle.core_state.specs.core_spec.History.{History}
use Rattle.core_opening.specs.declared.faults.FileName.{FileName}
use Rattle.core_opening.specs.declared.faults.OpenCoreFault.{OpenCoreFault}
use Rattle.core_opening.specs.declared.faults.OpenCoreFault.TheVariants.{QueueFault, Damaged}
use Rattle.core_opening.specs.Opened.{LogCore, seen_queue, seen_store, FilesStand, DisksStand, MatchOpening, IsCoreDamage, CoreStandsForAll, HasLogs, IsUpCore}
use Rattle.core_opening.specs.Opened.{disks_after, QueueFaults, StoreFaults, IsQueueFault, IsStoreFault, AllAreUntouched, KeepsRecords, AllImagesAreKept, OpeningIsWithin, IsAtStart}

pub record CoreOpens {D : Type 0} (d : disk.Ghosts D) (result : Result (LogCore D) (OpenCoreFault × Disks D)) (disks : Disks D) : Type 0 where
  -- The answer tells the records, the first damage, or that a Done has no room, byte for byte.
  pub told : IsTrue d.is_told → MatchOpening result (seen_queue d disks) (seen_store d disks)
  -- Damaged files aren't opened. Files that stand for a history aren't damaged.
  pub undamaged : IsTrue d.is_told → IfOk result (λ c. (file : FileName) (at : ℕ)
      → IsCoreDamage (seen_queue d disks) (seen_store d disks) file at → ⊥)
  pub never_damaged : IsTrue d.is_told → (ttls : Ttls) (history : History)
      → FilesStand ttls (d.seen disks.queue_a) (d.seen disks.queue_b) (d.seen disks.store_a) (d.seen disks.store_b) history
      → IfErr result (λ e. (file : FileName) (at : ℕ) → e.0 ≡ Damaged file at → ⊥)
  -- The core stands for each history that the records stand for, followed by the restart. It is up.
  pub stands : IfOk result (CoreStandsForAll d)
  pub logs : IfOk result (HasLogs d.is_told d.seen)
  pub up : IfOk result (IsUpCore d.seen d.may_leave)
  pub events : IfOk result (λ c. c.events.list ≡ Restart ∷ [])
  pub start : IfOk result (IsAtStart d.fault_count disks)
  -- If each image stands for a history at the start, each stands for it at every moment within.
  pub any_moment : IsTrue d.is_told → (ttls : Ttls) (history : History) → DisksStand d.may_leave ttls disks history
      → OpeningIsWithin d ttls disks (disks_after result) history
  pub untouched : IfErr result (λ e. (e.0 ≡ QueueFault → ⊥) → AllAreUntouched d disks e.1)
  -- Whatever the images were: after an error the records are those of before, as they are read, or these and the Done that lacked.
  pub kept : IsTrue d.is_told → IfErr result (λ e. KeepsRecords d.seen disks e.1)
  -- At every moment within, each image is one of the start, or has the records as they were read, or these and that Done.
  pub images : IsTrue d.is_told → AllImagesAreKept d disks (disks_after result)
  pub queue_cause : QueueFaults d disks (disks_after result) (IsQueueFault result)
  pub store_cause : StoreFaults d disks (disks_after result) (IsStoreFault result)
