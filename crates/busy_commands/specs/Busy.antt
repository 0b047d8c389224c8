-- What the commands that may wait do for their arguments.
use Rattle.std.specs.Prelude.{◌≡◌, ℕ, List, Some, None}
use Rattle.spool_run.specs.fleet_ports.declared.disk.Disks.{Disks}
use Rattle.spool_run.specs.calm_commands.Openings.{DiskSight}
use Rattle.spool_run.specs.calm_commands.declared.status.Status.{Status}
use Rattle.spool_run.specs.calm_commands.declared.status.Status.TheVariants as status
use Rattle.spool_run.specs.calm_commands.Told.{Stream}
use Rattle.program_words.specs.Words.{IsRequest}
use Rattle.program_words.specs.declared.request.Request.{Request}
use Rattle.program_words.specs.declared.request.Request.TheVariants as request
use Rattle.spool_run.specs.Runs.{IsRun}
use Rattle.busy_commands.specs.Serving.{FrontAndPatterns, IsRunAndServing, IsServing}

-- the request is one of these commands: `run` or `serve`
abbrev pub IsBusy : Request → Type 0
IsBusy (request.Run workers now serving) = Unit {0}
IsBusy (request.Serve serving now) = Unit {0}
IsBusy _ = ⊥

-- What such a request does, whatever the number of workers.
abbrev pub BusyRun : {D : Type 0} → DiskSight D → Request → Stream → Stream → Stream → Stream → FrontAndPatterns → FrontAndPatterns → Disks D → Disks D → Status → Type 0
BusyRun w (request.Run workers now None) spool spool_after out out_after before after disks disks_after answer =
    IsRun w now spool spool_after out out_after disks disks_after answer × (after ≡ before)
BusyRun w (request.Run workers now (Some serving)) spool spool_after out out_after before after disks disks_after answer =
    IsRunAndServing w now serving spool spool_after out out_after before after disks disks_after answer
BusyRun w (request.Serve serving now) spool spool_after out out_after before after disks disks_after answer =
    IsServing w now serving before after disks disks_after answer × (spool_after ≡ spool) × (out_after ≡ out)
BusyRun w _ spool spool_after out out_after before after disks disks_after answer = ⊥

-- The arguments ask for such a request, which is done. Or they ask for none; then the status says so, and nothing else is done.
-- Or there was no memory to read them; then too nothing else is done.
pub data IsBusyRun {D : Type 0} (w : DiskSight D) (words : List (List ℕ)) (spool spool_after out out_after : Stream) (before after : FrontAndPatterns) (disks disks_after : Disks D) (answer : Status) : Type 0 where
  runs : (asked : Request) → IsRequest words asked → BusyRun w asked spool spool_after out out_after before after disks disks_after answer
      → IsBusyRun w words spool spool_after out out_after before after disks disks_after answer
  refuses : ((asked : Request) → IsRequest words asked → IsBusy asked → ⊥) → answer ≡ status.Usage → spool_after ≡ spool → out_after ≡ out → after ≡ before → disks_after ≡ disks
      → IsBusyRun w words spool spool_after out out_after before after disks disks_after answer
  unread : answer ≡ status.Memory → spool_after ≡ spool → out_after ≡ out → after ≡ before → disks_after ≡ disks
      → IsBusyRun w words spool spool_after out out_after before after disks disks_after answer
