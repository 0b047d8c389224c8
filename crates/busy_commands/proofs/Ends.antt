-- How the commands that may wait end, and that they never tell that the words are none.
use Rattle.std.proofs.Common.{◌≡◌, ◌∙◌, ℕ, ℤ, [], Option, sym, subst}
use Rattle.spool_run.specs.fleet_ports.declared.disk.Disks.{Disks}
use Rattle.spool_run.specs.fleet_hub.core_spec.History.{History}
use Rattle.spool_run.specs.fleet_hub.core_opening.Opened.{LogCore}
use Rattle.core_inbox.specs.link_serving.declared.end.ServeEnd.{ServeEnd}
use Rattle.core_inbox.specs.link_serving.declared.end.ServeEnd.TheVariants.{Done, FrontFault}
use Rattle.program_words.specs.declared.request.Request.{Request}
use Rattle.program_words.specs.declared.request.Request.TheVariants as request
use Rattle.program_words.specs.declared.request.Serving.{Serving}
use Rattle.spool_run.specs.calm_commands.declared.status.Status.{Status}
use Rattle.spool_run.specs.calm_commands.declared.status.Status.TheVariants as status
use Rattle.spool_run.specs.calm_commands.Told.{Stream}
use Rattle.spool_run.specs.calm_commands.Openings.{DiskSight, IsOpeningEnd}
use Rattle.spool_run.proofs.RunEnds.{never_usage}
use Rattle.busy_commands.specs.Serving.{FrontAndPatterns, end_status, ServesSo, IsRunAndServing, IsServing}
use Rattle.busy_commands.specs.Serving as so
use Rattle.busy_commands.specs.Busy.{IsBusy}

-- an end of serving
end_is : (end : ServeEnd) → end_status end ≡ status.Usage → ⊥
end_is Done is = (let apart : status.Done ≡ status.Usage = is in cc)
end_is FrontFault is = (let apart : status.ListenFault ≡ status.Usage = is in cc)

served_on : {D : Type 0} (w : DiskSight D) (now : ℤ) (serving : Serving) (before after : FrontAndPatterns) (disks : Disks D) (more : History) (found left : LogCore D) (answer : Status) → ServesSo w now serving before after disks more found left answer
    → answer ≡ status.Usage → ⊥
served_on w now serving before after disks more found left answer (so.deaf is listens front patterns same) usage = (let apart : status.ListenFault ≡ status.Usage = sym is ∙ usage in cc)
served_on w now serving before after disks more found left answer (so.heard end is listens serves each) usage = end_is end (sym is ∙ usage)

pub served_never_usage : {D : Type 0} (w : DiskSight D) (now : ℤ) (serving : Serving) (spool spool_after out out_after : Stream) (before after : FrontAndPatterns) (disks disks_after : Disks D) (answer : Status)
    → IsRunAndServing w now serving spool spool_after out out_after before after disks disks_after answer → answer ≡ status.Usage → ⊥
served_never_usage w now serving spool spool_after out out_after before after disks disks_after answer (so.stops not run same) usage =
    never_usage w now spool spool_after out out_after disks disks_after answer run usage
served_never_usage w now serving spool spool_after out out_after before after disks disks_after answer (so.goes_on found run leaves on) usage =
    served_on w now serving before after disks leaves.ran.more found on.left answer on.so usage

pub serve_never_usage : {D : Type 0} (w : DiskSight D) (now : ℤ) (serving : Serving) (before after : FrontAndPatterns) (disks disks_after : Disks D) (answer : Status) → IsServing w now serving before after disks disks_after answer → answer ≡ status.Usage → ⊥
serve_never_usage w now serving before after disks disks_after answer (so.unopened is same) usage = subst IsOpeningEnd usage is.ends
serve_never_usage w now serving before after disks disks_after answer (so.opened_to opened opens on) usage =
    served_on w now serving before after disks [] opened on.left answer on.so usage

-- a request that is neither command
pub not_busy : (it asked : Request) → it ≡ asked → ((workers : ℕ) (now : ℤ) (serving : Option Serving) → it ≡ request.Run workers now serving → ⊥) → ((serving : Serving) (now : ℤ) → it ≡ request.Serve serving now → ⊥)
    → IsBusy asked → ⊥
not_busy it (request.Run workers now serving) is no_run no_serve busy = no_run workers now serving is
not_busy it (request.Serve serving now) is no_run no_serve busy = no_serve serving now is
not_busy it _ is no_run no_serve busy = busy
