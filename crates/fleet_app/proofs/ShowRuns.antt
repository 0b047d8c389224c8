-- What `show` ensures, from its answer by cases.
use Rattle.std.proofs.Common.{◌≡◌, refl, subst, ℕ, List, Option}
use Rattle.std.specs.Io.KnownBytes.{Keeps}
use Rattle.busy_commands.specs.fleet_ports.Counts.{Counts}
use Rattle.busy_commands.specs.calm_commands.Told.{Stream}
use Rattle.busy_commands.specs.calm_commands.declared.status.Status.{Status}
use Rattle.busy_commands.specs.calm_commands.declared.status.Status.TheVariants.{Done, SpoolBad, ReadFault, WriteFault, Memory}
use Rattle.fleet_app.specs.Show.{MatchShown}
use Rattle.fleet_app.specs.Runs.{IsShowEnd, IsShowRun}
use Rattle.fleet_app.proofs.Complete.{done_or_memory, bad_or_memory}

ends_of : (s : Status) (bytes rest before after : Option (List ℕ)) → MatchShown s bytes rest before after → IsShowEnd s
ends_of Done bytes rest before after m = tt
ends_of (SpoolBad at) bytes rest before after m = tt
ends_of ReadFault bytes rest before after m = tt
ends_of WriteFault bytes rest before after m = tt
ends_of Memory bytes rest before after m = tt
ends_of _ bytes rest before after m = absurd m

silent_of : (s : Status) (bytes rest before after : Option (List ℕ)) → MatchShown s bytes rest before after → (s ≡ Done → ⊥) → (s ≡ WriteFault → ⊥) → Keeps before after
silent_of Done bytes rest before after m d w = absurd (d refl)
silent_of (SpoolBad at) bytes rest before after m d w = m.1
silent_of ReadFault bytes rest before after m d w = m
silent_of WriteFault bytes rest before after m d w = absurd (w refl)
silent_of Memory bytes rest before after m d w = m
silent_of _ bytes rest before after m d w = absurd m

pub shown_run : (s : Status) (spool spool_after out out_after : Stream) → MatchShown s spool.bytes spool_after.bytes out.bytes out_after.bytes
    → Counts spool.faults spool_after.faults (s ≡ ReadFault) → Counts out.faults out_after.faults (s ≡ WriteFault) → IsShowRun spool spool_after out out_after s
shown_run s spool spool_after out out_after m read write = record {
  ends = ends_of s spool.bytes spool_after.bytes out.bytes out_after.bytes m;
  bad = λ at is. (at_status (SpoolBad at) is).0;
  good = λ is. (at_status Done is).0;
  read_cause = read;
  write_cause = write;
  read_to_the_end = λ is. (at_status Done is).1;
  read_before_writing = λ is. (at_status WriteFault is).1;
  prints = λ is. (at_status Done is).2;
  prints_part = λ is. (at_status WriteFault is).2;
  silent = silent_of s spool.bytes spool_after.bytes out.bytes out_after.bytes m;
  complete = λ tells no_read no_write. done_or_memory s spool.bytes spool_after.bytes out.bytes out_after.bytes spool.faults spool_after.faults out.faults out_after.faults m read write tells no_read no_write;
  complete_bad = λ at tells no_read. bad_or_memory s at spool.bytes spool_after.bytes out.bytes out_after.bytes spool.faults spool_after.faults m read tells no_read;
}
  where
    at_status : (t : Status) → s ≡ t → MatchShown t spool.bytes spool_after.bytes out.bytes out_after.bytes
    at_status t is = subst (λ (u : Status). MatchShown u spool.bytes spool_after.bytes out.bytes out_after.bytes) is m
