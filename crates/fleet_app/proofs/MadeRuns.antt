-- What `make` ensures, from the maker's answer.
use Rattle.std.proofs.Common.{◌≡◌, ℕ, refl}
use Rattle.busy_commands.specs.fleet_ports.Counts.{Counts}
use Rattle.busy_commands.specs.made_spec.Made.{made_text}
use Rattle.busy_commands.specs.spool_maker.Answer.{MatchMade}
use Rattle.busy_commands.specs.spool_maker.declared.maker.Made.{Made}
use Rattle.busy_commands.specs.spool_maker.declared.maker.Made.TheVariants as made
use Rattle.busy_commands.specs.calm_commands.Told.{Stream}
use Rattle.busy_commands.specs.calm_commands.declared.status.Status.{Status}
use Rattle.busy_commands.specs.calm_commands.declared.status.Status.TheVariants as status
use Rattle.fleet_app.specs.Runs.{IsMakeRun}

abbrev pub made_status : Made → Status
made_status made.Ok = status.Done
made_status made.WriteFault = status.WriteFault
made_status made.Memory = status.Memory

pub made_run : (seed count : ℕ) (out out_after : Stream) (answer : Made) → MatchMade answer (made_text seed count) out.bytes out_after.bytes
    → Counts out.faults out_after.faults (answer ≡ made.WriteFault) → IsMakeRun seed count out out_after (made_status answer)
made_run seed count out out_after made.Ok m write = record {
  ends = tt;
  prints = λ is. m;
  prints_part = λ is. absurd (cc);
  prints_front = λ is. absurd (cc);
  write_cause = record { later = write.later; cause = λ is. absurd (cc); calm = λ no. write.calm (λ is. absurd (cc)) };
}
made_run seed count out out_after made.WriteFault m write = record {
  ends = tt;
  prints = λ is. absurd (cc);
  prints_part = λ is. m;
  prints_front = λ is. absurd (cc);
  write_cause = record { later = write.later; cause = λ is. write.cause refl; calm = λ no. absurd (no refl) };
}
made_run seed count out out_after made.Memory m write = record {
  ends = tt;
  prints = λ is. absurd (cc);
  prints_part = λ is. absurd (cc);
  prints_front = λ is. m;
  write_cause = record { later = write.later; cause = λ is. absurd (cc); calm = λ no. write.calm (λ is. absurd (cc)) };
}
