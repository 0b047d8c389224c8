-- A query over a core that was opened, or whose opening failed.
use Rattle.std.proofs.Common.{◌≡◌, inl, inr, ℕ, List, ◌++◌, arith, refl, subst, IsTrue}
use Rattle.std.specs.Io.KnownBytes.{Keeps}
use Rattle.query_answer.specs.fleet_ports.Counts.{Counts}
use Rattle.query_answer.specs.fleet_ports.declared.disk.Disks.{Disks}
use Rattle.query_answer.specs.fleet_rows.declared.settings.Ttls.{Ttls}
use Rattle.query_answer.specs.history_spec.Trace.{Trace}
use Rattle.query_answer.specs.fleet_tables.Stands.{Stands}
use Rattle.command_core.specs.core_spec.History.{History, trace_of}
use Rattle.command_core.specs.core_opening.Opened.{LogCore, disks_in}
use Rattle.query_answer.specs.means_spec.World.{world_of}
use Rattle.calm_commands.specs.declared.status.Status.{Status}
use Rattle.calm_commands.specs.declared.status.Status.TheVariants as status
use Rattle.calm_commands.specs.Told.{Stream}
use Rattle.calm_commands.specs.Openings.{DiskSight, StandAsRead, OpensTo, IsUnopened, IsOpeningEnd}
use Rattle.calm_commands.specs.Calm.{IsPrintEnd}
use Rattle.calm_commands.proofs.Opened.{printed_opens, unopened_opens}
use Rattle.query_answer.specs.Told.{Told, told_of}
use Rattle.calm_commands.specs.Rows.{PatternSight, AnswersText, PrintsRows, IsRowsEnd, IsPatternEnd, IsQueryRun}
use Rattle.calm_commands.proofs.Printed.{keeps}

rows_ends : (s : Status) → IsRowsEnd s → IsPrintEnd s
rows_ends status.Done ends = tt
rows_ends status.WriteFault ends = tt
rows_ends status.Memory ends = tt
rows_ends (status.QueryRefused why) ends = tt
rows_ends _ ends = absurd ends

-- the core's tables are those of each history that the files stand for
tables_stand : {D : Type 0} (w : DiskSight D) (disks : Disks D) (core : LogCore D) → OpensTo w disks core → IsTrue w.tells → (ttls : Ttls) (history : History) → StandAsRead w disks ttls history
    → Stands core.tables (trace_of history)
tables_stand w disks core opens told ttls history files =
    subst (λ (events : History). Stands core.tables (trace_of (events ++ history))) opens.events (opens.stands_for told ttls history files).1.holds.says.tables

module _ {D : Type 0} (w : DiskSight D) (text : List ℕ) (patterns patterns_after : PatternSight) (out out_after : Stream) (disks : Disks D) (answer : Status) where
  pub opened_query : (core : LogCore D) → OpensTo w disks core → IsRowsEnd answer
      → ((history : Trace) → Stands core.tables history → PrintsRows (world_of core.tables.ttls history patterns.says) text patterns.asked patterns_after.asked answer out.bytes out_after.bytes)
      → AnswersText answer (told_of text)
      → ((answer ≡ status.Done → ⊥) → (answer ≡ status.WriteFault → ⊥) → Keeps out.bytes out_after.bytes)
      → ((p t : List ℕ) → patterns_after.says p t ≡ patterns.says p t)
      → Counts out.faults out_after.faults (answer ≡ status.WriteFault)
      → Counts patterns.refusals patterns_after.refusals (IsPatternEnd answer)
      → IsQueryRun w text patterns patterns_after out out_after disks (disks_in core) answer
  opened_query core opens ends stands told silent same write pattern = record {
    opens = printed_opens w disks core answer opens (rows_ends answer ends);
    ends = inl ends;
    prints = λ tells ttls history files.
        subst (λ (t : Ttls). PrintsRows (world_of t (trace_of history) patterns.says) text patterns.asked patterns_after.asked answer out.bytes out_after.bytes)
        (opens.stands_for tells ttls history files).0 (stands (trace_of history) (tables_stand w disks core opens tells ttls history files));
    told = told;
    silent = silent;
    same = same;
    write_cause = write;
    pattern_cause = pattern;
  }

module _ {D : Type 0} (w : DiskSight D) (text : List ℕ) (patterns : PatternSight) (out : Stream) (disks after : Disks D) (answer : Status) (is : IsUnopened w disks after answer) where
  nothing_told : (s : Status) (told : Told → Type 0) → IsOpeningEnd s → AnswersText s told
  nothing_told status.QueueFault told ends = tt
  nothing_told status.StoreFault told ends = tt
  nothing_told (status.Damaged file at) told ends = tt
  nothing_told status.Memory told ends = tt
  nothing_told status.Spent told ends = tt
  nothing_told _ told ends = absurd ends

  nothing_printed : (s : Status) (ttls : Ttls) (history : Trace) → IsOpeningEnd s → PrintsRows (world_of ttls history patterns.says) text patterns.asked patterns.asked s out.bytes out.bytes
  nothing_printed status.QueueFault ttls history ends = keeps out.bytes
  nothing_printed status.StoreFault ttls history ends = keeps out.bytes
  nothing_printed (status.Damaged file at) ttls history ends = keeps out.bytes
  nothing_printed status.Memory ttls history ends = keeps out.bytes
  nothing_printed status.Spent ttls history ends = keeps out.bytes
  nothing_printed _ ttls history ends = absurd ends

  no_pattern : (s : Status) → IsOpeningEnd s → IsPatternEnd s → ⊥
  no_pattern status.QueueFault ends pattern = pattern
  no_pattern status.StoreFault ends pattern = pattern
  no_pattern (status.Damaged file at) ends pattern = pattern
  no_pattern status.Memory ends pattern = pattern
  no_pattern status.Spent ends pattern = pattern
  no_pattern _ ends pattern = absurd ends

  pub unopened_query : IsQueryRun w text patterns patterns out out disks after answer
  unopened_query = record {
    opens = unopened_opens w disks after answer is;
    ends = inr is.ends;
    prints = λ tells ttls history files. nothing_printed answer ttls (trace_of history) is.ends;
    told = nothing_told answer (told_of text) is.ends;
    silent = λ done fault. keeps out.bytes;
    same = λ p t. refl;
    write_cause = record { later = omega arith; cause = λ fault. absurd (subst IsOpeningEnd fault is.ends); calm = λ none. refl };
    pattern_cause = record { later = omega arith; cause = λ pattern. absurd (no_pattern answer is.ends pattern); calm = λ none. refl };
  }
