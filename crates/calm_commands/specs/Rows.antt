-- What a query does to the disks and to the pattern reader, and what it prints.
use Rattle.std.specs.Prelude.{◌≡◌, ◌≢◌, ◌⊎◌, ℕ, List, [], ◌∷◌, ◌++◌, Bool, Option, Ok, Err}
use Rattle.std.specs.Io.KnownBytes.{Appends, Keeps}
use Rattle.query_answer.specs.fleet_ports.Counts.{Counts}
use Rattle.query_answer.specs.fleet_ports.declared.disk.Disks.{Disks}
use Rattle.command_core.specs.core_spec.History.{trace_of}
use Rattle.query_answer.specs.query_spec.Query.{Level}
use Rattle.query_answer.specs.means_spec.World.{World, world_of}
use Rattle.query_answer.specs.means_spec.OutRows.{lines_text}
use Rattle.query_answer.specs.pattern_port.Refused.{Asked}
use Rattle.query_answer.specs.Told.{Told, told_of}
use Rattle.query_answer.specs.Answers.{MatchAnswer, IsPatternFault}
use Rattle.query_answer.specs.declared.answer.AnswerFault.{AnswerFault}
use Rattle.query_answer.specs.declared.answer.AnswerFault.TheVariants as fault
use Rattle.query_answer.specs.declared.refusal.QueryRefusal.TheVariants.{BadPattern, SumTooLarge}
use Rattle.calm_commands.specs.declared.status.Status.{Status}
use Rattle.calm_commands.specs.declared.status.Status.TheVariants as status
use Rattle.calm_commands.specs.Told.{Stream, AppendsLess}
use Rattle.calm_commands.specs.Openings.{DiskSight, ForEachHistory, IsOpeningEnd}
use Rattle.calm_commands.specs.Calm.{OnlyOpens}

-- ---- what contracts see of a pattern reader

-- what its patterns say of texts, the patterns that it was given so far, if these are told, and its count of refusals
pub record PatternSight : Type 0 where
  pub says : List ℕ → List ℕ → Bool
  pub asked : Option (List Asked)
  pub refusals : ℕ

abbrev pub pattern_sight : (List ℕ → List ℕ → Bool) → Option (List Asked) → ℕ → PatternSight
pattern_sight says asked refusals = record { says = says; asked = asked; refusals = refusals }

-- ---- what the text alone decides

abbrev pub fault_status : AnswerFault → Status
fault_status (fault.Refused why) = status.QueryRefused why
fault_status fault.Memory = status.Memory

-- Whatever the tables are: rows are printed only for a query, and a text that is no query is refused with its reason.
abbrev pub AnswersText : Status → (Told → Type 0) → Type 0
AnswersText status.Done told = (q : Level) × told (Ok q)
AnswersText status.WriteFault told = (q : Level) × told (Ok q)
AnswersText (status.QueryRefused (BadPattern p)) told = (q : Level) × told (Ok q)
AnswersText (status.QueryRefused (SumTooLarge p)) told = (q : Level) × told (Ok q)
AnswersText (status.QueryRefused why) told = told (Err why)
AnswersText _ told = Unit {0}

-- ---- what is printed

-- the text was written; after a write fault, less than all of it
abbrev pub PrintsText : Status → List ℕ → Option (List ℕ) → Option (List ℕ) → Type 0
PrintsText status.Done text before after = Appends before after text
PrintsText status.WriteFault text before after = AppendsLess text before after
PrintsText _ text before after = ⊥

-- The rows that the query means were written, and a line end; after a write fault, less than that. A refusal names the first
-- reason why the query has no rows, and nothing is written.
abbrev pub PrintsRows : World → List ℕ → Option (List Asked) → Option (List Asked) → Status → Option (List ℕ) → Option (List ℕ) → Type 0
PrintsRows w text asked now status.Done before after = (rows : List ℕ) × MatchAnswer w (told_of text) asked now lines_text (Ok rows) × Appends before after (rows ++ 10 ∷ [])
PrintsRows w text asked now status.WriteFault before after = (rows : List ℕ) × MatchAnswer w (told_of text) asked now lines_text (Ok rows) × AppendsLess (rows ++ 10 ∷ []) before after
PrintsRows w text asked now (status.QueryRefused why) before after = MatchAnswer w (told_of text) asked now lines_text (Err (fault.Refused why)) × Keeps before after
PrintsRows w text asked now _ before after = Keeps before after

-- the ends of a query, once a core is opened
abbrev pub IsRowsEnd : Status → Type 0
IsRowsEnd status.Done = Unit {0}
IsRowsEnd status.WriteFault = Unit {0}
IsRowsEnd status.Memory = Unit {0}
IsRowsEnd (status.QueryRefused why) = Unit {0}
IsRowsEnd _ = ⊥

-- a pattern was refused
abbrev pub IsPatternEnd : Status → Type 0
IsPatternEnd (status.QueryRefused why) = IsPatternFault (fault.Refused why)
IsPatternEnd _ = ⊥

-- ---- query TEXT

-- The rows of the query that the text spells, over the tables of the history that the files stand for, as they are read.
pub record IsQueryRun {D : Type 0} (w : DiskSight D) (text : List ℕ) (patterns patterns_after : PatternSight) (out out_after : Stream) (disks after : Disks D) (answer : Status) : Type 0 where
  pub opens : OnlyOpens w disks after answer
  pub ends : IsRowsEnd answer ⊎ IsOpeningEnd answer
  pub prints : ForEachHistory w disks (λ ttls history. PrintsRows (world_of ttls (trace_of history) patterns.says) text patterns.asked patterns_after.asked answer out.bytes out_after.bytes)
  pub told : AnswersText answer (told_of text)
  pub silent : answer ≢ status.Done → answer ≢ status.WriteFault → Keeps out.bytes out_after.bytes
  pub same : (pattern string : List ℕ) → patterns_after.says pattern string ≡ patterns.says pattern string
  pub write_cause : Counts out.faults out_after.faults (answer ≡ status.WriteFault)
  -- the count of refusals rises only if a pattern was refused; then it rises, or stands at 2^64 - 1
  pub pattern_cause : Counts patterns.refusals patterns_after.refusals (IsPatternEnd answer)
