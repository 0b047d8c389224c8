-- Which arguments need the files, and which commands don't wait.
use Rattle.std.specs.Prelude.{ℕ, List, IsTrue}
use Rattle.busy_commands.specs.program_words.Words.{IsRequest, uses_disks}
use Rattle.busy_commands.specs.program_words.declared.request.Request.{Request}
use Rattle.busy_commands.specs.program_words.declared.request.Request.TheVariants as request

-- `run` and `serve` belong to another call
abbrev pub IsCalm : Request → Type 0
IsCalm (request.Run workers now serving) = ⊥
IsCalm (request.Serve serving now) = ⊥
IsCalm _ = Unit {0}

abbrev pub IsCalmCommand : List (List ℕ) → Type 0
IsCalmCommand words = (asked : Request) × IsRequest words asked × IsCalm asked

-- the arguments name a command that uses the four files
abbrev pub NeedDisks : List (List ℕ) → Type 0
NeedDisks words = (asked : Request) × IsRequest words asked × IsTrue (uses_disks asked)
