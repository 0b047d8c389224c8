use Rattle.std.proofs.Common.{ℕ, List, ◌++◌, drop}
use Rattle.calm_commands.specs.Calm.{AreLines}
use Rattle.calm_commands.proofs.discards.lines_of.Given as goal

abbrev pub invariant-lines : goal.invariant-lines
invariant-lines l = (rest : List ℕ) → AreLines (drop l.i l.discards.list) rest → AreLines l.discards.list (l.text.items ++ rest)
