use Rattle.std.proofs.Common.{◌≡◌, drop}
use Rattle.wire_catalog.specs.Marks.{rise_from}
use Rattle.wire_catalog.proofs.marks.rise_from.Given as goal

abbrev pub invariant-loop-mark : goal.invariant-loop-mark
invariant-loop-mark l = rise_from l.last (drop l.mark-index l.marks) ≡ rise_from l.first l.marks
