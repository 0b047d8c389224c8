use Rattle.std.proofs.Common.{◌≡◌, length}
use Rattle.wire_catalog.specs.Marks.{mark_on}
use Rattle.wire_catalog.proofs.marks.mark_on.Given as goal

abbrev pub invariant-fours : goal.invariant-fours
invariant-fours l = mark_on l.mark l.left ≡ mark_on l.fn.mark l.fn.bytes

abbrev pub decreases-fours : goal.decreases-fours
decreases-fours l = length l.left
