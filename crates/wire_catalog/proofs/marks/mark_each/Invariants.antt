use Rattle.std.proofs.Common.{◌≡◌, drop}
use Rattle.wire_catalog.specs.Marks.{mark_each}
use Rattle.wire_catalog.proofs.marks.mark_each.Given as goal

abbrev pub invariant-loop-byte : goal.invariant-loop-byte
invariant-loop-byte l = mark_each l.mark (drop l.byte-index l.bytes) ≡ mark_each l.fn.mark l.bytes
