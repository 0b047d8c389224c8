use Rattle.std.proofs.Common.{◌<◌, ◌≡◌, ℕ, true}
use Rattle.std.specs.Prelude.{slice_index}
use Rattle.json_tree.specs.Plain.{is_plain}
use Rattle.json_tree.proofs.write.are_plain.Given as goal

abbrev pub invariant-loop-byte : goal.invariant-loop-byte
invariant-loop-byte l = l.all ≡ true → (k : ℕ) → k < l.byte-index → is_plain (slice_index l.chunk k) ≡ true
