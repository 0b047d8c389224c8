use Rattle.std.proofs.Common.{◌≡◌, drop}
use Rattle.json_tree.specs.declared.number.NumberState.TheVariants.{Start}
use Rattle.json_tree.specs.Numbers.{completes}
use Rattle.json_tree.proofs.number.is_number.Given as goal

abbrev pub invariant-loop-byte : goal.invariant-loop-byte
invariant-loop-byte l = completes l.state (drop l.byte-index l.text) ≡ completes Start l.text
