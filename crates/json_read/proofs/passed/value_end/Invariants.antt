use Rattle.std.proofs.Common.{◌-◌, ◌≡◌, ◌≤◌, ◌<◌, length, List, drop, Ok}
use Rattle.json_machine.specs.Machine.{Frame, value, verdict}
use Rattle.json_read.specs.Passed.{HasRoom, Passes}
use Rattle.json_read.proofs.passed.value_end.Given as goal

abbrev pub invariant-passing : goal.invariant-passing
invariant-passing l = record {
  past : l.start < l.at;
  within : l.at ≤ length l.bytes;
  room : HasRoom (length l.kinds.items) l.stage;
  same : (base : List Frame) → length base ≡ 1 → Passes l.bytes base l.kinds.items (Ok (l.stage, l.at)) (verdict 127 base value l.start (drop l.start l.bytes));
}

abbrev pub decreases-passing : goal.decreases-passing
decreases-passing l = length l.bytes - l.at
