use Rattle.std.proofs.Common.{◌≡◌, ◌≤◌, ◌-◌, length, flat_map}
use Rattle.std.specs.Prelude.{slice_range}
use Rattle.text_spec.specs.Compact.{escaped}
use Rattle.json_tree.proofs.write.plain_end.Given as goal

abbrev pub invariant-loop-at : goal.invariant-loop-at
invariant-loop-at l = record {
  from : l.start ≤ l.at;
  within : l.at ≤ length l.bytes;
  plain : flat_map escaped (slice_range l.bytes l.start l.at) ≡ slice_range l.bytes l.start l.at;
}

abbrev pub decreases-loop-at : goal.decreases-loop-at
decreases-loop-at l = length l.bytes - l.at
