use Rattle.std.proofs.Common.{◌≡◌, ◌≤◌, ◌-◌, length, flat_map}
use Rattle.std.specs.Prelude.{slice_range}
use Rattle.text_spec.specs.Compact.{escaped}
use Rattle.json_tree.proofs.write.chunks_end.Given as goal

abbrev pub invariant-chunks : goal.invariant-chunks
invariant-chunks l = record {
  from : l.start ≤ l.at;
  within : l.at ≤ length l.bytes;
  plain : flat_map escaped (slice_range l.bytes l.start l.at) ≡ slice_range l.bytes l.start l.at;
}

abbrev pub decreases-chunks : goal.decreases-chunks
decreases-chunks l = length l.bytes - l.at
