use Rattle.std.proofs.Common.{◌≡◌, ◌≤◌, ◌-◌, ◌++◌, ◌∷◌, length, drop, flat_map}
use Rattle.std.specs.Io.{StartsWith}
use Rattle.text_spec.specs.Compact.{escaped}
use Rattle.json_tree.proofs.write.put_quoted.Given as goal

abbrev pub invariant-runs : goal.invariant-runs
invariant-runs l = record {
  within : l.at ≤ length l.bytes;
  so_far : l.out.items ++ flat_map escaped (drop l.at l.bytes) ≡ l.fn.out.items ++ 34 ∷ flat_map escaped l.bytes;
  appends : StartsWith l.out.items l.fn.out.items;
}

abbrev pub decreases-runs : goal.decreases-runs
decreases-runs l = length l.bytes - l.at
