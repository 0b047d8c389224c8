use Rattle.std.proofs.Common.{◌≡◌, ◌≤◌, length, take}
use Rattle.dump_laws.specs.dump_spec.Stamps.{without_zeros}
use Rattle.dump_writer.proofs.stamp.end_of.Given as goal

abbrev pub invariant-zeros : goal.invariant-zeros
invariant-zeros l = record {
  within : l.end ≤ length l.digits;
  same : without_zeros (take l.end l.digits) ≡ without_zeros l.digits;
}

abbrev pub decreases-zeros : goal.decreases-zeros
decreases-zeros l = l.end
