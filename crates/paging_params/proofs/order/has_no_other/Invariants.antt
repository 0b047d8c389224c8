use Rattle.std.proofs.Common.{◌≡◌, ◌≤◌, ◌-◌, length, drop}
use Rattle.paging_params.specs.Paging.{has_no_other}
use Rattle.paging_params.proofs.order.has_no_other.Given as goal

abbrev pub invariant-members : goal.invariant-members
invariant-members l = record {
  within : l.at ≤ length l.members;
  same : has_no_other (drop l.at l.members) ≡ has_no_other l.members;
}

abbrev pub decreases-members : goal.decreases-members
decreases-members l = length l.members - l.at
