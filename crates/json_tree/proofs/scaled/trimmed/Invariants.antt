use Rattle.std.proofs.Common.{◌≡◌, ℕ, ◌≤◌, ◌*◌, ◌-◌, ◌^◌, length, take}
use Rattle.std.specs.Str.Parse.{digits_value_after}
use Rattle.json_tree.proofs.scaled.trimmed.Given as goal

abbrev pub invariant-loop-end : goal.invariant-loop-end
invariant-loop-end l = record {
  within : l.end ≤ length l.digits;
  zeros : (n : ℕ) → digits_value_after 10 n l.digits ≡ digits_value_after 10 n (take l.end l.digits) * 10 ^ (length l.digits - l.end);
}

abbrev pub decreases-loop-end : goal.decreases-loop-end
decreases-loop-end l = l.end
