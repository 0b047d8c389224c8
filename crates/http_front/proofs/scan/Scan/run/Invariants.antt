use Rattle.std.proofs.Common.{◌≤◌, ◌-◌, length}
use Rattle.http_front.specs.Scans.{lines_of, HasScanned}
use Rattle.http_front.proofs.scan.Scan.run.Given as goal
use Rattle.http_spec.specs.Limits.{most_head}

abbrev pub invariant-looking : goal.invariant-looking
invariant-looking l = record {
  inside : l.self.at ≤ length l.bytes;
  most : l.self.at ≤ most_head;
  lines : lines_of l.self ≤ l.self.at;
  scanned : HasScanned l.self l.bytes;
}

abbrev pub decreases-looking : goal.decreases-looking
decreases-looking l = most_head - l.self.at
