use Rattle.std.proofs.Common.{◌≡◌, ◌≤◌, ◌-◌, length}
use Rattle.std.specs.Io.KnownBytes.{Keeps}
use Rattle.http_front.specs.Inside.{buffered, unread, IsReady}
use Rattle.http_front.specs.Fronts.{AsksForHead}
use Rattle.http_front.specs.Scans.{lines_of, HasScanned}
use Rattle.http_front.proofs.reader.Reader.find_head.Given as goal
use Rattle.http_spec.specs.Limits.{most_head}

abbrev pub invariant-reading : goal.invariant-reading
invariant-reading g l = record {
  kept : Keeps (unread l.fn.self.buffer l.fn.self.taken (g.L.Source.left l.fn.link)) (unread l.self.buffer l.self.taken (g.L.Source.left l.link));
  ready : IsReady l.self.buffer;
  inside : l.scan.at ≤ length (buffered l.self.buffer);
  most : l.scan.at ≤ most_head;
  lines : lines_of l.scan ≤ l.scan.at;
  scanned : HasScanned l.scan (buffered l.self.buffer);
  asks : AsksForHead (l.link ≡ l.fn.link) (buffered l.fn.self.buffer) (buffered l.self.buffer);
  later : g.L.Source.fault_count l.link ≡ g.L.Source.fault_count l.fn.link;
}

abbrev pub decreases-reading : goal.decreases-reading
decreases-reading g l = most_head - length (buffered l.self.buffer)
